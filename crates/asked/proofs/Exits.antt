-- Where the judging of a read or of a write ends: for each exit, the deed that the rules say, from what the code found on its way.
use Prim.Native.Nat.{ℕ, ◌<◌}
use mathlib.Core.Path.{◌≡◌, sym, ap, ◌∙◌}
use mathlib.Core.Logic.{◌≢◌}
use mathlib.Core.Bool.{Bool, true, false}
use lib.Dec.{leb}
use Rattle.std.specs.Prelude.{Some, None}
use Rattle.names.specs.Sizes.{base}
use Rattle.names.specs.Words.{item_of}
use Rattle.names.specs.declared.Slot.{Slot}
use Rattle.names.specs.declared.Item.{Item}
use Rattle.rules.specs.Tables.{Tables, txn, slot_of, shared_lock, exclusive_lock, an_update, query_kind}
use Rattle.rules.specs.Locks.{to_read, to_write}
use Rattle.rules.specs.Answers.{Refused, UnknownTransaction, UnknownItem, QueryMayNotWrite, StillWaiting, QuotaSpent, PastWriting}
use Rattle.rules.specs.Step.{read_by, write_by, access, start_read, awaits_other, writes_further, writes_past}
use Rattle.rows.specs.Founds.{found_at}
use Rattle.callers.proofs.Founds.{found_nobody, known, unknown}
use Rattle.callers.proofs.Named.{caller, of_kind, no_kind, query_is, other_is_lem}

module _ (G : Tables) (n x : ℕ) where
  pub read-unknown : found_at (slot_of base G.txns n) ≡ None → Refused UnknownTransaction ≡ read_by base n x G
  unfolding read_by
  read-unknown e = rw (found_nobody (slot_of base G.txns n) e)

  pub write-unknown : (v : ℕ) → found_at (slot_of base G.txns n) ≡ None → Refused UnknownTransaction ≡ write_by base n x v G
  unfolding write_by
  write-unknown v e = rw (found_nobody (slot_of base G.txns n) e)

  module _ (s : Slot) (e : found_at (slot_of base G.txns n) ≡ Some s) where
    pub read_no_item : item_of x ≡ None → Refused UnknownItem ≡ read_by base n x G
    unfolding read_by
    read_no_item u = rw ((caller G.txns n s e).some, unknown x u)

    pub write_no_item : (v : ℕ) → item_of x ≡ None → Refused UnknownItem ≡ write_by base n x v G
    unfolding write_by
    write_no_item v u = rw ((caller G.txns n s e).some, unknown x u)

    module _ (y : Item) (i : item_of x ≡ Some y) where
      pub item-inside : y.0 < base.items
      item-inside = (known x y i).2

      item_is : y.0 ≡ x
      item_is = (known x y i).0

      inside : leb base.items x ≡ false
      inside = (known x y i).1

      -- ---- read
      pub read-waits : (b : Bool) → b ≡ awaits_other G.txns s.0 shared_lock x → b ≡ true → Refused StillWaiting ≡ read_by base n x G
      unfolding read_by
      read-waits b h q = rw ((caller G.txns n s e).some, inside, other_is_lem G.txns n s e shared_lock x h ∙ q)

      module _ (b : Bool) (h : b ≡ awaits_other G.txns s.0 shared_lock x) (free : b ≡ false) (k : ℕ) (ek : k ≡ (txn G.txns s.0).kind) where
        pub read-starts : k ≢ an_update → start_read base s.0 y.0 G ≡ read_by base n x G
        unfolding read_by
        read-starts q =
            rw ((caller G.txns n s e).some, inside, other_is_lem G.txns n s e shared_lock x h ∙ free, no_kind G.txns n s e an_update ek q, ← (caller G.txns n s e).is, ← item_is)

        pub read-asks : k ≡ an_update → access base to_read s.0 y.0 0 G ≡ read_by base n x G
        unfolding read_by
        read-asks d =
            rw ((caller G.txns n s e).some, inside, other_is_lem G.txns n s e shared_lock x h ∙ free, of_kind G.txns n s e an_update ek d, ← (caller G.txns n s e).is, ← item_is)

      -- ---- write
      module _ (v : ℕ) (o : Bool) (eo : o ≡ query_kind (txn G.txns s.0).kind) where
        pub write-query : o ≡ true → Refused QueryMayNotWrite ≡ write_by base n x v G
        unfolding write_by
        write-query q = rw ((caller G.txns n s e).some, inside, query_is G.txns n s e eo ∙ q)

        module _ (d : o ≡ false) (b : Bool) (h : b ≡ awaits_other G.txns s.0 exclusive_lock x) where
          pub write-waits : b ≡ true → Refused StillWaiting ≡ write_by base n x v G
          unfolding write_by
          write-waits q = rw ((caller G.txns n s e).some, inside, query_is G.txns n s e eo ∙ d, other_is_lem G.txns n s e exclusive_lock x h ∙ q)

          module _ (free : b ≡ false) (p : Bool) (l : p ≡ writes_past G.txns G.locks s.0 y.0) where
            past_is : writes_past G.txns G.locks (slot_of base G.txns n) x ≡ p
            past_is =
                ap (λ (z : ℕ). writes_past G.txns G.locks z x) (sym (caller G.txns n s e).is)
                ∙ ap (λ (z : ℕ). writes_past G.txns G.locks s.0 z) (sym item_is) ∙ sym l

            pub write-past : p ≡ true → Refused PastWriting ≡ write_by base n x v G
            unfolding write_by
            write-past q =
                rw ((caller G.txns n s e).some, inside, query_is G.txns n s e eo ∙ d, other_is_lem G.txns n s e exclusive_lock x h ∙ free, past_is ∙ q)

            module _ (writing : p ≡ false) (r : Bool) (m : r ≡ writes_further base G.locks s.0 y.0) where
              further_is : writes_further base G.locks (slot_of base G.txns n) x ≡ r
              further_is =
                  ap (λ (z : ℕ). writes_further base G.locks z x) (sym (caller G.txns n s e).is)
                  ∙ ap (λ (z : ℕ). writes_further base G.locks s.0 z) (sym item_is) ∙ sym m

              pub write_full : r ≡ true → Refused QuotaSpent ≡ write_by base n x v G
              unfolding write_by
              write_full q =
                  rw (
                    (caller G.txns n s e).some,
                    inside,
                    query_is G.txns n s e eo ∙ d,
                    other_is_lem G.txns n s e exclusive_lock x h ∙ free,
                    past_is ∙ writing,
                    further_is ∙ q,
                  )

              pub write-asks : r ≡ false → access base to_write s.0 y.0 v G ≡ write_by base n x v G
              unfolding write_by
              write-asks q =
                  rw (
                    (caller G.txns n s e).some,
                    inside,
                    query_is G.txns n s e eo ∙ d,
                    other_is_lem G.txns n s e exclusive_lock x h ∙ free,
                    past_is ∙ writing,
                    further_is ∙ q,
                    ← (caller G.txns n s e).is,
                    ← item_is,
                  )
