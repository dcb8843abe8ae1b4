-- Where the judging of a begin or of an end ends: for each exit, the deed that the rules say, from what the code found on its way.
use Prim.Native.Nat.{ℕ, ◌+◌}
use mathlib.Core.Path.{◌≡◌, refl, sym, ap, ◌∙◌}
use mathlib.Core.Logic.{◌≢◌}
use mathlib.Core.Bool.{Bool, true, false, not}
use mathlib.Core.List.{List}
use native.Mathlib.Omega.{arith}
use lib.Dec.{eqb, ltb}
use borrow.Author.Tests.{eq-eqb, ne_eqb, ltb-true, ltb-false}
use Rattle.std.specs.Prelude.{Option, Some, None}
use Rattle.names.specs.Sizes.{base, last_word}
use Rattle.names.specs.Words.{next_stamp}
use Rattle.names.specs.declared.Slot.{Slot}
use Rattle.names.specs.declared.Stamp.{Stamp}
use Rattle.rules.specs.Tables.{last_number, clock, txn, slot_of, free_slot, no_lock, a_settled, query_kind, some_relaxed, exclusives_of}
use Rattle.rules.specs.Answers.{Refused, Begins, Commits, CommitsEmpty, Ends, Aborts, Settles, CommitsSettled, AbortsSettled}
use Rattle.rules.specs.Answers.{NoSlot, NumbersSpent, UnknownTransaction, QueryMayNotWrite, StillWaiting, ClockSpent, PastWriting, KeptApart}
use Rattle.rules.specs.Step.{begin_by, commit_update, commit_by, abort_by, settle_by, meets_settled}
use Rattle.rows.specs.Founds.{found_at}
use Rattle.callers.specs.Searchable.{Searchable, of_txns, of_locks}
use Rattle.callers.proofs.Founds.{FoundSlot, found-slot, found_nobody}
use Rattle.callers.proofs.Named.{caller, of_kind, no_kind, query_is, awaited_is}

-- ---- begin
module _ (t : List ℕ) (k : ℕ) (q : Stamp) where
  pub begin_full : found_at (free_slot base t) ≡ None → Refused NoSlot ≡ begin_by base k q.0 (of_txns t)
  unfolding begin_by
  begin_full e = rw (found_nobody (free_slot base t) e)

  module _ (s : Slot) (e : found_at (free_slot base t) ≡ Some s) where
    f : FoundSlot (free_slot base t) s
    f = found-slot (free_slot base t) s e

    pub begin_spent : last_number t ≡ last_word → Refused NumbersSpent ≡ begin_by base k q.0 (of_txns t)
    unfolding begin_by
    begin_spent h = rw (f.some, eq-eqb (last_number t) last_word h)

    module _ (h : last_number t ≢ last_word) (b : Bool) (eb : b ≡ meets_settled base t k) where
      pub begin_apart : b ≡ true → Refused KeptApart ≡ begin_by base k q.0 (of_txns t)
      unfolding begin_by
      begin_apart y = rw (f.some, ne_eqb (last_number t) last_word h, sym eb ∙ y)

      pub begin_begins : b ≡ false → Begins s k q ≡ begin_by base k q.0 (of_txns t)
      unfolding begin_by
      begin_begins y = rw (f.some, ne_eqb (last_number t) last_word h, sym eb ∙ y, ← f.is)

-- ---- whether a stamp is left
module _ (t : List ℕ) (c : Stamp) (ec : c.0 ≡ clock t) where
  clock_spent_lem : Searchable t → next_stamp c ≡ None → clock t ≡ last_word
  unfolding next_stamp
  clock_spent_lem R h = sym ec ∙ go (ltb c.0 last_word) refl
    where
      go : (b : Bool) → ltb c.0 last_word ≡ b → c.0 ≡ last_word
      go true q = absurd (let z : ◌≡◌ {A = ℕ} 0 1 = (let m : ◌≡◌ {A = Option Stamp} (Some (record { 0 = c.0 + 1 })) None = sym (rw q) ∙ h in cc) in omega arith)
      go false q = let l = ltb-false c.0 last_word q in let m = R.now in omega arith

  clock-left : (z : Stamp) → next_stamp c ≡ Some z → clock t ≢ last_word
  unfolding next_stamp
  clock-left z h e = go (ltb c.0 last_word) refl (ec ∙ e)
    where
      go : (b : Bool) → ltb c.0 last_word ≡ b → c.0 ≡ last_word → ⊥
      go true q m = let l = ltb-true c.0 last_word q in omega arith
      go false q m = absurd (let z : ◌≡◌ {A = ℕ} 0 1 = (let m : ◌≡◌ {A = Option Stamp} None (Some z) = sym (rw q) ∙ h in cc) in omega arith)

-- ---- the transaction that a call names
module _ (t : List ℕ) (n : ℕ) where
  -- ---- commit
  module _ (l : List ℕ) where
    pub commit-unknown : found_at (slot_of base t n) ≡ None → Refused UnknownTransaction ≡ commit_by base n (of_locks t l)
    unfolding commit_by
    commit-unknown e = rw (found_nobody (slot_of base t n) e)

    module _ (s : Slot) (e : found_at (slot_of base t n) ≡ Some s) (w : ℕ) (ew : w ≡ (txn t s.0).awaited_lock) where
      pub commit-waits : w ≢ no_lock → Refused StillWaiting ≡ commit_by base n (of_locks t l)
      unfolding commit_by
      commit-waits d = rw ((caller t n s e).some, ne_eqb (txn t (slot_of base t n)).awaited_lock no_lock (λ q. d (sym (awaited_is t n s e ew) ∙ q)))

      module _ (idle : w ≡ no_lock) (b : Bool) (eb : b ≡ query_kind (txn t s.0).kind) where
        none : eqb (txn t (slot_of base t n)).awaited_lock no_lock ≡ true
        none = eq-eqb (txn t (slot_of base t n)).awaited_lock no_lock (awaited_is t n s e ew ∙ idle)

        pub commit-ends : b ≡ true → Ends s ≡ commit_by base n (of_locks t l)
        unfolding commit_by
        commit-ends q = rw ((caller t n s e).some, none, query_is t n s e eb ∙ q, ← (caller t n s e).is)

        module _ (d : b ≡ false) (k : ℕ) (ek : k ≡ (txn t s.0).kind) where
          pub commit-settled : k ≡ a_settled → CommitsSettled s ≡ commit_by base n (of_locks t l)
          unfolding commit_by
          commit-settled q = rw ((caller t n s e).some, none, query_is t n s e eb ∙ d, of_kind t n s e a_settled ek q, ← (caller t n s e).is)

          pub commit-updates : k ≢ a_settled → commit_update base s.0 (of_locks t l) ≡ commit_by base n (of_locks t l)
          unfolding commit_by
          commit-updates w' =
              rw ((caller t n s e).some, none, query_is t n s e eb ∙ d, no_kind t n s e a_settled ek w') (ap (λ (m : ℕ). commit_update base m (of_locks t l)) (caller t n s e).is)

  -- ---- settle
  pub settle-unknown : found_at (slot_of base t n) ≡ None → Refused UnknownTransaction ≡ settle_by base n (of_txns t)
  unfolding settle_by
  settle-unknown e = rw (found_nobody (slot_of base t n) e)

  module _ (s : Slot) (e : found_at (slot_of base t n) ≡ Some s) (b : Bool) (eb : b ≡ query_kind (txn t s.0).kind) where
    pub settle-query : b ≡ true → Refused QueryMayNotWrite ≡ settle_by base n (of_txns t)
    unfolding settle_by
    settle-query q = rw ((caller t n s e).some, query_is t n s e eb ∙ q)

    module _ (d : b ≡ false) (k : ℕ) (ek : k ≡ (txn t s.0).kind) where
      pub settle-past : k ≡ a_settled → Refused PastWriting ≡ settle_by base n (of_txns t)
      unfolding settle_by
      settle-past q = rw ((caller t n s e).some, query_is t n s e eb ∙ d, of_kind t n s e a_settled ek q)

      module _ (w' : k ≢ a_settled) (w : ℕ) (ew : w ≡ (txn t s.0).awaited_lock) where
        pub settle-waits : w ≢ no_lock → Refused StillWaiting ≡ settle_by base n (of_txns t)
        unfolding settle_by
        settle-waits f =
            rw ((caller t n s e).some, query_is t n s e eb ∙ d, no_kind t n s e a_settled ek w', ne_eqb (txn t (slot_of base t n)).awaited_lock no_lock (λ q. f (sym (awaited_is t n s e ew) ∙ q)))

        module _ (idle : w ≡ no_lock) (c : Stamp) (ec : c.0 ≡ clock t) where
          rests : eqb (txn t (slot_of base t n)).awaited_lock no_lock ≡ true
          rests = eq-eqb (txn t (slot_of base t n)).awaited_lock no_lock (awaited_is t n s e ew ∙ idle)

          pub settle_spent : Searchable t → next_stamp c ≡ None → Refused ClockSpent ≡ settle_by base n (of_txns t)
          unfolding settle_by
          settle_spent R h =
              rw ((caller t n s e).some, query_is t n s e eb ∙ d, no_kind t n s e a_settled ek w', rests, eq-eqb (clock t) last_word (clock_spent_lem t c ec R h))

          module _ (z : Stamp) (h : next_stamp c ≡ Some z) (o : Bool) (eo : o ≡ some_relaxed base t) where
            pub settle-apart : o ≡ true → Refused KeptApart ≡ settle_by base n (of_txns t)
            unfolding settle_by
            settle-apart y =
                rw ((caller t n s e).some, query_is t n s e eb ∙ d, no_kind t n s e a_settled ek w', rests, ne_eqb (clock t) last_word (clock-left t c ec z h), sym eo ∙ y)

            pub settle_settles : o ≡ false → Settles s ≡ settle_by base n (of_txns t)
            unfolding settle_by
            settle_settles y =
                rw (
                  (caller t n s e).some,
                  query_is t n s e eb ∙ d,
                  no_kind t n s e a_settled ek w',
                  rests,
                  ne_eqb (clock t) last_word (clock-left t c ec z h),
                  sym eo ∙ y,
                  ← (caller t n s e).is,
                )

  -- ---- abort
  pub abort-unknown : found_at (slot_of base t n) ≡ None → Refused UnknownTransaction ≡ abort_by base n (of_txns t)
  unfolding abort_by
  abort-unknown e = rw (found_nobody (slot_of base t n) e)

  module _ (s : Slot) (e : found_at (slot_of base t n) ≡ Some s) (b : Bool) (eb : b ≡ query_kind (txn t s.0).kind) where
    pub abort-ends : b ≡ true → Ends s ≡ abort_by base n (of_txns t)
    unfolding abort_by
    abort-ends q = rw ((caller t n s e).some, query_is t n s e eb ∙ q, ← (caller t n s e).is)

    module _ (d : b ≡ false) (k : ℕ) (ek : k ≡ (txn t s.0).kind) where
      pub abort-settled : k ≡ a_settled → AbortsSettled s ≡ abort_by base n (of_txns t)
      unfolding abort_by
      abort-settled q = rw ((caller t n s e).some, query_is t n s e eb ∙ d, of_kind t n s e a_settled ek q, ← (caller t n s e).is)

      pub abort_aborts : k ≢ a_settled → Aborts s ≡ abort_by base n (of_txns t)
      unfolding abort_by
      abort_aborts w = rw ((caller t n s e).some, query_is t n s e eb ∙ d, no_kind t n s e a_settled ek w, ← (caller t n s e).is)

-- ---- the commit of an update that still writes, in slot s
is_none : (b : Bool) → false ≡ not b → b ≡ true
is_none true e = refl
is_none false e = e

is_some : (b : Bool) → true ≡ not b → b ≡ false
is_some true e = e
is_some false e = refl

module _ (t l : List ℕ) (s : Slot) where
  pub update_empty : false ≡ not (eqb (exclusives_of base l s.0) 0) → CommitsEmpty s ≡ commit_update base s.0 (of_locks t l)
  unfolding commit_update
  update_empty e = rw (is_none (eqb (exclusives_of base l s.0) 0) e)

  module _ (some : true ≡ not (eqb (exclusives_of base l s.0) 0)) (c : Stamp) (ec : c.0 ≡ clock t) where
    abbrev held : eqb (exclusives_of base l s.0) 0 ≡ false
    held = is_some (eqb (exclusives_of base l s.0) 0) some

    pub update_spent : Searchable t → next_stamp c ≡ None → Refused ClockSpent ≡ commit_update base s.0 (of_locks t l)
    unfolding commit_update
    update_spent R h = rw (held, eq-eqb (clock t) last_word (clock_spent_lem t c ec R h))

    pub update-commits : (z : Stamp) → next_stamp c ≡ Some z → Commits s ≡ commit_update base s.0 (of_locks t l)
    unfolding commit_update
    update-commits z h = rw (held, ne_eqb (clock t) last_word (clock-left t c ec z h))
