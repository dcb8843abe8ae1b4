-- The caller, as a search found it: what is read of its slot is known of the slot that the rules find.
use Prim.Native.Nat.{ℕ, ◌<◌}
use mathlib.Core.Path.{◌≡◌, sym, ap, ◌∙◌}
use mathlib.Core.Logic.{◌≢◌}
use mathlib.Core.Bool.{Bool, true, false}
use mathlib.Core.List.{List}
use native.Mathlib.Omega.{arith}
use lib.Dec.{eqb}
use borrow.Author.Tests.{eq-eqb, ne_eqb}
use Rattle.names.specs.Sizes.{base}
use Rattle.names.specs.declared.Slot.{Slot}
use Rattle.rules.specs.Tables.{Tables, Txn, txn, slot_of, query_kind}
use Rattle.rules.specs.Good.{Good}
use Rattle.rules.specs.Step.{awaits_other}
use Rattle.rows.specs.Founds.{found_at}
use Rattle.std.specs.Prelude.{Some}
use Rattle.callers.specs.Searchable.{Searchable, FreeRows}
use Rattle.callers.proofs.Founds.{FoundSlot, found-slot, slot-most}

-- good tables can be searched
pub searchable : (G : Tables) → Good base G → Searchable G.txns
searchable G g =
    record {
      size = g.txns_exact;
      last = g.last_most;
      now = g.clock_most;
      given = λ s i. let a = (g.txn_good s i).given in let b = g.last_most in omega arith;
    }

-- and a free row of theirs has no kind of its own
pub free-rows : (G : Tables) → Good base G → FreeRows G.txns
free-rows G g = record { unkind = λ b i z. ap (λ (r : Txn). r.kind) ((g.txn_good b i).free z) }

-- ---- the transaction that a call names
module _ (t : List ℕ) (n : ℕ) where
  abbrev pub found : ℕ
  found = slot_of base t n

  -- it is in slot s
  module _ (s : Slot) (e : found_at (slot_of base t n) ≡ Some s) where
    pub caller : FoundSlot (slot_of base t n) s
    caller = found-slot (slot_of base t n) s e

    pub caller-inside : s.0 < base.slots
    caller-inside = caller.inside (slot-most t n)

    -- what is known of slot s is known of the slot that the rules find
    pub kind_is : {k : ℕ} → k ≡ (txn t s.0).kind → (txn t found).kind ≡ k
    kind_is h = ap (λ (m : ℕ). (txn t m).kind) (sym caller.is) ∙ sym h

    pub of_kind : {k : ℕ} (j : ℕ) → k ≡ (txn t s.0).kind → k ≡ j → eqb (txn t found).kind j ≡ true
    of_kind j h q = eq-eqb (txn t found).kind j (kind_is h ∙ q)

    pub no_kind : {k : ℕ} (j : ℕ) → k ≡ (txn t s.0).kind → k ≢ j → eqb (txn t found).kind j ≡ false
    no_kind j h q = ne_eqb (txn t found).kind j (λ e. q (sym (kind_is h) ∙ e))

    pub query_is : {b : Bool} → b ≡ query_kind (txn t s.0).kind → query_kind (txn t found).kind ≡ b
    query_is h = ap (λ (m : ℕ). query_kind (txn t m).kind) (sym caller.is) ∙ sym h

    pub awaited_is : {k : ℕ} → k ≡ (txn t s.0).awaited_lock → (txn t found).awaited_lock ≡ k
    awaited_is h = ap (λ (m : ℕ). (txn t m).awaited_lock) (sym caller.is) ∙ sym h

    pub other_is_lem : {b : Bool} (k x : ℕ) → b ≡ awaits_other t s.0 k x → awaits_other t found k x ≡ b
    other_is_lem k x h = ap (λ (m : ℕ). awaits_other t m k x) (sym caller.is) ∙ sym h
