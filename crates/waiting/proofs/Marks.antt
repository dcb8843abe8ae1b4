-- The word of the slots that stand ahead.
use Prim.Native.Nat.{ℕ, ◌<◌}
use mathlib.Core.Path.{◌≡◌, refl, sym, ◌∙◌}
use mathlib.Core.Bool.{Bool, true, false}
use mathlib.Core.List.{List}
use native.Mathlib.Omega.{arith}
use lib.ListN.{length}
use lib.Dec.{T, ltb}
use borrow.Author.Tests.{ltb-true, ltb-false}
use Rattle.names.specs.Sizes.{base}
use Rattle.rules.specs.Words.{bit, slots_that}
use Rattle.rules.specs.Tables.{txn, txn_words}
use Rattle.rules.specs.Waits.{ahead}
use Rattle.rules.proofs.Tests.{is_false}
use Rattle.rules.proofs.Bits.{slots_at, slots_lt, slots→}
use Rattle.rules.proofs.EqualRanks.{awaits→, awaits_on→, waiter_inside}
use Rattle.rules.proofs.Walks.{ahead→}
use Rattle.waiting.specs.Waiting.{Ahead}

-- no row beyond the slots stands ahead
pub ahead_of : (t : List ℕ) (k x p : ℕ) → length t ≡ txn_words base → {w : ℕ} → w ≡ slots_that base.slots (λ b. ahead x k p (txn t b)) → Ahead t k x p w
ahead_of t k x p size {w} e =
    rw e (record { small = slots_lt base.slots first; at = λ b. go b (ltb b base.slots) refl })
  where
    first : ℕ → Bool
    first b = ahead x k p (txn t b)

    slot : (b : ℕ) → T (first b) → b < base.slots
    slot b q = waiter_inside base t size b (awaits→ (txn t b) (awaits_on→ x (txn t b) (ahead→ x k p (txn t b) q).0).0)

    go : (b : ℕ) (c : Bool) → ltb b base.slots ≡ c → bit (slots_that base.slots first) b ≡ first b
    go b true i = slots_at base.slots first b (ltb-true b base.slots i)
    go b false i =
        let n = ltb-false b base.slots i in
        is_false (bit (slots_that base.slots first) b) (λ q. let j = (slots→ base.slots first b q).0 in omega arith)
        ∙ sym (is_false (first b) (λ q. let j = slot b q in omega arith))
