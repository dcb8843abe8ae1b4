-- Request E6: the test of those past their writing says what GoodSettled says.
use Prim.Native.Nat.{ℕ, ◌<◌}
use mathlib.Core.Path.{◌≡◌, refl, sym}
use mathlib.Core.Logic.{◌≢◌, ◌⊎◌, inl, inr}
use mathlib.Core.Bool.{Bool, true, false, ◌&&◌, not}
use native.Mathlib.Omega.{arith}
use lib.Dec.{T, eqb, ltb, ltb→lt, lt→ltb}
use borrow.Author.Tests.{ltb-true, ltb-false}
use Rattle.names.specs.declared.Sizes.{Sizes}
use Rattle.rules.specs.Words.{implies, every_below}
use Rattle.rules.specs.Tables.{Tables, txn, live_settled, lock, holds_exclusive}
use Rattle.rules.specs.Versions.{versions_of, stamp_at}
use Rattle.rules.specs.Good.{GoodSettled}
use Rattle.rules.specs.Tested.{stamps_apart, stamp_above, settled_good}
use Rattle.rules.proofs.Tests.{and_left, and_right, and_both, implies_use, implies_make, ne_make, ne_use}
use Rattle.rules.proofs.Counts.{every_below→, →every_below}

module _ (S : Sizes) (G : Tables) where
  -- what is tested of slot s
  abbrev slot_test : ℕ → Bool
  slot_test s =
      every_below s (λ r. stamps_apart G.txns r s) && implies (live_settled (txn G.txns s)) (every_below S.items (stamp_above S G s))

  pub settled→Good : T (settled_good S G) → GoodSettled S G
  unfolding settled_good stamps_apart stamp_above
  settled→Good h =
      record {
        apart = λ r s i j d a b. pick r s i j a b (order r s d);
        above = λ s x i j a b.
            ltb→lt _ _
            (implies_use (holds_exclusive (lock G.locks x) s) _
            (every_below→ S.items (stamp_above S G s)
            (implies_use (live_settled (txn G.txns s)) _ (and_right (every_below s (λ r. stamps_apart G.txns r s)) _ (each s i)) a) x j) b);
      }
    where
      each : (s : ℕ) → s < S.slots → T (slot_test s)
      each s i = every_below→ S.slots slot_test h s i

      order : (r s : ℕ) → r ≢ s → (r < s) ⊎ (s < r)
      order r s d = go (ltb r s) refl
        where
          go : (b : Bool) → ltb r s ≡ b → (r < s) ⊎ (s < r)
          go true e = inl (ltb-true r s e)
          go false e = inr (let k = ltb-false r s e in omega arith)

      lower : (r s : ℕ) → r < s → s < S.slots → T (live_settled (txn G.txns r)) → T (live_settled (txn G.txns s)) → (txn G.txns r).start ≢ (txn G.txns s).start
      lower r s k j a b =
          ne_use (txn G.txns r).start (txn G.txns s).start
          (implies_use (live_settled (txn G.txns r) && live_settled (txn G.txns s)) _
          (every_below→ s (λ r. stamps_apart G.txns r s) (and_left (every_below s (λ r. stamps_apart G.txns r s)) _ (each s j)) r k)
          (and_both (live_settled (txn G.txns r)) _ a b))

      pick :
          (r s : ℕ) → r < S.slots → s < S.slots → T (live_settled (txn G.txns r)) → T (live_settled (txn G.txns s)) → (r < s) ⊎ (s < r)
          → (txn G.txns r).start ≢ (txn G.txns s).start
      pick r s i j a b (inl k) = lower r s k j a b
      pick r s i j a b (inr k) = λ e. lower s r k i b a (sym e)

  pub Good→settled : GoodSettled S G → T (settled_good S G)
  unfolding settled_good stamps_apart stamp_above
  Good→settled g =
      →every_below S.slots slot_test
      (λ s i.
      and_both (every_below s (λ r. stamps_apart G.txns r s)) _
      (→every_below s (λ r. stamps_apart G.txns r s)
      (λ r k.
      implies_make (live_settled (txn G.txns r) && live_settled (txn G.txns s)) _
      (λ a. ne_make (txn G.txns r).start (txn G.txns s).start
      (g.apart r s (omega arith) i (omega arith) (and_left (live_settled (txn G.txns r)) _ a) (and_right (live_settled (txn G.txns r)) _ a)))))
      (implies_make (live_settled (txn G.txns s)) _
      (λ a. →every_below S.items (stamp_above S G s)
      (λ x j. implies_make (holds_exclusive (lock G.locks x) s) _ (λ b. lt→ltb _ _ (g.above s x i j a b))))))
