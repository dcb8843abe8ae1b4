-- The test of the stamps, slot by slot and item by item, is the rules' test.
use Prim.Native.Nat.{ℕ, suc, ◌+◌, ◌*◌, ◌≤◌, ◌<◌}
use mathlib.Core.Path.{◌≡◌, refl, sym, ap, ◌∙◌, subst}
use mathlib.Core.Bool.{Bool, true, false, ◌&&◌, not}
use mathlib.Core.List.{List}
use native.Mathlib.Omega.{arith}
use lib.ListN.{get_or}
use lib.Dec.{T, eqb, ltb, eqb→eq}
use Rattle.names.specs.Sizes.{base}
use Rattle.names.specs.Layout.{version_stamp_at}
use Rattle.rules.specs.Words.{implies, every_below, bit, row}
use Rattle.rules.specs.Tables.{Tables, txn, live_settled, lock, holds_exclusive, version_row}
use Rattle.rules.specs.Versions.{versions_of, stamp_at}
use Rattle.rules.specs.Tested.{stamps_apart, stamp_above, settled_good}
use Rattle.rules.proofs.Tests.{and_left, and_right, and_both, implies_use, implies_make, is_true, false_is, eq_make}
use Rattle.rules.proofs.Counts.{every_below→, →every_below}
use Rattle.rules.proofs.Bits.{bit_none}
use Rattle.rules.proofs.Rows.{row_word}
use Rattle.words.proofs.Turns.{iff_eq}
use Rattle.choices.proofs.Read.{stamp_in_lem}
use Rattle.shapes.specs.Shape.{settled_in}
use Rattle.holdings.proofs.Holders.{settled_at}
use Rattle.holdings.proofs.Quotas.{every-same}
use Rattle.stamps.specs.Stamped.{Stamped, apart_from, apart_at, all_apart, above_at, all_above}

-- ---- who is past its writing, by the word of the slots
pub settled-bit : (t : List ℕ) (u s : ℕ) → Stamped t u → s < base.slots → bit u s ≡ live_settled (txn t s)
settled-bit t u s h i = ap (λ (w : ℕ). bit w s) h.seen ∙ settled_at t s i

-- the word of an item's newest stamp
pub newest-stamp : (v : List ℕ) (x : ℕ) → 1 ≤ get_or (row (version_row base) x v) 0 0 → get_or v (version_row base * x + version_stamp_at) 0 ≡ stamp_at (versions_of base v x) 0
unfolding versions_of
newest-stamp v x h = sym (row_word (version_row base) x version_stamp_at v (omega arith)) ∙ sym (stamp_in_lem (row (version_row base) x v) 0 (omega arith))

-- ---- one slot against those below
module _ (t : List ℕ) (s : ℕ) where
  -- who is not past its writing
  pub writing_apart : live_settled (txn t s) ≡ false → true ≡ apart_at t s
  unfolding apart_at stamps_apart
  writing_apart e =
      sym (is_true (apart_at t s) (→every_below s (λ r. stamps_apart t r s) (λ r i.
      implies_make (live_settled (txn t r) && live_settled (txn t s)) _ (λ k. absurd (false_is e (and_right (live_settled (txn t r)) _ k))))))

  -- who is
  pub settled-apart : live_settled (txn t s) ≡ true → apart_from t s (txn t s).start ≡ apart_at t s
  unfolding apart_from apart_at stamps_apart implies
  settled-apart e =
      every-same s (λ r. not (live_settled (txn t r) && eqb (txn t r).start (txn t s).start)) (λ r. stamps_apart t r s)
      (λ r i. go r (live_settled (txn t r)) refl)
    where
      go : (r : ℕ) (c : Bool) → live_settled (txn t r) ≡ c → not (live_settled (txn t r) && eqb (txn t r).start (txn t s).start) ≡ stamps_apart t r s
      go r true k = rw (k, e)
      go r false k = rw k

-- ---- one item
module _ (G : Tables) (x : ℕ) where
  -- nobody past its writing holds it
  pub above_none : ((s : ℕ) → s < base.slots → T (live_settled (txn G.txns s)) → (lock G.locks x).exclusive ≡ suc s → ⊥) → true ≡ above_at G x
  unfolding above_at stamp_above holds_exclusive
  above_none d =
      sym (is_true (above_at G x) (→every_below base.slots (λ s. implies (live_settled (txn G.txns s)) (stamp_above base G s x)) (λ s i.
      implies_make (live_settled (txn G.txns s)) _ (λ k. implies_make (holds_exclusive (lock G.locks x) s) _ (λ h. absurd (d s i k (eqb→eq (lock G.locks x).exclusive (suc s) h)))))))

  -- slot s does
  pub above_one :
      (s : ℕ) → s < base.slots → T (live_settled (txn G.txns s)) → (lock G.locks x).exclusive ≡ suc s
      → ltb (stamp_at (versions_of base G.versions x) 0) (txn G.txns s).start ≡ above_at G x
  unfolding above_at stamp_above holds_exclusive
  above_one s i k e =
      iff_eq (ltb (stamp_at (versions_of base G.versions x) 0) (txn G.txns s).start) (above_at G x)
      (λ h. →every_below base.slots (λ s. implies (live_settled (txn G.txns s)) (stamp_above base G s x)) (λ r j.
      implies_make (live_settled (txn G.txns r)) _ (λ m. implies_make (holds_exclusive (lock G.locks x) r) _ (λ n.
      subst (λ (m : ℕ). T (ltb (stamp_at (versions_of base G.versions x) 0) (txn G.txns m).start)) (let q = eqb→eq (lock G.locks x).exclusive (suc r) n in let z : s ≡ r = omega arith in z) h))))
      (λ h.
      implies_use (holds_exclusive (lock G.locks x) s) _
      (implies_use (live_settled (txn G.txns s)) _ (every_below→ base.slots (λ s. implies (live_settled (txn G.txns s)) (stamp_above base G s x)) h s i) k)
      (eq_make (lock G.locks x).exclusive (suc s) e))

-- ---- all slots and all items
module _ (G : Tables) where
  abbrev t : List ℕ
  t = G.txns

  abbrev slot_test : ℕ → Bool
  slot_test s = every_below s (λ r. stamps_apart t r s) && implies (live_settled (txn t s)) (every_below base.items (stamp_above base G s))

  abbrev item_test : ℕ → ℕ → Bool
  item_test x s = implies (live_settled (txn t s)) (stamp_above base G s x)

  pub stamps-same : (all_apart t && all_above G) ≡ settled_good base G
  unfolding all_apart apart_at all_above above_at settled_good
  stamps-same =
      iff_eq (all_apart t && all_above G) (settled_good base G)
      (λ h.
      let a = and_left (every_below base.slots (apart_at t)) _ h in
      let b = and_right (every_below base.slots (apart_at t)) _ h in
      →every_below base.slots slot_test (λ s i.
      and_both (every_below s (λ r. stamps_apart t r s)) _ (every_below→ base.slots (apart_at t) a s i)
      (implies_make (live_settled (txn t s)) _ (λ k. →every_below base.items (stamp_above base G s) (λ x j.
      implies_use (live_settled (txn t s)) _ (every_below→ base.slots (item_test x) (every_below→ base.items (above_at G) b x j) s i) k)))))
      (λ h.
      let at : (s : ℕ) → s < base.slots → T (slot_test s) = λ s i. every_below→ base.slots slot_test h s i in
      and_both (every_below base.slots (apart_at t)) _
      (→every_below base.slots (apart_at t) (λ s i. and_left (every_below s (λ r. stamps_apart t r s)) _ (at s i)))
      (→every_below base.items (above_at G) (λ x j. →every_below base.slots (item_test x) (λ s i.
      implies_make (live_settled (txn t s)) _ (λ k.
      every_below→ base.items (stamp_above base G s) (implies_use (live_settled (txn t s)) _ (and_right (every_below s (λ r. stamps_apart t r s)) _ (at s i)) k) x j)))))

  -- nobody is past its writing
  pub none_stamped : settled_in base t ≡ 0 → T (settled_good base G)
  unfolding settled_good stamps_apart
  none_stamped e =
      →every_below base.slots slot_test (λ s i.
      let off : live_settled (txn t s) ≡ false = sym (settled_at t s i) ∙ ap (λ (u : ℕ). bit u s) e ∙ bit_none s in
      and_both (every_below s (λ r. stamps_apart t r s)) _
      (→every_below s (λ r. stamps_apart t r s) (λ r j. implies_make (live_settled (txn t r) && live_settled (txn t s)) _ (λ k. absurd (false_is off (and_right (live_settled (txn t r)) _ k)))))
      (implies_make (live_settled (txn t s)) _ (λ k. absurd (false_is off k))))
