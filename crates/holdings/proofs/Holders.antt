-- The code's test of a lock is the rules' test, and no lock word is set where nobody is live who may hold one.
use Prim.Native.Nat.{ℕ, zero, suc, ◌+◌, ◌*◌, ◌/◌, ◌%◌, ◌^◌, ◌<◌}
use mathlib.Core.Path.{◌≡◌, refl, sym, ap, ap₂, ◌∙◌, subst}
use mathlib.Core.Logic.{◌⊎◌, inl, inr}
use mathlib.Core.Bool.{Bool, ◌&&◌, ◌||◌, not}
use mathlib.Core.List.{List}
use native.Mathlib.Omega.{arith}
use native.Mathlib.Nat.{mod-eq_of_lt}
use lib.ListN.{get_or}
use lib.Bits.{bit_and, bit_or, bit_xor, and_le_l, and_le_r, or_lt, xor_add_and}
use lib.Dec.{T, eqb, leb, eqb→eq, leb→le, le→leb}
use borrow.Author.Tests.{eq-eqb, ne_eqb}
use Rattle.names.specs.Sizes.{base}
use Rattle.names.specs.Layout.{lock_exclusive_at, lock_working_at}
use Rattle.rules.specs.Words.{bit, every_below}
use Rattle.rules.specs.Tables.{Lock, lock, lock_row, lock_words, txn, live_update, live_settled, may_hold, holds_shared, holds_exclusive}
use Rattle.rules.specs.Good.{GoodLock}
use Rattle.rules.specs.Tested.{lock_good}
use Rattle.rules.proofs.Tests.{and_left, and_right, and_both, is_false, false_is, not_use, eq_make}
use Rattle.rules.proofs.Counts.{every_below→, →every_below}
use Rattle.rules.proofs.Bits.{bit-suc, bit_none, bit_below, no_bits}
use Rattle.rules.proofs.EqualRows.{lock→Good, Good→lock}
use Rattle.words.proofs.SlotWords.{and_at, or_at, sans_at}
use Rattle.words.proofs.Turns.{iff_eq}
use Rattle.shapes.specs.Shape.{updates_in, settled_in}
use Rattle.holdings.specs.Holding.{locks_good, lock_ok, locks_ok, nothing_held}
use Rattle.shapes.proofs.Masks.{slots_at, slots_lt}

-- ---- a word is its own part in another exactly if it has no bit that the other has not
part_of : (s u : ℕ) → ((b : ℕ) → T (bit s b) → T (bit u b)) → bit_and s u ≡ s
part_of s u f =
    let w : bit_xor s (bit_and s u) ≡ 0 =
    no_bits (bit_xor s (bit_and s u)) (λ b. is_false (bit (bit_xor s (bit_and s u)) b) (λ t.
    let k : T (bit s b && not (bit u b)) = subst T (sans_at s u b) t in
    not_use (bit u b) (and_right (bit s b) (not (bit u b)) k) (f b (and_left (bit s b) (not (bit u b)) k)))) in
    let x = xor_add_and s (bit_and s u) in
    let y = and_le_l s u in
    let z = and_le_r s (bit_and s u) in
    omega arith

in_part : (s u b : ℕ) → bit_and s u ≡ s → T (bit s b) → T (bit u b)
in_part s u b e t = and_right (bit s b) (bit u b) (subst T (and_at s u b) (subst (λ (w : ℕ). T (bit w b)) (sym e) t))

-- ---- the live updates, and all who may hold exclusively
module _ (t : List ℕ) where
  abbrev pub holders_in : ℕ
  holders_in = bit_or (updates_in base t) (settled_in base t)

  pub updates-lt : updates_in base t < 2 ^ base.slots
  unfolding updates_in
  updates-lt = slots_lt base.slots (λ s. live_update (txn t s))

  pub settled-lt : settled_in base t < 2 ^ base.slots
  unfolding settled_in
  settled-lt = slots_lt base.slots (λ s. live_settled (txn t s))

  updates_at : (s : ℕ) → s < base.slots → bit (updates_in base t) s ≡ live_update (txn t s)
  unfolding updates_in
  updates_at s b = slots_at base.slots (λ s. live_update (txn t s)) s b

  pub settled_at : (s : ℕ) → s < base.slots → bit (settled_in base t) s ≡ live_settled (txn t s)
  unfolding settled_in
  settled_at s b = slots_at base.slots (λ s. live_settled (txn t s)) s b

  pub holders_at : (s : ℕ) → s < base.slots → bit holders_in s ≡ may_hold (txn t s)
  unfolding may_hold
  holders_at s b = or_at (updates_in base t) (settled_in base t) s ∙ ap₂ ◌||◌ (updates_at s b) (settled_at s b)

  in_updates : (s : ℕ) → T (bit (updates_in base t) s) → (s < base.slots) × T (live_update (txn t s))
  in_updates s b = let i = bit_below (updates_in base t) s base.slots updates-lt b in (i, subst T (updates_at s i) b)

  to_updates : (s : ℕ) → (s < base.slots) × T (live_update (txn t s)) → T (bit (updates_in base t) s)
  to_updates s b = subst T (sym (updates_at s b.0)) b.1

  in_holders : (s : ℕ) → T (bit holders_in s) → (s < base.slots) × T (may_hold (txn t s))
  in_holders s b = let i = bit_below holders_in s base.slots (or_lt base.slots (updates_in base t) (settled_in base t) updates-lt settled-lt) b in (i, subst T (holders_at s i) b)

  to_holders : (s : ℕ) → (s < base.slots) × T (may_hold (txn t s)) → T (bit holders_in s)
  to_holders s b = subst T (sym (holders_at s b.0)) b.1

-- the code's test of the holder's bit: one place higher
owner_bit : (u y : ℕ) → suc y < 64 → eqb (u * 2 / 2 ^ (suc y % 64) % 2) 1 ≡ bit u y
unfolding bit
owner_bit u y l =
    ap (λ (k : ℕ). eqb (u * 2 / 2 ^ k % 2) 1) (mod-eq_of_lt l)
    ∙ bit-suc (u * 2) y
    ∙ ap (λ (k : ℕ). bit k y) (let z : u * 2 / 2 ≡ u = omega arith in z)

-- ---- one lock
module _ (t : List ℕ) (h : Lock) where
  abbrev u : ℕ
  u = updates_in base t

  abbrev w : ℕ
  w = holders_in t

  abbrev held_test : Bool
  held_test = eqb (w * 2 / 2 ^ (h.exclusive % 64) % 2) 1

  shared-good : h.exclusive ≡ 0 → T (eqb h.working 0 && eqb (bit_and h.shared u) h.shared) → GoodLock base t h
  unfolding holds_shared holds_exclusive
  shared-good e a =
      let p = eqb→eq (bit_and h.shared u) h.shared (and_right (eqb h.working 0) _ a) in
      record {
        sharers = λ s k. in_updates t s (in_part h.shared u s p k);
        excluders = λ s k. absurd (let q = eqb→eq h.exclusive (suc s) k in omega arith);
        never_both = inr e;
        no_working = λ z. eqb→eq h.working 0 (and_left (eqb h.working 0) _ a);
      }

  held-good : (y : ℕ) → h.exclusive ≡ suc y → T (eqb h.shared 0 && leb h.exclusive base.slots && held_test) → GoodLock base t h
  unfolding holds_shared holds_exclusive
  held-good y e a =
      let b = and_left (eqb h.shared 0 && leb h.exclusive base.slots) held_test a in
      let z = eqb→eq h.shared 0 (and_left (eqb h.shared 0) _ b) in
      let l = leb→le h.exclusive base.slots (and_right (eqb h.shared 0) _ b) in
      let o : T (bit w y) =
      subst T (ap (λ (x : ℕ). eqb (w * 2 / 2 ^ (x % 64) % 2) 1) e ∙ owner_bit w y (omega arith)) (and_right (eqb h.shared 0 && leb h.exclusive base.slots) held_test a) in
      record {
        sharers = λ s k. absurd (false_is (ap (λ (m : ℕ). bit m s) z ∙ bit_none s) k);
        excluders = λ s k.
            let q = eqb→eq h.exclusive (suc s) k in
            in_holders t s (subst (λ (m : ℕ). T (bit w m)) (let d : y ≡ s = omega arith in d) o);
        never_both = inl z;
        no_working = λ q. absurd (omega arith);
      }

  good-shared : h.exclusive ≡ 0 → GoodLock base t h → T (eqb h.working 0 && eqb (bit_and h.shared u) h.shared)
  unfolding holds_shared
  good-shared e g =
      and_both (eqb h.working 0) _ (eq_make h.working 0 (g.no_working e))
      (eq_make (bit_and h.shared u) h.shared (part_of h.shared u (λ b k. to_updates t b (g.sharers b k))))

  good-held : (y : ℕ) → h.exclusive ≡ suc y → GoodLock base t h → T (eqb h.shared 0 && leb h.exclusive base.slots && held_test)
  unfolding holds_exclusive
  good-held y e g =
      let p = g.excluders y (eq_make h.exclusive (suc y) e) in
      let i : y < base.slots = p.0 in
      and_both (eqb h.shared 0 && leb h.exclusive base.slots) held_test
      (and_both (eqb h.shared 0) _ (eq_make h.shared 0 (none g.never_both)) (le→leb h.exclusive base.slots (omega arith)))
      (subst T (sym (ap (λ (x : ℕ). eqb (w * 2 / 2 ^ (x % 64) % 2) 1) e ∙ owner_bit w y (omega arith))) (to_holders t y p))
    where
      none : (h.shared ≡ 0) ⊎ (h.exclusive ≡ 0) → h.shared ≡ 0
      none (inl z) = z
      none (inr z) = absurd (omega arith)

  pub lock-same : lock_ok u w h ≡ lock_good base t h
  unfolding lock_ok
  lock-same = go h.exclusive refl
    where
      go : (x : ℕ) → h.exclusive ≡ x → lock_ok u w h ≡ lock_good base t h
      go zero e =
          rw (eq-eqb h.exclusive 0 e)
          (iff_eq (eqb h.working 0 && eqb (bit_and h.shared u) h.shared) (lock_good base t h)
          (λ a. Good→lock base t h (shared-good e a)) (λ a. good-shared e (lock→Good base t h a)))
      go (suc y) e =
          rw (ne_eqb h.exclusive 0 (λ z. omega arith))
          (iff_eq (eqb h.shared 0 && leb h.exclusive base.slots && held_test) (lock_good base t h)
          (λ a. Good→lock base t h (held-good y e a)) (λ a. good-held y e (lock→Good base t h a)))

-- ---- all locks
pub locks-same : (t l : List ℕ) → locks_ok (updates_in base t) (holders_in t) l ≡ locks_good base t l
unfolding locks_ok locks_good
locks-same t l =
    iff_eq (every_below base.items (λ x. lock_ok (updates_in base t) (holders_in t) (lock l x))) (every_below base.items (λ x. lock_good base t (lock l x)))
    (λ a. →every_below base.items (λ x. lock_good base t (lock l x)) (λ x i. subst T (lock-same t (lock l x)) (every_below→ base.items (λ x. lock_ok (updates_in base t) (holders_in t) (lock l x)) a x i)))
    (λ a. →every_below base.items (λ x. lock_ok (updates_in base t) (holders_in t) (lock l x)) (λ x i. subst T (sym (lock-same t (lock l x))) (every_below→ base.items (λ x. lock_good base t (lock l x)) a x i)))

-- locks that pass are good
pub locks→Good : (t l : List ℕ) → T (locks_good base t l) → (x : ℕ) → x < base.items → GoodLock base t (lock l x)
unfolding locks_good
locks→Good t l h x i = lock→Good base t (lock l x) (every_below→ base.items (λ x. lock_good base t (lock l x)) h x i)

-- ---- nobody is live who may hold: no lock word is set
none_ok : (h : Lock) → T (lock_ok 0 0 h) → (h.shared ≡ 0) × (h.exclusive ≡ 0) × (h.working ≡ 0)
unfolding lock_ok bit
none_ok h a = go h.exclusive refl
  where
    go : (x : ℕ) → h.exclusive ≡ x → (h.shared ≡ 0) × (h.exclusive ≡ 0) × (h.working ≡ 0)
    go zero e =
        let b : T (eqb h.working 0 && eqb (bit_and h.shared 0) h.shared) = rw (eq-eqb h.exclusive 0 e) at a in
        let p = eqb→eq (bit_and h.shared 0) h.shared (and_right (eqb h.working 0) _ b) in
        ((let q = and_le_r h.shared 0 in omega arith), e, eqb→eq h.working 0 (and_left (eqb h.working 0) _ b))
    go (suc y) e =
        let b : T (eqb h.shared 0 && leb h.exclusive base.slots && eqb (0 * 2 / 2 ^ (h.exclusive % 64) % 2) 1) = rw (ne_eqb h.exclusive 0 (λ z. omega arith)) at a in
        absurd (false_is (bit_none (h.exclusive % 64)) (last (eqb h.shared 0 && leb h.exclusive base.slots) b))
      where
        last : (c : Bool) → T (c && eqb (0 * 2 / 2 ^ (h.exclusive % 64) % 2) 1) → T (bit 0 (h.exclusive % 64))
        last c b = and_right c _ b

pub none_held_same : (l : List ℕ) → nothing_held l ≡ locks_ok 0 0 l
unfolding nothing_held locks_ok lock lock_ok
none_held_same l =
    iff_eq (every_below (lock_words base) (λ k. eqb (get_or l k 0) 0)) (locks_ok 0 0 l)
    (λ a. →every_below base.items (λ x. lock_ok 0 0 (lock l x)) (λ x b.
    let p = word a (lock_row * x) (omega arith) in
    let q = word a (lock_row * x + lock_exclusive_at) (omega arith) in
    let r = word a (lock_row * x + lock_working_at) (omega arith) in
    rw (p, q, r) tt))
    (λ a. →every_below (lock_words base) (λ k. eqb (get_or l k 0) 0) (λ k b.
    let n = none_ok (lock l (k / lock_row)) (every_below→ base.items (λ x. lock_ok 0 0 (lock l x)) a (k / lock_row) (omega arith)) in
    eq_make (get_or l k 0) 0 (at k (k % lock_row) (omega arith) refl n.0 n.1 n.2)))
  where
    word : T (every_below (lock_words base) (λ k. eqb (get_or l k 0) 0)) → (k : ℕ) → k < lock_words base → get_or l k 0 ≡ 0
    word a k b = eqb→eq (get_or l k 0) 0 (every_below→ (lock_words base) (λ k. eqb (get_or l k 0) 0) a k b)

    at : (k r : ℕ) → r < lock_row → k % lock_row ≡ r → get_or l (lock_row * (k / lock_row)) 0 ≡ 0 → get_or l (lock_row * (k / lock_row) + lock_exclusive_at) 0 ≡ 0 → get_or l (lock_row * (k / lock_row) + lock_working_at) 0 ≡ 0 → get_or l k 0 ≡ 0
    at k zero b e x y z = ap (λ (m : ℕ). get_or l m 0) (let g : k ≡ lock_row * (k / lock_row) = omega arith in g) ∙ x
    at k (suc zero) b e x y z = ap (λ (m : ℕ). get_or l m 0) (let g : k ≡ lock_row * (k / lock_row) + lock_exclusive_at = omega arith in g) ∙ y
    at k (suc (suc zero)) b e x y z = ap (λ (m : ℕ). get_or l m 0) (let g : k ≡ lock_row * (k / lock_row) + lock_working_at = omega arith in g) ∙ z
    at k (suc (suc (suc r))) b e x y z = absurd (omega arith)
