-- The pass that marks: one slot more is marked, or it is seen that the ranks are not good.
use Prim.Native.Nat.{ℕ, suc, ◌+◌, ◌*◌, ◌/◌, ◌%◌, ◌^◌, ◌≤◌, ◌<◌}
use mathlib.Core.Path.{◌≡◌, refl, sym, ap, ap₂, ◌∙◌, subst}
use mathlib.Core.Logic.{◌≢◌, ◌⊎◌, inl, inr, ⊎_elim}
use mathlib.Core.Bool.{Bool, true, false, ◌&&◌, ◌||◌}
use mathlib.Core.List.{List}
use native.Mathlib.Omega.{arith}
use native.Mathlib.Nat.{mod-lt, zero-mul, not-suc-le-zero}
use lib.Bits.{bit_or}
use lib.ListN.{get_or, set, length-set, replicate}
use lib.Seq.{get_or-set_same, get_or-set_other}
use lib.Dec.{T, eqb, eqb→eq}
use Rattle.names.specs.Sizes.{base}
use Rattle.rules.specs.Words.{bit, some_below}
use Rattle.rules.specs.Tables.{txn, lock, holds_shared, no_lock}
use Rattle.rules.specs.Waits.{awaits, awaits_on}
use Rattle.rules.specs.Tested.{ranks_good}
use borrow.Author.Tests.{eq-eqb, ne_eqb}
use Rattle.rules.proofs.Tests.{and_left, and_right, and_both, or_cases, or_left, or_right, eq_make, is_true, is_false, same?}
use Rattle.rules.proofs.Counts.{some_below→, →some_below}
use Rattle.rules.proofs.Bits.{bit_none, one_bit_at}
use Rattle.rules.proofs.EqualRanks.{awaits→, →awaits, awaits_on→, →awaits_on, ranks→Good}
use Rattle.words.proofs.SlotWords.{or_at, shifted, one_shifted}
use Rattle.words.proofs.Turns.{some_more}
use Rattle.words.proofs.ZeroWords.{no_word}
use Rattle.ranks.proofs.Ranks.{waiters_most}
use Rattle.ranked.specs.Marks.{Known, sharing, marks, Marked}

-- ---- what a mark says
module _ (t l : List ℕ) (x q s : ℕ) where
  pub marks→ : T (marks t l x q s) → T (awaits_on x (txn t s)) × (((txn t s).rank ≡ q) ⊎ (T (holds_shared (lock l x) s) × ((txn t s).rank + sharing ≡ q)))
  unfolding marks
  marks→ h = (
    and_left (awaits_on x (txn t s)) _ h,
    ⊎_elim (λ u. inl (eqb→eq (txn t s).rank q u)) (λ u. inr (and_left (holds_shared (lock l x) s) _ u, eqb→eq ((txn t s).rank + sharing) q (and_right (holds_shared (lock l x) s) _ u)))
        (or_cases (eqb (txn t s).rank q) _ (and_right (awaits_on x (txn t s)) _ h)),
  )

  pub mark-rank : T (awaits_on x (txn t s)) → (txn t s).rank ≡ q → T (marks t l x q s)
  unfolding marks
  mark-rank a e = and_both (awaits_on x (txn t s)) _ a (or_left (eqb (txn t s).rank q) _ (eq_make (txn t s).rank q e))

  pub mark-shares : T (awaits_on x (txn t s)) → T (holds_shared (lock l x) s) → (txn t s).rank + sharing ≡ q → T (marks t l x q s)
  unfolding marks
  mark-shares a h e =
      and_both (awaits_on x (txn t s)) _ a
      (or_right (eqb (txn t s).rank q) _ (and_both (holds_shared (lock l x) s) _ h (eq_make ((txn t s).rank + sharing) q e)))

  marks_on : T (awaits_on x (txn t s)) → marks t l x q s ≡ (eqb (txn t s).rank q || (holds_shared (lock l x) s && eqb ((txn t s).rank + sharing) q))
  unfolding marks
  marks_on a = rw (is_true (awaits_on x (txn t s)) a)

-- ---- an awaited item is one, as the code reads it
pub item_below :
    {t l : List ℕ} {s k x : ℕ} → Known t l → s < base.slots → k ≡ (txn t s).awaited_lock → k ≢ no_lock → x ≡ (txn t s).awaited_item
    → x < base.items
item_below {t} {l} {s} o i e d f = subst (λ (n : ℕ). n < base.items) (sym f) (o.item_known s i (λ z. d (e ∙ z)))

-- ---- no slot yet
pub marked_none : (t l w : List ℕ) → w ≡ replicate base.items 0 → Marked t l w 0
unfolding some_below
marked_none t l w e =
    rw e
    (record {
      size = refl;
      at = λ x q h. ap (λ (v : ℕ). bit v q) (no_word base.items x) ∙ bit_none q;
      least = λ s h. absurd (not-suc-le-zero h);
      most = λ s h. absurd (not-suc-le-zero h);
      apart = λ x r s h. absurd (not-suc-le-zero h);
    })

-- a bit's number is its mark's, less 1
eqb-suc : (d q : ℕ) {p : ℕ} → suc d ≡ p → eqb d q ≡ eqb p (suc q)
eqb-suc d q {p} e = go (same? d q)
  where
    go : (d ≡ q) ⊎ (d ≢ q) → eqb d q ≡ eqb p (suc q)
    go (inl z) = eq-eqb d q z ∙ sym (eq-eqb p (suc q) (omega arith))
    go (inr n) = ne_eqb d q n ∙ sym (ne_eqb p (suc q) (λ z. n (omega arith)))

-- the second mark: a digit moved up
digit_at : (d k q : ℕ) → d < 2 → k < 64 → bit (d * 2 ^ k % 2 ^ 64) q ≡ (eqb d 1 && eqb k q)
digit_at d k q h i = go (same? d 1)
  where
    go : (d ≡ 1) ⊎ (d ≢ 1) → bit (d * 2 ^ k % 2 ^ 64) q ≡ (eqb d 1 && eqb k q)
    go (inl e) = rw (e, shifted k i) (one_bit_at k q)
    go (inr n) = let z : d ≡ 0 = omega arith in rw (z, zero-mul (2 ^ k)) (bit_none q)

regroup : (a b c : Bool) → ((a || b) || c) ≡ ((b || c) || a)
regroup true true c = refl
regroup true false true = refl
regroup true false false = refl
regroup false true c = refl
regroup false false true = refl
regroup false false false = refl

module _ {t l w : List ℕ} {n : ℕ} (i : n < base.slots) (m : Marked t l w n) where
  -- ---- slot n does not wait
  pub marked_still : (txn t n).awaited_lock ≡ no_lock → Marked t l w (n + 1)
  marked_still z =
      record {
        size = m.size;
        at = λ x q h.
            m.at x q h
            ∙ sym (some_more (marks t l x (suc q)) n ∙ ap (λ (b : Bool). b || some_below n (marks t l x (suc q))) (is_false (marks t l x (suc q) n) (λ u. idle n refl (awaits_on→ x (txn t n) (marks→ t l x (suc q) n u).0).0)));
        least = λ s h a. m.least s (before s h a) a;
        most = λ s h a. m.most s (before s h a) a;
        apart = λ x r s h k d a b. m.apart x r s (before r h (awaits_on→ x (txn t r) a).0) (before s k (awaits_on→ x (txn t s) b).0) d a b;
      }
    where
      idle : (s : ℕ) → s ≡ n → T (awaits (txn t s)) → ⊥
      idle s e a = awaits→ (txn t s) a (ap (λ (k : ℕ). (txn t k).awaited_lock) e ∙ z)

      before : (s : ℕ) → s < n + 1 → T (awaits (txn t s)) → s < n
      before s h a = ⊎_elim (λ e. absurd (idle s e a)) (λ (d : s ≢ n). omega arith) (same? s n)

  -- ---- slot n waits on item x at the rank p
  module _ {x p : ℕ} (ex : x ≡ (txn t n).awaited_item) (ep : p ≡ (txn t n).rank) (a : (txn t n).awaited_lock ≢ no_lock) where
    waits : T (awaits (txn t n))
    waits = →awaits (txn t n) a

    here : T (awaits_on x (txn t n))
    here = →awaits_on x (txn t n) waits (sym ex)

    -- that is no rank
    pub rank_0 : p ≡ 0 → T (ranks_good base t l) → ⊥
    rank_0 z g = let k = (ranks→Good base t l g).least n i waits in omega arith

    pub rank_high : base.slots < p → T (ranks_good base t l) → ⊥
    rank_high h g = let k = (ranks→Good base t l g).most n i waits in omega (arith, waiters_most t (txn t n).awaited_item)

    -- its mark's bit is d
    module _ (hx : x < base.items) (hp : p ≤ base.slots) {d : ℕ} (ed : suc d ≡ p) where
      marked : (n : ℕ) → some_below n (marks t l x (suc d)) ≡ some_below n (marks t l x p)
      marked n = ap (λ (q : ℕ). some_below n (marks t l x q)) ed

      -- it is taken
      pub rank-taken : get_or w x 0 / 2 ^ d % 2 ≡ 1 → T (ranks_good base t l) → ⊥
      unfolding bit
      rank-taken e g = both (marks→ t l x p other.0 other.2)
        where
          other : (s : ℕ) × (s < n) × T (marks t l x p s)
          other = some_below→ n (marks t l x p) (subst T (m.at x d hx ∙ marked n) (eq_make (get_or w x 0 / 2 ^ d % 2) 1 e))

          both :
              T (awaits_on x (txn t other.0)) × (((txn t other.0).rank ≡ p) ⊎ (T (holds_shared (lock l x) other.0) × ((txn t other.0).rank + sharing ≡ p)))
              → ⊥
          both u =
              let s = other.0 in
              let b = other.1 in
              ⊎_elim
              (λ (r : (txn t s).rank ≡ p). (ranks→Good base t l g).apart x s n (omega arith) i (λ z. omega arith) u.0 here (r ∙ ep))
              (λ (v : T (holds_shared (lock l x) s) × ((txn t s).rank + sharing ≡ p)). let r = v.1 in let k = m.least s b (awaits_on→ x (txn t s) u.0).0 in omega arith)
              u.1

      -- it is free, and marked
      module _ (free : get_or w x 0 / 2 ^ d % 2 ≢ 1) {h : ℕ} (eh : h ≡ (lock l x).shared) where
        abbrev word : ℕ
        word = bit_or (bit_or (get_or w x 0) (one_shifted d)) (h / 2 ^ n % 2 * 2 ^ (d + sharing) % 2 ^ 64)

        said : (q : ℕ) → (eqb d q || (eqb (h / 2 ^ n % 2) 1 && eqb (d + sharing) q)) ≡ marks t l x (suc q) n
        unfolding holds_shared bit
        said q =
            ap₂ ◌||◌ (eqb-suc d q ed) (ap (λ (b : Bool). eqb (h / 2 ^ n % 2) 1 && b) (eqb-suc (d + sharing) q (let z : suc (d + sharing) ≡ p + sharing = omega arith in z)))
            ∙ rw (ep, eh) (sym (marks_on t l x (suc q) n here))

        word_at : (q : ℕ) → bit word q ≡ (marks t l x (suc q) n || bit (get_or w x 0) q)
        word_at q =
            or_at (bit_or (get_or w x 0) (one_shifted d)) (h / 2 ^ n % 2 * 2 ^ (d + sharing) % 2 ^ 64) q
            ∙ ap₂ ◌||◌ (or_at (get_or w x 0) (one_shifted d) q ∙ ap (λ (b : Bool). bit (get_or w x 0) q || b) (ap (λ (v : ℕ). bit v q) (shifted d (omega arith)) ∙ one_bit_at d q))
            (digit_at (h / 2 ^ n % 2) (d + sharing) q (mod-lt (h / 2 ^ n) (omega arith)) (omega arith))
            ∙ regroup (bit (get_or w x 0) q) (eqb d q) (eqb (h / 2 ^ n % 2) 1 && eqb (d + sharing) q)
            ∙ ap (λ (b : Bool). b || bit (get_or w x 0) q) (said q)

        fresh : (y s : ℕ) → s < n → T (awaits_on y (txn t s)) → T (awaits_on y (txn t n)) → (txn t s).rank ≢ (txn t n).rank
        unfolding bit
        fresh y s k b c e =
            let z : y ≡ x = sym (awaits_on→ y (txn t n) c).1 ∙ sym ex in
            free (eqb→eq (get_or w x 0 / 2 ^ d % 2) 1
            (subst T (sym (m.at x d hx ∙ marked n)) (→some_below n (marks t l x p) s k (mark-rank t l x p s (subst (λ (y : ℕ). T (awaits_on y (txn t s))) z b) (e ∙ sym ep)))))

        pub marked_more : {v : List ℕ} → v ≡ set w x word → Marked t l v (n + 1)
        marked_more {v} e =
            rw e
            (record {
              size = length-set w x word ∙ m.size;
              at = λ y q k. some y q k (same? y x);
              least = λ s k b. ⊎_elim (λ (z : s ≡ n). subst (λ (s : ℕ). 1 ≤ (txn t s).rank) (sym z) (omega arith)) (λ (d : s ≢ n). m.least s (omega arith) b) (same? s n);
              most = λ s k b. ⊎_elim (λ (z : s ≡ n). subst (λ (s : ℕ). (txn t s).rank ≤ base.slots) (sym z) (omega arith)) (λ (d : s ≢ n). m.most s (omega arith) b) (same? s n);
              apart = λ y r s k j d b c. pair y r s k j d b c (same? r n) (same? s n);
            })
          where
            some : (y q : ℕ) → y < base.items → (y ≡ x) ⊎ (y ≢ x) → bit (get_or (set w x word) y 0) q ≡ some_below (n + 1) (marks t l y (suc q))
            some y q k (inl z) =
                subst (λ (y : ℕ). bit (get_or (set w x word) y 0) q ≡ some_below (n + 1) (marks t l y (suc q))) (sym z)
                (ap (λ (v : ℕ). bit v q) (get_or-set_same w x word 0 (let u = m.size in omega arith))
                ∙ word_at q ∙ ap (λ (b : Bool). marks t l x (suc q) n || b) (m.at x q hx) ∙ sym (some_more (marks t l x (suc q)) n))
            some y q k (inr e) =
                ap (λ (v : ℕ). bit v q) (get_or-set_other w x y word 0 e)
                ∙ m.at y q k
                ∙ sym (some_more (marks t l y (suc q)) n
                ∙ ap (λ (b : Bool). b || some_below n (marks t l y (suc q))) (is_false (marks t l y (suc q) n) (λ u. e (sym (awaits_on→ y (txn t n) (marks→ t l y (suc q) n u).0).1 ∙ sym ex))))

            pair :
                (y r s : ℕ) → r < n + 1 → s < n + 1 → r ≢ s → T (awaits_on y (txn t r)) → T (awaits_on y (txn t s))
                → (r ≡ n) ⊎ (r ≢ n) → (s ≡ n) ⊎ (s ≢ n) → (txn t r).rank ≢ (txn t s).rank
            pair y r s k j d b c (inl u) (inl v) = absurd (d (u ∙ sym v))
            pair y r s k j d b c (inl u) (inr v) =
                λ z. fresh y s (omega arith) c (subst (λ (r : ℕ). T (awaits_on y (txn t r))) u b) (sym z ∙ ap (λ (r : ℕ). (txn t r).rank) u)
            pair y r s k j d b c (inr u) (inl v) =
                λ z. fresh y r (omega arith) b (subst (λ (r : ℕ). T (awaits_on y (txn t r))) v c) (z ∙ ap (λ (r : ℕ). (txn t r).rank) v)
            pair y r s k j d b c (inr u) (inr v) = m.apart y r s (omega arith) (omega arith) d b c
