-- A good row by its words: the code's test says that.
use Prim.Native.Nat.{ℕ, zero, suc, ◌+◌, ◌-◌, ◌*◌, ◌<◌, ◌≤◌}
use mathlib.Core.Path.{◌≡◌, refl, sym, ap, ◌∙◌, subst}
use mathlib.Core.Bool.{Bool, true, false, ◌&&◌, not, cond}
use mathlib.Core.List.{List}
use native.Mathlib.Omega.{arith}
use lib.ListN.{get_or}
use lib.Dec.{T, eqb, leb, ltb, leb→le, le→leb, eqb→eq}
use borrow.Author.Tests.{eqb-true, le-ltb, ltb-true, ltb-false}
use Rattle.names.specs.Sizes.{base}
use Rattle.names.specs.Layout.{version_stamp_at, version_pair}
use Rattle.rules.specs.Words.{every_below, contains}
use Rattle.rules.specs.Tables.{version_row, masks_at}
use Rattle.rules.proofs.Tests.{and_left, and_right, and_both, ne_make, ne_use, eq_make}
use Rattle.rules.proofs.Counts.{every_below→, →every_below}
use Rattle.choices.specs.Pairs.{count_in, stamp_in, hidden_in}
use Rattle.words.specs.Zeros.{zero_words}
use Rattle.versions.specs.Rows.{stamp_before, pairs_wide, step_at, walk_in, walk_ok, unused_ok, many_ok, one_ok, row_ok}
use Rattle.versions.proofs.NoneHidden.{zero_at, zero_make, none_within}

-- a good row, by its words, the starts in order and the slots of the relaxed queries
pub record Row (now : ℕ) (q : List ℕ) (w : ℕ) (r : List ℕ) : Type 0 where
  pub least : 1 ≤ count_in r
  pub most : count_in r ≤ base.places
  pub unused : (k : ℕ) → 2 * count_in r < k → k < masks_at base → get_or r k 0 ≡ 0
  pub unhidden : (k : ℕ) → count_in r ≤ k → k < base.places → get_or r (masks_at base + k) 0 ≡ 0
  pub known : T (contains w (hidden_in r 0))
  pub new : stamp_in r 0 ≤ now
  pub old : stamp_before r (count_in r) ≤ get_or q 0 0
  pub shown : hidden_in r (count_in r - 1) ≡ 0
  pub step : (j : ℕ) → j < count_in r - 1 → T (step_at q r j)

-- ---- the code's test
module _ (now : ℕ) (q : List ℕ) (w : ℕ) (r : List ℕ) where
  abbrev n : ℕ
  n = count_in r

  abbrev first : ℕ
  first = version_stamp_at + version_pair

  abbrev rest : Bool
  rest = zero_words r (version_stamp_at + version_pair) (version_row base - (version_stamp_at + version_pair))

  abbrev new_enough : Bool
  new_enough = leb (stamp_in r 0) now

  abbrev oldest : Bool
  oldest = leb (stamp_in r 0) (get_or q 0 0)

  one→ : n ≡ 1 → T (one_ok now q r) → Row now q w r
  unfolding one_ok
  one→ e t =
      let h = and_left (rest && new_enough) oldest t in
      let z : (i : ℕ) → first ≤ i → i < version_row base → get_or r i 0 ≡ 0 = λ i a b. zero_at r first (version_row base - first) (and_left rest new_enough h) i a (omega arith) in
      record {
        least = omega arith;
        most = omega arith;
        unused = λ k a b. z k (omega arith) (omega arith);
        unhidden = λ k a b. z (masks_at base + k) (omega arith) (omega arith);
        known = subst (λ (m : ℕ). T (contains w m)) (sym (z (masks_at base + 0) (omega arith) (omega arith))) (none_within w);
        new = leb→le (stamp_in r 0) now (and_right rest new_enough h);
        old =
            subst (λ (m : ℕ). stamp_before r m ≤ get_or q 0 0) (sym e)
            (leb→le (stamp_in r 0) (get_or q 0 0) (and_right (rest && new_enough) oldest t));
        shown = z (masks_at base + (n - 1)) (omega arith) (omega arith);
        step = λ j b. absurd (omega arith);
      }

  →one : n ≡ 1 → Row now q w r → T (one_ok now q r)
  unfolding one_ok
  →one e g =
      and_both (rest && new_enough) oldest
      (and_both rest new_enough (zero_make r first (version_row base - first) (λ i a b. word i a (omega arith) (ltb i (masks_at base)) refl)) (le→leb (stamp_in r 0) now g.new))
      (le→leb (stamp_in r 0) (get_or q 0 0) (subst (λ (m : ℕ). stamp_before r m ≤ get_or q 0 0) e g.old))
    where
      mask : (k : ℕ) → k < base.places → get_or r (masks_at base + k) 0 ≡ 0
      mask zero h = ap (λ (k : ℕ). get_or r (masks_at base + k) 0) (let z : 0 ≡ n - 1 = omega arith in z) ∙ g.shown
      mask (suc k) h = g.unhidden (suc k) (omega arith) h

      word : (i : ℕ) → first ≤ i → i < version_row base → (b : Bool) → ltb i (masks_at base) ≡ b → get_or r i 0 ≡ 0
      word i a h true c = g.unused i (omega arith) (ltb-true i (masks_at base) c)
      word i a h false c =
          let l = ltb-false i (masks_at base) c in
          ap (λ (k : ℕ). get_or r k 0) (let z : i ≡ masks_at base + (i - masks_at base) = omega arith in z) ∙ mask (i - masks_at base) (omega arith)

  abbrev masks_rest : Bool
  masks_rest = zero_words r (masks_at base + n) (base.places - n)

  abbrev last_old : Bool
  last_old = leb (stamp_before r n) (get_or q 0 0)

  abbrev last_shown : Bool
  last_shown = eqb (hidden_in r (n - 1)) 0

  many→ : stamp_in r 0 ≤ now → T (many_ok r q w) → Row now q w r
  unfolding many_ok walk_ok walk_in unused_ok
  many→ new t =
      record {
        least = let d = ne_use n 0 (and_left (not (eqb n 0)) _ t) in omega arith;
        most = most;
        unused = λ k a b. zero_at r (version_stamp_at + n * version_pair) (pairs_wide - n * version_pair) (and_right (walk_ok q w r n) (unused_ok r n) t₂) k (omega arith) (let l = most in omega arith);
        unhidden = λ k a b. zero_at r (masks_at base + n) (base.places - n) (and_left masks_rest _ t₄) (masks_at base + k) (omega arith) (omega arith);
        known = and_left (contains w (hidden_in r 0)) _ t₃;
        new = new;
        old = leb→le (stamp_before r n) (get_or q 0 0) (and_left last_old _ t₅);
        shown = eqb→eq (hidden_in r (n - 1)) 0 (and_left last_shown _ t₆);
        step = every_below→ (n - 1) (step_at q r) (and_right last_shown _ t₆);
      }
    where
      off : (b : Bool) → T (not b) → b ≡ false
      off true t = absurd t
      off false t = refl

      t₁ : T (not (ltb base.places n) && (walk_ok q w r n && unused_ok r n))
      t₁ = and_right (not (eqb n 0)) _ t

      most : n ≤ base.places
      most = ltb-false base.places n (off (ltb base.places n) (and_left (not (ltb base.places n)) _ t₁))

      t₂ : T (walk_ok q w r n && unused_ok r n)
      t₂ = and_right (not (ltb base.places n)) _ t₁

      t₃ : T (contains w (hidden_in r 0) && (masks_rest && (last_old && (last_shown && every_below (n - 1) (step_at q r)))))
      t₃ = and_left (walk_ok q w r n) (unused_ok r n) t₂

      t₄ : T (masks_rest && (last_old && (last_shown && every_below (n - 1) (step_at q r))))
      t₄ = and_right (contains w (hidden_in r 0)) _ t₃

      t₅ : T (last_old && (last_shown && every_below (n - 1) (step_at q r)))
      t₅ = and_right masks_rest _ t₄

      t₆ : T (last_shown && every_below (n - 1) (step_at q r))
      t₆ = and_right last_old _ t₅

  →many : Row now q w r → T (many_ok r q w)
  unfolding many_ok walk_ok walk_in unused_ok
  →many g =
      and_both (not (eqb n 0)) _ (ne_make n 0 (λ z. let l = g.least in omega arith))
      (and_both (not (ltb base.places n)) _ (on (ltb base.places n) (le-ltb base.places n g.most))
      (and_both (walk_ok q w r n) (unused_ok r n)
      (and_both (contains w (hidden_in r 0)) _ g.known
      (and_both masks_rest _
      (zero_make r (masks_at base + n) (base.places - n)
      (λ i a b.
      let m = g.most in
      ap (λ (k : ℕ). get_or r k 0) (let z : i ≡ masks_at base + (i - masks_at base) = omega arith in z) ∙ g.unhidden (i - masks_at base) (omega arith) (omega arith)))
      (and_both last_old _ (le→leb (stamp_before r n) (get_or q 0 0) g.old)
      (and_both last_shown _ (eq_make (hidden_in r (n - 1)) 0 g.shown) (→every_below (n - 1) (step_at q r) g.step)))))
      (zero_make r (version_stamp_at + n * version_pair) (pairs_wide - n * version_pair) (λ i a b. let m = g.most in g.unused i (omega arith) (omega arith)))))
    where
      on : (b : Bool) → b ≡ false → T (not b)
      on b e = subst (λ (c : Bool). T (not c)) (sym e) tt

  pub row_ok→ : T (row_ok now q w r) → Row now q w r
  unfolding row_ok
  row_ok→ t = go (eqb n 1) refl t
    where
      go : (c : Bool) → eqb n 1 ≡ c → T (cond c (one_ok now q r) (leb (stamp_in r 0) now && many_ok r q w)) → Row now q w r
      go true e t = one→ (eqb-true n 1 e) t
      go false e t = many→ (leb→le (stamp_in r 0) now (and_left new_enough (many_ok r q w) t)) (and_right new_enough (many_ok r q w) t)

  pub →row_ok : Row now q w r → T (row_ok now q w r)
  unfolding row_ok
  →row_ok g = go (eqb n 1) refl
    where
      go : (c : Bool) → eqb n 1 ≡ c → T (cond c (one_ok now q r) (leb (stamp_in r 0) now && many_ok r q w))
      go true e = →one (eqb-true n 1 e) g
      go false e = and_both new_enough (many_ok r q w) (le→leb (stamp_in r 0) now g.new) (→many g)
