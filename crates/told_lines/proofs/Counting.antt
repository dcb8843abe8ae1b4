-- Lines counted, the first bad one, and what is said: with a line more.
use Prim.Native.Nat.{ℕ, zero, suc, ◌+◌, ◌<◌, ◌≤◌}
use mathlib.Core.Path.{◌≡◌, refl, sym, ap, ap₂, subst, ◌∙◌}
use mathlib.Core.Bool.{Bool, true, false, cond}
use mathlib.Core.List.{List, [], ◌∷◌, ◌++◌}
use native.Mathlib.Omega.{arith}
use lib.Dec.{eqb, leb}
use lib.ListN.{length, length-append}
use borrow.Author.Tests.{le-leb, lt-leb, leb-true, leb-false, eq-eqb, ne_eqb, eqb-true, eqb-false}
use Rattle.std.specs.Prelude.{Option, Some, None}
use Rattle.std.specs.Option.{unwrap_or}
use Rattle.numerals.specs.Numbers.{greatest}
use Rattle.numerals.proofs.Decimals.{length-decimal}
use Rattle.line_words.specs.Said.{Said, comment, says, bad}
use Rattle.told_lines.specs.Lines.{said_in, bad_from, first_bad, capped, bad_line, Tallied, bad_text, longest_bad}

-- ---- a count up to the greatest number

pub capped-low : (n : ℕ) → n ≤ greatest → capped n ≡ n
unfolding capped
capped-low n h = rw (le-leb n greatest h)

capped_high : (n : ℕ) → greatest < n → capped n ≡ greatest
unfolding capped
capped_high n h = rw (lt-leb n greatest h)

low_or_high : {A : Type 0} (n : ℕ) → (n ≤ greatest → A) → (greatest < n → A) → A
low_or_high {A} n a b = go (leb n greatest) refl
  where
    go : (g : Bool) → leb n greatest ≡ g → A
    go true e = a (leb-true n greatest e)
    go false e = b (leb-false n greatest e)

pub next_more : (l n : ℕ) → l < greatest → l ≡ capped n → l + 1 ≡ capped (suc n)
next_more l n h e =
    low_or_high n
    (λ k. let q = capped-low n k in let g : suc n ≤ greatest = omega arith in let z = capped-low (suc n) g in omega arith)
    (λ k. let q = capped_high n k in absurd (omega arith))

pub next-most : (l n : ℕ) → greatest ≤ l → l ≡ capped n → l ≡ capped (suc n)
next-most l n h e =
    low_or_high n
    (λ k. let q = capped-low n k in let g : greatest < suc n = omega arith in let z = capped_high (suc n) g in omega arith)
    (λ k. let q = capped_high n k in let g : greatest < suc n = omega arith in let z = capped_high (suc n) g in omega arith)

pub capped_none : (n : ℕ) → eqb (capped n) 0 ≡ eqb n 0
capped_none n =
    low_or_high n
    (λ k. ap (λ (m : ℕ). eqb m 0) (capped-low n k))
    (λ k. let q = capped_high n k in ne_eqb (capped n) 0 (λ z. omega arith) ∙ sym (ne_eqb n 0 (λ z. omega arith)))

pub capped_zero : (n : ℕ) → capped n ≡ 0 → n ≡ 0
capped_zero n e = eqb-true n 0 (sym (capped_none n) ∙ eq-eqb (capped n) 0 e)

pub capped_some : (n : ℕ) → 0 < capped n → 0 < n
capped_some zero h = let z = capped-low 0 (omega arith) in absurd (omega arith)
capped_some (suc n) h = omega arith

-- ---- a line more

pub more-lines : {A : Type 0} (ss : List (Said A)) (s : Said A) → length (ss ++ (s ∷ [])) ≡ suc (length ss)
more-lines ss s = length-append ss (s ∷ []) ∙ omega arith

pub said-comment : {A : Type 0} (ss : List (Said A)) → said_in (ss ++ (comment ∷ [])) ≡ said_in ss
unfolding said_in
said-comment [] = refl
said-comment (comment ∷ ss) = said-comment ss
said-comment {A} (says p ∷ ss) = ap (λ (ps : List A). p ∷ ps) (said-comment ss)
said-comment (bad ∷ ss) = said-comment ss

pub said-bad : {A : Type 0} (ss : List (Said A)) → said_in (ss ++ (bad ∷ [])) ≡ said_in ss
unfolding said_in
said-bad [] = refl
said-bad (comment ∷ ss) = said-bad ss
said-bad {A} (says p ∷ ss) = ap (λ (ps : List A). p ∷ ps) (said-bad ss)
said-bad (bad ∷ ss) = said-bad ss

pub said_more : {A : Type 0} (ss : List (Said A)) (q : A) → said_in (ss ++ (says q ∷ [])) ≡ said_in ss ++ (q ∷ [])
unfolding said_in
said_more [] q = refl
said_more (comment ∷ ss) q = said_more ss q
said_more {A} (says p ∷ ss) q = ap (λ (ps : List A). p ∷ ps) (said_more ss q)
said_more (bad ∷ ss) q = said_more ss q

bad-comment : {A : Type 0} (ss : List (Said A)) (k : ℕ) → bad_from k (ss ++ (comment ∷ [])) ≡ bad_from k ss
unfolding bad_from
bad-comment [] k = refl
bad-comment (comment ∷ ss) k = bad-comment ss _
bad-comment (says p ∷ ss) k = bad-comment ss _
bad-comment (bad ∷ ss) k = refl

bad-says : {A : Type 0} (ss : List (Said A)) (q : A) (k : ℕ) → bad_from k (ss ++ (says q ∷ [])) ≡ bad_from k ss
unfolding bad_from
bad-says [] q k = refl
bad-says (comment ∷ ss) q k = bad-says ss q _
bad-says (says p ∷ ss) q k = bad-says ss q _
bad-says (bad ∷ ss) q k = refl

bad-bad : {A : Type 0} (ss : List (Said A)) (k : ℕ) → bad_from k (ss ++ (bad ∷ [])) ≡ cond (eqb (bad_from k ss) 0) (suc (k + length ss)) (bad_from k ss)
unfolding bad_from
bad-bad [] k = ap suc (let e : k ≡ k + 0 = omega arith in e)
bad-bad (comment ∷ ss) k = bad-bad ss (suc k) ∙ ap (λ (m : ℕ). cond (eqb (bad_from (suc k) ss) 0) m (bad_from (suc k) ss)) (let e : suc (suc k + length ss) ≡ suc (k + suc (length ss)) = omega arith in e)
bad-bad (says p ∷ ss) k = bad-bad ss (suc k) ∙ ap (λ (m : ℕ). cond (eqb (bad_from (suc k) ss) 0) m (bad_from (suc k) ss)) (let e : suc (suc k + length ss) ≡ suc (k + suc (length ss)) = omega arith in e)
bad-bad (bad ∷ ss) k = sym (ap (λ (t : Bool). cond t (suc (k + suc (length ss))) (suc k)) (ne_eqb (suc k) 0 (λ z. omega arith)))

pub first-comment : {A : Type 0} (ss : List (Said A)) → first_bad (ss ++ (comment ∷ [])) ≡ first_bad ss
unfolding first_bad
first-comment ss = bad-comment ss 0

pub first_says : {A : Type 0} (ss : List (Said A)) (q : A) → first_bad (ss ++ (says q ∷ [])) ≡ first_bad ss
unfolding first_bad
first_says ss q = bad-says ss q 0

-- the first bad line, as it is counted
pub first-bad : {A : Type 0} (ss : List (Said A)) {b : Option ℕ} {n : ℕ} → b ≡ bad_line (first_bad ss) → n ≡ capped (suc (length ss)) → Some (unwrap_or b n) ≡ bad_line (first_bad (ss ++ (bad ∷ [])))
unfolding first_bad bad_line
first-bad ss {b} {n} e f =
    ap₂ (λ (x : Option ℕ) (y : ℕ). Some (unwrap_or x y)) e f
    ∙ go (eqb (bad_from 0 ss) 0) refl
  where
    some : (k : ℕ) → bad_line (suc k) ≡ Some (capped (suc k))
    some k = rw (ne_eqb (suc k) 0 (λ z. omega arith))

    go : (t : Bool) → eqb (bad_from 0 ss) 0 ≡ t
        → Some (unwrap_or (cond (eqb (bad_from 0 ss) 0) None (Some (capped (bad_from 0 ss)))) (capped (suc (length ss)))) ≡ bad_line (bad_from 0 (ss ++ (bad ∷ [])))
    go true q =
        rw (bad-bad ss 0, q) (sym (ap bad_line (let z : suc (0 + length ss) ≡ suc (length ss) = omega arith in z) ∙ some (length ss)))
    go false q = rw (bad-bad ss 0, q, q) refl

-- a bad line is said, or none was
pub bad_some : (k : ℕ) {b : ℕ} → Some b ≡ bad_line k → (0 < k) × (b ≡ capped k)
unfolding bad_line
bad_some k {b} = go (eqb k 0) refl
  where
    go : (t : Bool) → eqb k 0 ≡ t → Some b ≡ cond t None (Some (capped k)) → (0 < k) × (b ≡ capped k)
    go true q e = grind arith
    go false q e = let d = eqb-false k 0 q in (omega arith, grind arith)

pub bad_none : (k : ℕ) → None ≡ bad_line k → k ≡ 0
unfolding bad_line
bad_none k = go (eqb k 0) refl
  where
    go : (t : Bool) → eqb k 0 ≡ t → None ≡ cond t None (Some (capped k)) → k ≡ 0
    go true q e = eqb-true k 0 q
    go false q e = grind arith

-- ---- what is kept of lines, with one more

module _ {A S : Type 0} {Kept : List A → S → Type 0} {ss : List (Said A)} {n : ℕ} {b : Option ℕ} {s : S} (k : Tallied Kept ss n b s) {m : ℕ} (next : m ≡ capped (suc (length ss))) where
  count_of : (x : Said A) → m ≡ capped (length (ss ++ (x ∷ [])))
  count_of x = next ∙ ap capped (sym (more-lines ss x))

  pub tally-comment : Tallied Kept (ss ++ (comment ∷ [])) m b s
  tally-comment =
      record {
        lines = count_of comment;
        bad = k.bad ∙ ap bad_line (sym (first-comment ss));
        kept = subst (λ (ps : List A). Kept ps s) (sym (said-comment ss)) k.kept;
      }

  pub tally-bad : {c : Option ℕ} → c ≡ Some (unwrap_or b m) → Tallied Kept (ss ++ (bad ∷ [])) m c s
  tally-bad e =
      record {
        lines = count_of bad;
        bad = e ∙ first-bad ss k.bad next;
        kept = subst (λ (ps : List A). Kept ps s) (sym (said-bad ss)) k.kept;
      }

  pub tally-says : (p : A) {t : S} → Kept (said_in ss ++ (p ∷ [])) t → Tallied Kept (ss ++ (says p ∷ [])) m b t
  tally-says p {t} q =
      record {
        lines = count_of (says p);
        bad = k.bad ∙ ap bad_line (sym (first_says ss p));
        kept = subst (λ (ps : List A). Kept ps t) (sym (said_more ss p)) q;
      }

-- ---- the line that says which it is

pub bad-most : (k : ℕ) → length (bad_text k) ≤ longest_bad
unfolding bad_text
bad-most k = simp length-append (omega (arith, length-decimal k))
