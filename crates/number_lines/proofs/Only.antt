-- Only a line of decimal numbers, with one space before each but the first, is read as numbers.
use Prim.Native.Nat.{ℕ, ◌+◌, ◌-◌, ◌*◌, ◌<◌, ◌≤◌}
use mathlib.Core.Path.{◌≡◌, refl, sym, ap, ap₂, subst, ◌∙◌}
use mathlib.Core.Bool.{Bool, true, false, cond, false≢true}
use mathlib.Core.List.{List, [], ◌∷◌, ◌++◌, append_assoc}
use mathlib.Core.Logic.{◌⊎◌, inl, inr, ⊎_elim}
use native.Mathlib.Omega.{arith}
use lib.Dec.{eqb, leb, ltb}
use lib.ListN.{length, length-append}
use borrow.Author.Tests.{leb-true, eqb-true}
use Rattle.numerals.specs.Numbers.{digit, greatest, worth, Digits, Numeral, Numbers}
use Rattle.number_lines.specs.Lines.{Held, reads, spoilt, digit_after, ends, after, read_on}

-- what is spoilt stays so

same : (g : Bool) → cond g spoilt spoilt ≡ spoilt
same true = refl
same false = refl

after-spoilt : (room b : ℕ) → after room spoilt b ≡ spoilt
unfolding after ends digit_after
after-spoilt room b = same (eqb b 32)

on_spoilt : (l : List ℕ) (room : ℕ) → read_on room spoilt l ≡ spoilt
unfolding read_on
on_spoilt [] room = refl
on_spoilt (b ∷ bs) room = ap (λ (k : Held). read_on room k bs) (after-spoilt room b) ∙ on_spoilt bs room

never : (room : ℕ) (l ns : List ℕ) → ends room (read_on room spoilt l) ≡ reads ns 0 false → ⊥
unfolding ends
never room l ns e =
    let f : spoilt ≡ reads ns 0 false = sym (ap (λ (k : Held). ends room k) (on_spoilt l room)) ∙ e in
    let z : ◌≡◌ {A = ℕ} 0 1 = cc in
    omega arith

-- ---- a byte

-- a number that ends is kept, or spoils the line
ends-way : (room : ℕ) (ks : List ℕ) (v : ℕ) (g : Bool) → ((g ≡ true) × (ends room (reads ks v g) ≡ reads (ks ++ (v ∷ [])) 0 false)) ⊎ (ends room (reads ks v g) ≡ spoilt)
unfolding ends
ends-way room ks v false = inr refl
ends-way room ks v true = go (ltb (length ks) room) refl
  where
    go : (t : Bool) → ltb (length ks) room ≡ t → ((true ≡ true) × (ends room (reads ks v true) ≡ reads (ks ++ (v ∷ [])) 0 false)) ⊎ (ends room (reads ks v true) ≡ spoilt)
    go true q = inl (refl, rw q refl)
    go false q = inr (rw q refl)

after_space : (room b : ℕ) (h : Held) → eqb b 32 ≡ true → after room h b ≡ ends room h
unfolding after
after_space room b h q = rw q

-- a byte that is no space is a digit, or spoils the line
digit-way : (room : ℕ) (ks : List ℕ) (v : ℕ) (g : Bool) (b : ℕ) → eqb b 32 ≡ false → ((digit b ≡ true) × (v * 10 + (b - 48) ≤ greatest) × (after room (reads ks v g) b ≡ reads ks (v * 10 + (b - 48)) true)) ⊎ (after room (reads ks v g) b ≡ spoilt)
unfolding after digit_after
digit-way room ks v g b n = go (digit b) refl (leb (v * 10 + (b - 48)) greatest) refl
  where
    go : (t : Bool) → digit b ≡ t → (u : Bool) → leb (v * 10 + (b - 48)) greatest ≡ u → ((digit b ≡ true) × (v * 10 + (b - 48) ≤ greatest) × (after room (reads ks v g) b ≡ reads ks (v * 10 + (b - 48)) true)) ⊎ (after room (reads ks v g) b ≡ spoilt)
    go true p true q = inl (p, leb-true (v * 10 + (b - 48)) greatest q, rw (n, p, q) refl)
    go true p false q = inr (rw (n, p, q) refl)
    go false p u q = inr (rw (n, p) refl)

digits_last : {ds : List ℕ} (b : ℕ) → Digits ds → digit b ≡ true → Digits (ds ++ (b ∷ []))
digits_last b Digits.none p = Digits.more p Digits.none
digits_last b (Digits.more e r) p = Digits.more e (digits_last b r p)

worth-last : (ds : List ℕ) (v b : ℕ) → worth v (ds ++ (b ∷ [])) ≡ worth v ds * 10 + (b - 48)
unfolding worth
worth-last [] v b = refl
worth-last (d ∷ ds) v b = worth-last ds (v * 10 + (d - 48)) b

-- ---- a line

-- after the numbers ks and the digits ds, the bytes l make the numbers ns whole
pub record Split (ks ds l ns : List ℕ) : Type 0 where
  pub word : List ℕ
  pub rest : List ℕ
  pub number : ℕ
  pub others : List ℕ
  pub cut : ds ++ l ≡ word ++ rest
  pub numeral : Numeral word number
  pub numbers : Numbers rest others
  pub all : ns ≡ ks ++ (number ∷ others)

abbrev Only : ℕ → List ℕ → List ℕ → Type 0
Only room ns l = (ks ds : List ℕ) (g : Bool) → Digits ds → (g ≡ true → 0 < length ds) → worth 0 ds ≤ greatest → ends room (read_on room (reads ks (worth 0 ds) g) l) ≡ reads ns 0 false → Split ks ds l ns

module _ (room : ℕ) (ns : List ℕ) where
  at_end : Only room ns []
  unfolding read_on
  at_end ks ds g d s f e =
      ⊎_elim
      (λ w.
      let q : reads (ks ++ (worth 0 ds ∷ [])) 0 false ≡ reads ns 0 false = sym w.1 ∙ e in
      let a : ks ++ (worth 0 ds ∷ []) ≡ ns = cc in
      record {
        word = ds;
        rest = [];
        number = worth 0 ds;
        others = [];
        cut = refl;
        numeral = record { some = s w.0; digits = d; value = refl; fits = f };
        numbers = Numbers.none;
        all = sym a;
      })
      (λ w. let q : spoilt ≡ reads ns 0 false = sym w ∙ e in let z : ◌≡◌ {A = ℕ} 0 1 = cc in absurd (omega arith))
      (ends-way room ks (worth 0 ds) g)

  at_space : (b : ℕ) (bs : List ℕ) → eqb b 32 ≡ true → Only room ns bs → Only room ns (b ∷ bs)
  unfolding read_on worth
  at_space b bs q ih ks ds g d s f e =
      let v = worth 0 ds in
      let a : after room (reads ks v g) b ≡ ends room (reads ks v g) = after_space room b (reads ks v g) q in
      ⊎_elim
      (λ w.
      let on : ends room (read_on room (reads (ks ++ (v ∷ [])) 0 false) bs) ≡ reads ns 0 false = ap (λ (k : Held). ends room (read_on room k bs)) (sym (a ∙ w.1)) ∙ e in
      let r = ih (ks ++ (v ∷ [])) [] false Digits.none (λ t. absurd (false≢true t)) (omega arith) on in
      let p : 32 ∷ (r.word ++ r.rest) ≡ b ∷ bs = ap₂ (λ (x : ℕ) (y : List ℕ). x ∷ y) (sym (eqb-true b 32 q)) (sym r.cut) in
      record {
        word = ds;
        rest = b ∷ bs;
        number = v;
        others = r.number ∷ r.others;
        cut = refl;
        numeral = record { some = s w.0; digits = d; value = refl; fits = f };
        numbers = subst (λ (x : List ℕ). Numbers x (r.number ∷ r.others)) p (Numbers.more r.numeral r.numbers);
        all = r.all ∙ append_assoc ks (v ∷ []) (r.number ∷ r.others);
      })
      (λ w. absurd (never room bs ns (ap (λ (k : Held). ends room (read_on room k bs)) (sym (a ∙ w)) ∙ e)))
      (ends-way room ks v g)

  at_other : (b : ℕ) (bs : List ℕ) → eqb b 32 ≡ false → Only room ns bs → Only room ns (b ∷ bs)
  unfolding read_on
  at_other b bs q ih ks ds g d s f e =
      let v = worth 0 ds in
      ⊎_elim
      (λ w.
      let x : worth 0 (ds ++ (b ∷ [])) ≡ v * 10 + (b - 48) = worth-last ds 0 b in
      let on : ends room (read_on room (reads ks (worth 0 (ds ++ (b ∷ []))) true) bs) ≡ reads ns 0 false
      = ap (λ (k : Held). ends room (read_on room k bs)) (ap (λ (n : ℕ). reads ks n true) x ∙ sym w.2) ∙ e in
      let r = ih ks (ds ++ (b ∷ [])) true (digits_last b d w.0) (λ _. simp length-append (omega arith)) (omega (arith, x, w.1)) on in
      record {
        word = r.word;
        rest = r.rest;
        number = r.number;
        others = r.others;
        cut = sym (append_assoc ds (b ∷ []) bs) ∙ r.cut;
        numeral = r.numeral;
        numbers = r.numbers;
        all = r.all;
      })
      (λ w. absurd (never room bs ns (ap (λ (k : Held). ends room (read_on room k bs)) (sym w) ∙ e)))
      (digit-way room ks v g b q)

  at_byte : (b : ℕ) (bs : List ℕ) → Only room ns bs → Only room ns (b ∷ bs)
  at_byte b bs ih = go (eqb b 32) refl
    where
      go : (t : Bool) → eqb b 32 ≡ t → Only room ns (b ∷ bs)
      go true q = at_space b bs q ih
      go false q = at_other b bs q ih

  only : (l : List ℕ) → Only room ns l
  only [] = at_end
  only (b ∷ bs) = at_byte b bs (only bs)

-- what is read as the numbers ns is a number, and numbers with one space before each
pub read_only : (room : ℕ) (l ns : List ℕ) → ends room (read_on room (reads [] 0 false) l) ≡ reads ns 0 false → Split [] [] l ns
unfolding worth
read_only room l ns e = only room ns l [] [] false Digits.none (λ t. absurd (false≢true t)) (omega arith) e
