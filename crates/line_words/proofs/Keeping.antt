-- What is kept of a word with a byte more.
use Prim.Native.Nat.{ℕ, suc, ◌+◌, ◌-◌, ◌*◌, ◌<◌, ◌≤◌}
use mathlib.Core.Path.{◌≡◌, refl, sym, ap, ap₂, ◌∙◌}
use mathlib.Core.Bool.{Bool, true, false, ◌&&◌, cond, false≢true}
use mathlib.Core.List.{List, [], ◌∷◌, ◌++◌}
use native.Mathlib.Omega.{arith}
use lib.Dec.{eqb, leb, ltb}
use lib.ListN.{length, replicate, set, take}
use lib.Seq.{take_at}
use borrow.Author.Tests.{le-leb, lt-leb, leb-true, leb-false, lt-ltb, ne_eqb}
use Rattle.std.specs.Prelude.{Option, Some, None}
use Rattle.std.specs.Option.{is_some}
use Rattle.rules.specs.Words.{every}
use Rattle.numerals.specs.Numbers.{digit, worth, greatest, with_digit}
use Rattle.line_words.specs.Held.{counted, padded, KeepsBytes, number_in}
use Rattle.line_words.specs.declared.kept.Kept.{Kept}
use Rattle.line_words.proofs.Snoc.{and_false, longer, every_snoc, worth_snoc}

-- ---- the bytes

pub counted-short : (n : ℕ) → n ≤ 32 → counted n ≡ n
unfolding counted
counted-short n h = rw (le-leb n 32 h)

pub counted-long : (n : ℕ) → 32 < n → counted n ≡ 33
unfolding counted
counted-long n h = rw (lt-leb n 32 h)

pub short_or_long : {A : Type 0} (n : ℕ) → (n ≤ 32 → A) → (32 < n → A) → A
short_or_long {A} n a b = go (leb n 32) refl
  where
    go : (g : Bool) → leb n 32 ≡ g → A
    go true e = a (leb-true n 32 e)
    go false e = b (leb-false n 32 e)

-- zeros behind a word, one of them replaced by a byte
set-zeros : (w : List ℕ) (b n : ℕ) → set (w ++ replicate (suc n) 0) (length w) b ≡ (w ++ (b ∷ [])) ++ replicate n 0
set-zeros [] b n = refl
set-zeros (x ∷ xs) b n = ap (λ (l : List ℕ). x ∷ l) (set-zeros xs b n)

pub padded_snoc : (w : List ℕ) (b : ℕ) → length w < 32 → set (padded w) (length w) b ≡ padded (w ++ (b ∷ []))
unfolding padded
padded_snoc w b h =
    let n : ℕ = 31 - length w in
    let e : 32 - length w ≡ suc n = omega arith in
    let f : 32 - length (w ++ (b ∷ [])) ≡ n = omega (arith, longer w b) in
    ap (λ (k : ℕ). set (w ++ replicate k 0) (length w) b) e ∙ set-zeros w b n ∙ ap (λ (k : ℕ). (w ++ (b ∷ [])) ++ replicate k 0) (sym f)

module _ (w : List ℕ) (s : Kept) (k : KeepsBytes w s) where
  -- the count tells the length
  pub count-short : s.count ≤ 32 → (s.count ≡ length w) × (length w ≤ 32)
  count-short h =
      short_or_long (length w)
      (λ l. (k.count ∙ counted-short (length w) l, l))
      (λ l. absurd (omega (arith, k.count, counted-long (length w) l)))

  pub count_long : 32 < s.count → 32 < length w
  count_long h = short_or_long (length w) (λ l. absurd (omega (arith, k.count, counted-short (length w) l))) (λ l. l)

  pub push_kept : (b : ℕ) → s.count < 32 → KeepsBytes (w ++ (b ∷ [])) (record { bytes = set s.bytes s.count b; count = s.count + 1 })
  push_kept b h =
      let q = count-short (omega arith) in
      let e : s.count ≡ length w = q.0 in
      let l = longer w b in
      record {
        count = omega (arith, counted-short (length (w ++ (b ∷ []))) (omega arith));
        bytes = λ _. ap₂ (λ (x : List ℕ) (n : ℕ). set x n b) (k.bytes q.1) e ∙ padded_snoc w b (omega arith);
      }

  pub push_full : (b : ℕ) → 32 ≤ s.count → KeepsBytes (w ++ (b ∷ [])) (record { bytes = s.bytes; count = 33 })
  push_full b h =
      let l = longer w b in
      let m : 32 < length (w ++ (b ∷ []))
      = short_or_long (length w) (λ n. omega (arith, k.count, counted-short (length w) n)) (λ n. omega arith) in
      record { count = sym (counted-long (length (w ++ (b ∷ []))) m); bytes = λ n. absurd (omega arith) }

  -- the bytes that count are the word
  pub front_is : s.count ≤ 32 → take s.count s.bytes ≡ w
  unfolding padded
  front_is h =
      let q = count-short h in
      ap (take s.count) (k.bytes q.1) ∙ take_at w (replicate (32 - length w) 0) s.count (sym q.0)

  pub none_is : eqb s.count 0 ≡ eqb (length w) 0
  none_is =
      short_or_long (length w)
      (λ l. ap (λ (n : ℕ). eqb n 0) (k.count ∙ counted-short (length w) l))
      (λ l. ne_eqb s.count 0 (λ z. omega (arith, k.count, counted-long (length w) l)) ∙ sym (ne_eqb (length w) 0 (λ z. omega arith)))

  pub some_is : ltb 0 s.count ≡ ltb 0 (length w)
  some_is =
      short_or_long (length w)
      (λ l. ap (ltb 0) (k.count ∙ counted-short (length w) l))
      (λ l. lt-ltb 0 s.count (omega (arith, k.count, counted-long (length w) l)) ∙ sym (lt-ltb 0 (length w) (omega arith)))

  pub most_is : leb s.count 32 ≡ leb (length w) 32
  most_is =
      short_or_long (length w)
      (λ l. ap (λ (n : ℕ). leb n 32) (k.count ∙ counted-short (length w) l))
      (λ l. lt-leb s.count 32 (omega (arith, k.count, counted-long (length w) l)) ∙ sym (lt-leb (length w) 32 l))

-- ---- the digits

module _ (w : List ℕ) (b : ℕ) where
  pub digits-before : (every digit w && leb (worth 0 w) greatest) ≡ false → (every digit (w ++ (b ∷ [])) && leb (worth 0 (w ++ (b ∷ []))) greatest) ≡ false
  digits-before e = go (every digit w) refl (leb (worth 0 w) greatest) refl
    where
      go : (t : Bool) → every digit w ≡ t → (u : Bool) → leb (worth 0 w) greatest ≡ u → (every digit (w ++ (b ∷ [])) && leb (worth 0 (w ++ (b ∷ []))) greatest) ≡ false
      go false p u q = rw (every_snoc digit w b, p) refl
      go true p true q = absurd (false≢true (sym e ∙ ap₂ ◌&&◌ p q))
      go true p false q =
          let l : greatest < worth 0 w = leb-false (worth 0 w) greatest q in
          ap (λ (t : Bool). every digit (w ++ (b ∷ [])) && t) (lt-leb (worth 0 (w ++ (b ∷ []))) greatest (omega (arith, worth_snoc w 0 b))) ∙ and_false (every digit (w ++ (b ∷ [])))

  pub digits-other : digit b ≡ false → (every digit (w ++ (b ∷ [])) && leb (worth 0 (w ++ (b ∷ []))) greatest) ≡ false
  digits-other e = rw (every_snoc digit w b, e, and_false (every digit w)) refl

  pub digits_large : greatest < worth 0 w * 10 + (b - 48) → (every digit (w ++ (b ∷ [])) && leb (worth 0 (w ++ (b ∷ []))) greatest) ≡ false
  digits_large l = rw (worth_snoc w 0 b, lt-leb (worth 0 w * 10 + (b - 48)) greatest l) (and_false (every digit (w ++ (b ∷ []))))

  pub digits_more : (every digit w && leb (worth 0 w) greatest) ≡ true → digit b ≡ true → worth 0 w * 10 + (b - 48) ≤ greatest → (every digit (w ++ (b ∷ [])) && leb (worth 0 (w ++ (b ∷ []))) greatest) ≡ true
  digits_more e d l = go (every digit w) refl
    where
      go : (t : Bool) → every digit w ≡ t → (every digit (w ++ (b ∷ [])) && leb (worth 0 (w ++ (b ∷ []))) greatest) ≡ true
      go true p = rw (every_snoc digit w b, p, d, worth_snoc w 0 b, le-leb (worth 0 w * 10 + (b - 48)) greatest l) refl
      go false p = absurd (false≢true (rw p at e))

-- a word that is a number, and one that is none
module _ (w : List ℕ) where
  pub number : (every digit w && leb (worth 0 w) greatest) ≡ true → number_in w ≡ Some (worth 0 w)
  unfolding number_in
  number q = rw q

  pub no_number : (every digit w && leb (worth 0 w) greatest) ≡ false → number_in w ≡ None
  unfolding number_in
  no_number q = rw q

  pub is_number : {v : ℕ} → Some v ≡ number_in w → ((every digit w && leb (worth 0 w) greatest) ≡ true) × (v ≡ worth 0 w)
  unfolding number_in
  is_number {v} = go (every digit w && leb (worth 0 w) greatest)
    where
      go : (c : Bool) → Some v ≡ cond c (Some (worth 0 w)) None → (c ≡ true) × (v ≡ worth 0 w)
      go true e = (refl, grind arith)
      go false e = grind arith

  pub is_none : None ≡ number_in w → (every digit w && leb (worth 0 w) greatest) ≡ false
  unfolding number_in
  is_none = go (every digit w && leb (worth 0 w) greatest)
    where
      go : (c : Bool) → None ≡ cond c (Some (worth 0 w)) None → c ≡ false
      go true e = grind arith
      go false e = refl

  pub number_is : {o : Option ℕ} → o ≡ number_in w → is_some o ≡ (every digit w && leb (worth 0 w) greatest)
  unfolding number_in
  number_is e = ap is_some e ∙ go (every digit w && leb (worth 0 w) greatest)
    where
      go : (c : Bool) → is_some (cond c (Some (worth 0 w)) None) ≡ c
      go true = refl
      go false = refl

-- a number with a byte more, as it is computed
pub number_on : (w : List ℕ) (b : ℕ) {v : ℕ} → Some v ≡ number_in w → with_digit v b ≡ number_in (w ++ (b ∷ []))
unfolding with_digit
number_on w b e = let q = is_number w e in ap (λ (n : ℕ). with_digit n b) q.1 ∙ go (digit b) refl (leb (worth 0 w * 10 + (b - 48)) greatest) refl q.0
  where
    go : (d : Bool) → digit b ≡ d → (f : Bool) → leb (worth 0 w * 10 + (b - 48)) greatest ≡ f → (every digit w && leb (worth 0 w) greatest) ≡ true → with_digit (worth 0 w) b ≡ number_in (w ++ (b ∷ []))
    go false d f g t = rw d (sym (no_number (w ++ (b ∷ [])) (digits-other w b d)))
    go true d true g t =
        rw (d, g) (ap Some (sym (worth_snoc w 0 b)) ∙ sym (number (w ++ (b ∷ [])) (digits_more w b t d (leb-true (worth 0 w * 10 + (b - 48)) greatest g))))
    go true d false g t =
        rw (d, g) (sym (no_number (w ++ (b ∷ [])) (digits_large w b (leb-false (worth 0 w * 10 + (b - 48)) greatest g))))
