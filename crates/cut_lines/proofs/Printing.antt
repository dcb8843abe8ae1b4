-- Numbers of a set, parts and lines: as code writes them, one after the other.
use Prim.Native.Nat.{ℕ, zero, suc, ◌+◌, ◌-◌, ◌*◌, ◌/◌, ◌^◌, ◌<◌, ◌≤◌}
use mathlib.Core.Path.{◌≡◌, refl, sym, ap, ap₂, ◌∙◌}
use mathlib.Core.Bool.{Bool, true, false, cond}
use mathlib.Core.List.{List, [], ◌∷◌, ◌++◌, map, append-nil, append_assoc}
use mathlib.Core.Logic.{◌≢◌}
use native.Mathlib.Numerals.{add-one}
use native.Mathlib.Omega.{arith}
use lib.ListN.{length, take, drop, length-take}
use lib.Dec.{ltb}
use borrow.Author.Tests.{ltb-true, ltb-false}
use Rattle.rules.specs.Words.{bit}
use Rattle.rules.proofs.Bits.{bit_none}
use Rattle.words.proofs.SlotWords.{has_bit}
use Rattle.numerals.specs.Print.{decimal, spaced}
use Rattle.numerals.proofs.Decimals.{length-low, length_high}
use Rattle.number_lines.proofs.Printed.{spaced-append}
use Rattle.graph.specs.Sets.{those}
use Rattle.graph.proofs.Sets.{those_at}
use Rattle.finest.specs.Operations.{Operation}
use Rattle.finest.specs.Choppings.{together, leads, passing, leaders}
use Rattle.finest.specs.Rows.{operations_in}
use Rattle.finest.proofs.InRows.{length-operations}
use Rattle.finest.proofs.Passing.{passing_has}
use Rattle.cut_lines.specs.Text.{items_in, part_text, places_of, line_at, lines_at, cut_text}
use Rattle.cut_lines.specs.Given.{raised}

-- ---- those that pass, with one number more

pub passing-more : (p : ℕ → Bool) (i n : ℕ) → passing p i (suc n) ≡ passing p i n ++ cond (p (i + n)) ((i + n) ∷ []) []
unfolding passing
passing-more p i zero = ap (λ (k : ℕ). cond (p k) (k ∷ []) []) (let e : i ≡ i + 0 = omega arith in e)
passing-more p i (suc n) =
    go (p i) (passing-more p (suc i) n ∙ ap (λ (k : ℕ). passing p (suc i) n ++ cond (p k) (k ∷ []) []) (let e : suc i + n ≡ i + suc n = omega arith in e))
  where
    go : (t : Bool) → passing p (suc i) (suc n) ≡ passing p (suc i) n ++ cond (p (i + suc n)) ((i + suc n) ∷ []) [] → cond t (i ∷ passing p (suc i) (suc n)) (passing p (suc i) (suc n)) ≡ cond t (i ∷ passing p (suc i) n) (passing p (suc i) n) ++ cond (p (i + suc n)) ((i + suc n) ∷ []) []
    go true e = ap (λ (l : List ℕ). i ∷ l) e
    go false e = e

pub passing-next : (p : ℕ → Bool) (n : ℕ) → passing p 0 (n + 1) ≡ passing p 0 n ++ cond (p n) (n ∷ []) []
passing-next p n = ap (passing p 0) (add-one n) ∙ passing-more p 0 n ∙ ap (λ (k : ℕ). passing p 0 n ++ cond (p k) (k ∷ []) []) (let e : 0 + n ≡ n = omega arith in e)

pub passing-same : (p q : ℕ → Bool) (i n : ℕ) → ((x : ℕ) → i ≤ x → x < i + n → p x ≡ q x) → passing p i n ≡ passing q i n
unfolding passing
passing-same p q i zero f = refl
passing-same p q i (suc n) f =
    ap₂ (λ (t : Bool) (l : List ℕ). cond t (i ∷ l) l) (f i (omega arith) (omega arith)) (passing-same p q (suc i) n (λ x a b. f x (omega arith) (omega arith)))

-- ---- numbers

raised-append : (k : ℕ) (l m : List ℕ) → raised k (l ++ m) ≡ raised k l ++ raised k m
unfolding raised
raised-append k [] m = refl
raised-append k (x ∷ xs) m = ap (λ (l : List ℕ). (k + x) ∷ l) (raised-append k xs m)

raised_none : (l : List ℕ) → raised 0 l ≡ l
unfolding raised
raised_none [] = refl
raised_none (x ∷ xs) = ap₂ (λ (y : ℕ) (l : List ℕ). y ∷ l) (let e : 0 + x ≡ x = omega arith in e) (raised_none xs)

raised_one : (l : List ℕ) → raised 1 l ≡ map suc l
unfolding raised
raised_one [] = refl
raised_one (x ∷ xs) = ap₂ (λ (y : ℕ) (l : List ℕ). y ∷ l) (let e : 1 + x ≡ suc x = omega arith in e) (raised_one xs)

-- a number more of a set
pub set_next : (p : ℕ → Bool) (k n : ℕ) → spaced (raised k (passing p 0 n)) ++ cond (p n) (spaced ((k + n) ∷ [])) [] ≡ spaced (raised k (passing p 0 (n + 1)))
unfolding raised spaced
set_next p k n =
    go (p n)
    ∙ ap spaced (sym (raised-append k (passing p 0 n) (cond (p n) (n ∷ []) [])))
    ∙ ap (λ (l : List ℕ). spaced (raised k l)) (sym (passing-next p n))
  where
    go : (t : Bool) → spaced (raised k (passing p 0 n)) ++ cond t (spaced ((k + n) ∷ [])) [] ≡ spaced (raised k (passing p 0 n) ++ raised k (cond t (n ∷ []) []))
    go true = spaced-append (raised k (passing p 0 n)) ((k + n) ∷ [])
    go false = spaced-append (raised k (passing p 0 n)) []

pub set_none : (p : ℕ → Bool) (k : ℕ) → spaced (raised k (passing p 0 0)) ≡ []
unfolding raised spaced passing
set_none p k = refl

-- two digits at most
pub two_digits : (n : ℕ) → n < 100 → length (decimal n) ≤ 2
two_digits n h = go (ltb n 10) refl
  where
    go : (t : Bool) → ltb n 10 ≡ t → length (decimal n) ≤ 2
    go true e = omega (arith, length-low n (ltb-true n 10 e))
    go false e =
        let g = ltb-false n 10 e in
        let l : n / 10 < 10 = omega arith in
        omega (arith, length_high n g (omega arith), length-low (n / 10) l)

-- ---- a part

items_none : (i n : ℕ) → passing (bit 0) i n ≡ []
unfolding passing
items_none i zero = refl
items_none i (suc n) = rw (bit_none i) (items_none (suc i) n)

pub part_none : (word : List ℕ) (set : ℕ) → set ≡ 0 → [] ≡ part_text word (items_in set)
unfolding part_text items_in
part_none word set e = sym (ap (λ (s : ℕ). part_text word (passing (bit s) 0 64)) e ∙ ap (part_text word) (items_none 0 64))

part_open : (word l : List ℕ) → 0 < length l → (32 ∷ []) ++ (word ++ spaced l) ≡ part_text word l
unfolding part_text
part_open word [] h = absurd (omega arith)
part_open word (x ∷ xs) h = refl

pub part_some : (word : List ℕ) (set : ℕ) → set < 2 ^ 64 → set ≢ 0 → (32 ∷ []) ++ (word ++ spaced (raised 0 (passing (bit set) 0 64))) ≡ part_text word (items_in set)
unfolding items_in
part_some word set h d =
    let s = has_bit 64 set h d in
    let t = passing_has (bit set) 0 64 s.0 (omega arith) (let a = s.1 in omega arith) s.2 in
    let some : 0 < length (passing (bit set) 0 64) = (let a = t.1 in omega arith) in
    ap (λ (l : List ℕ). (32 ∷ []) ++ (word ++ spaced l)) (raised_none (passing (bit set) 0 64)) ∙ part_open word (passing (bit set) 0 64) some

-- ---- a line

-- a row of names has 32 bytes at most
pub row_fits : (names : List ℕ) (i : ℕ) → length (take (i * 32 + 32 - i * 32) (drop (i * 32) names)) ≤ 32
row_fits names i = simp length-take (omega arith)

pub places-are : (words cut : List ℕ) (i : ℕ) {set : ℕ} → set ≡ those (length words / 4) (together (operations_in words) cut i) → spaced (raised 1 (passing (bit set) 0 (length words / 4))) ≡ spaced (places_of (operations_in words) cut i)
unfolding places_of
places-are words cut i e =
    let os = operations_in words in
    let n = length words / 4 in
    ap spaced
    (ap (λ (s : ℕ). raised 1 (passing (bit s) 0 n)) e
    ∙ raised_one (passing (bit (those n (together os cut i))) 0 n)
    ∙ ap (map suc) (passing-same (bit (those n (together os cut i))) (together os cut i) 0 n (λ x a b. those_at n (together os cut i) x (omega arith)) ∙ ap (passing (together os cut i) 0) (sym (length-operations words))))

-- ---- all lines

lines-append : (name : ℕ → List ℕ) (os : List Operation) (c is js : List ℕ) → lines_at name os c (is ++ js) ≡ lines_at name os c is ++ lines_at name os c js
unfolding lines_at
lines-append name os c [] js = refl
lines-append name os c (i ∷ is) js =
    ap (λ (l : List ℕ). line_at name os c i ++ l) (lines-append name os c is js) ∙ sym (append_assoc (line_at name os c i) (lines_at name os c is) (lines_at name os c js))

pub lines_next : (name : ℕ → List ℕ) (os : List Operation) (c : List ℕ) (n : ℕ) → lines_at name os c (passing (leads os c) 0 n) ++ cond (leads os c n) (line_at name os c n) [] ≡ lines_at name os c (passing (leads os c) 0 (n + 1))
unfolding lines_at
lines_next name os c n =
    ap (λ (l : List ℕ). lines_at name os c (passing (leads os c) 0 n) ++ l) (go (leads os c n))
    ∙ sym (lines-append name os c (passing (leads os c) 0 n) (cond (leads os c n) (n ∷ []) []))
    ∙ ap (lines_at name os c) (sym (passing-next (leads os c) n))
  where
    go : (t : Bool) → cond t (line_at name os c n) [] ≡ lines_at name os c (cond t (n ∷ []) [])
    go true = sym (append-nil (line_at name os c n))
    go false = refl

pub lines_none : (name : ℕ → List ℕ) (os : List Operation) (c : List ℕ) → lines_at name os c (passing (leads os c) 0 0) ≡ []
unfolding lines_at passing
lines_none name os c = refl

pub lines_all : (name : ℕ → List ℕ) (words cut : List ℕ) {n : ℕ} → n ≡ length words / 4 → lines_at name (operations_in words) cut (passing (leads (operations_in words) cut) 0 n) ≡ cut_text name (operations_in words) cut
unfolding cut_text leaders
lines_all name words cut e =
    ap (λ (n : ℕ). lines_at name (operations_in words) cut (passing (leads (operations_in words) cut) 0 n)) (e ∙ sym (length-operations words))
