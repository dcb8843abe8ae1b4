-- A word in decimal: its digits are worth it, there are at most 20, and the first is no idle zero.
use Prim.Native.Nat.{ℕ, zero, suc, ◌+◌, ◌-◌, ◌*◌, ◌/◌, ◌%◌, ◌^◌, ◌<◌, ◌≤◌}
use mathlib.Core.Path.{◌≡◌, refl, sym, ap, ap₂, ◌∙◌}
use mathlib.Core.Bool.{Bool, true, false, ◌&&◌}
use mathlib.Core.List.{List, [], ◌∷◌, ◌++◌}
use mathlib.Core.Logic.{◌⊎◌, inl, inr, ⊎_elim}
use native.Mathlib.Nat.{pow-suc}
use native.Mathlib.Omega.{arith}
use lib.Dec.{ltb}
use lib.ListN.{length, get_or, length-append, get_or-append}
use borrow.Author.Tests.{lt-ltb, le-ltb, ltb-true, ltb-false, le-leb}
use Rattle.names.specs.declared.Answer.{Answer}
use Rattle.numerals.specs.Numbers.{digit, worth, Digits, Numeral, Numbers, greatest}
use Rattle.numerals.specs.Print.{digits_in, decimal, followed, answer_line, spaced, Words}

-- one digit
low : (f n : ℕ) → n < 10 → digits_in (suc f) n ≡ (48 + n) ∷ []
unfolding digits_in
low f n h = rw (lt-ltb n 10 h)

-- more
high : (f n : ℕ) → 10 ≤ n → digits_in (suc f) n ≡ digits_in f (n / 10) ++ ((48 + n % 10) ∷ [])
unfolding digits_in
high f n h = rw (le-ltb n 10 h)

low_or_high : (n : ℕ) → (n < 10) ⊎ (10 ≤ n)
low_or_high n = go (ltb n 10) refl
  where
    go : (g : Bool) → ltb n 10 ≡ g → (n < 10) ⊎ (10 ≤ n)
    go true e = inl (ltb-true n 10 e)
    go false e = inr (ltb-false n 10 e)

-- a tenth of what has one digit more
tenth : (f n : ℕ) → n < 10 ^ suc f → n / 10 < 10 ^ f
tenth f n h = let e : 10 ^ suc f ≡ 10 ^ f * 10 = pow-suc 10 f in omega arith

-- room for one digit more changes nothing
roomier : (f n : ℕ) → n < 10 ^ suc f → digits_in (suc f) n ≡ digits_in (suc (suc f)) n
roomier zero n h = low zero n h ∙ sym (low (suc zero) n h)
roomier (suc f) n h =
    ⊎_elim
    (λ (l : n < 10). low (suc f) n l ∙ sym (low (suc (suc f)) n l))
    (λ (g : 10 ≤ n). high (suc f) n g ∙ ap (λ (ds : List ℕ). ds ++ ((48 + n % 10) ∷ [])) (roomier f (n / 10) (tenth (suc f) n h)) ∙ sym (high (suc (suc f)) n g))
    (low_or_high n)

pub decimal-low : (n : ℕ) → n < 10 → decimal n ≡ (48 + n) ∷ []
unfolding decimal
decimal-low n h = low 19 n h

pub decimal_high : (n : ℕ) → 10 ≤ n → n ≤ greatest → decimal n ≡ decimal (n / 10) ++ ((48 + n % 10) ∷ [])
unfolding decimal
decimal_high n h g = high 19 n h ∙ ap (λ (ds : List ℕ). ds ++ ((48 + n % 10) ∷ [])) (roomier 18 (n / 10) (omega arith))

-- how many digits

pub length-low : (n : ℕ) → n < 10 → length (decimal n) ≡ 1
length-low n h = rw (decimal-low n h)

pub length_high : (n : ℕ) → 10 ≤ n → n ≤ greatest → length (decimal n) ≡ length (decimal (n / 10)) + 1
length_high n h g = rw (decimal_high n h g) (length-append (decimal (n / 10)) ((48 + n % 10) ∷ []))

length-digits_in : (f n : ℕ) → length (digits_in f n) ≤ f
unfolding digits_in
length-digits_in zero n = omega arith
length-digits_in (suc f) n =
    ⊎_elim
    (λ (l : n < 10). rw (low f n l) (omega arith))
    (λ (g : 10 ≤ n). rw (high f n g) (simp length-append (omega (arith, length-digits_in f (n / 10)))))
    (low_or_high n)

pub length-decimal : (n : ℕ) → length (decimal n) ≤ 20
unfolding decimal
length-decimal n = length-digits_in 20 n

some_digit : (f n : ℕ) → 0 < length (digits_in (suc f) n)
some_digit f n =
    ⊎_elim
    (λ (l : n < 10). rw (low f n l) (omega arith))
    (λ (g : 10 ≤ n). rw (high f n g) (simp length-append (omega arith)))
    (low_or_high n)

-- what they are, and what they are worth

glyph_digit : (d : ℕ) → d < 10 → digit (48 + d) ≡ true
glyph_digit d h = ap₂ ◌&&◌ (le-leb 48 (48 + d) (omega arith)) (le-leb (48 + d) 57 (omega arith))

digits_last : {ds : List ℕ} (d : ℕ) → Digits ds → d < 10 → Digits (ds ++ ((48 + d) ∷ []))
digits_last d Digits.none h = Digits.more (glyph_digit d h) Digits.none
digits_last d (Digits.more e r) h = Digits.more e (digits_last d r h)

worth-last : (ds : List ℕ) (v d : ℕ) → worth v (ds ++ ((48 + d) ∷ [])) ≡ worth v ds * 10 + d
unfolding worth
worth-last [] v d = omega arith
worth-last (x ∷ ds) v d = worth-last ds (v * 10 + (x - 48)) d

digits-digits_in : (f n : ℕ) → Digits (digits_in f n)
unfolding digits_in
digits-digits_in zero n = Digits.none
digits-digits_in (suc f) n =
    ⊎_elim
    (λ (l : n < 10). rw (low f n l) (digits_last n Digits.none l))
    (λ (g : 10 ≤ n). rw (high f n g) (digits_last (n % 10) (digits-digits_in f (n / 10)) (omega arith)))
    (low_or_high n)

worth-digits_in : (f n : ℕ) → n < 10 ^ f → worth 0 (digits_in f n) ≡ n
unfolding digits_in worth
worth-digits_in zero n h = omega arith
worth-digits_in (suc f) n h =
    ⊎_elim
    (λ (l : n < 10). rw (low f n l) (omega arith))
    (λ (g : 10 ≤ n). rw (high f n g, worth-last (digits_in f (n / 10)) 0 (n % 10), worth-digits_in f (n / 10) (tenth f n h)) (omega arith))
    (low_or_high n)

-- a word in decimal is a numeral of it
pub decimal_numeral : (n : ℕ) → n ≤ greatest → Numeral (decimal n) n
unfolding decimal
decimal_numeral n h =
    record { some = some_digit 19 n; digits = digits-digits_in 20 n; value = worth-digits_in 20 n (omega arith); fits = h }

-- no leading zero

leads : (f n : ℕ) → 0 < n → n < 10 ^ suc f → get_or (digits_in (suc f) n) 0 0 ≡ 48 → ⊥
leads zero n p h = rw (low zero n h) (λ e. omega arith)
leads (suc f) n p h =
    ⊎_elim
    (λ (l : n < 10). rw (low (suc f) n l) (λ e. omega arith))
    (λ (g : 10 ≤ n). rw (high (suc f) n g, get_or-append (digits_in (suc f) (n / 10)) ((48 + n % 10) ∷ []) 0 0 (some_digit f (n / 10))) (leads f (n / 10) (omega arith) (tenth (suc f) n h)))
    (low_or_high n)

pub decimal-leads : (n : ℕ) → 0 < n → n ≤ greatest → get_or (decimal n) 0 0 ≡ 48 → ⊥
unfolding decimal
decimal-leads n p h = leads 19 n p (omega arith)

-- with a byte after it

pub length-followed : (n b : ℕ) → length (followed n b) ≡ length (decimal n) + 1
unfolding followed
length-followed n b = length-append (decimal n) (b ∷ [])

pub followed-short : (n b : ℕ) → length (followed n b) ≤ 21
followed-short n b = omega (arith, length-followed n b, length-decimal n)

-- an answer takes at most 84 bytes
pub length-answer_line : (a : Answer) → length (answer_line a) ≤ 84
unfolding answer_line
length-answer_line a =
    simp length-append
    (omega (arith, followed-short a.code 32, followed-short a.value 32, followed-short a.number 32, followed-short a.looked 10))

-- ---- numbers, a space before each

pub spaced-numbers : {ns : List ℕ} → Words ns → Numbers (spaced ns) ns
unfolding spaced
spaced-numbers Words.none = Numbers.none
spaced-numbers (Words.more {n} {ns} h r) = Numbers.more (decimal_numeral n h) (spaced-numbers r)

pub length-spaced : (ns : List ℕ) → length (spaced ns) ≤ 21 * length ns
unfolding spaced
length-spaced [] = omega arith
length-spaced (n ∷ ns) = omega (arith, length-append (decimal n) (spaced ns), length-decimal n, length-spaced ns)
