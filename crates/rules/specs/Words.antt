-- Counting, rows and bits: the words that the rules are said with.
use Rattle.std.specs.Prelude.{ℕ, zero, suc, ◌+◌, ◌-◌, ◌*◌, ◌/◌, ◌%◌, ◌^◌, Bool, true, false, ◌&&◌, ◌||◌, cond, List, [], ◌∷◌, ◌++◌, take, drop, eqb}
use Rattle.std.specs.Int.Bits.{bit_or}

-- if p then q
unfoldable pub implies : Bool → Bool → Bool
implies true q = q
implies false q = true

-- every i below n passes; some i below n passes
unfoldable pub every_below : ℕ → (ℕ → Bool) → Bool
every_below zero p = true
every_below (suc n) p = let rest = every_below n p in p n && rest

unfoldable pub some_below : ℕ → (ℕ → Bool) → Bool
some_below zero p = false
some_below (suc n) p = let rest = some_below n p in p n || rest

-- how many i below n pass
unfoldable pub count_below : ℕ → (ℕ → Bool) → ℕ
count_below zero p = 0
count_below (suc n) p = let rest = count_below n p in cond (p n) (suc rest) rest

-- the lowest of s, s + 1, .., s + n - 1 that passes, or s + n
unfoldable pub first_from : (ℕ → Bool) → ℕ → ℕ → ℕ
first_from p s zero = s
first_from p s (suc n) = let rest = first_from p (suc s) n in cond (p s) s rest

-- every element, some element
unfoldable pub every : {A : Type 0} → (A → Bool) → List A → Bool
every p [] = true
every p (x ∷ xs) = let rest = every p xs in p x && rest

unfoldable pub some : {A : Type 0} → (A → Bool) → List A → Bool
some p [] = false
some p (x ∷ xs) = let rest = some p xs in p x || rest

-- f i, f (i + 1), .., f (i + n - 1)
unfoldable pub tabulate_from : {A : Type 0} → ℕ → ℕ → (ℕ → A) → List A
tabulate_from i zero f = []
tabulate_from i (suc n) f = f i ∷ tabulate_from (suc i) n f

-- row i of a list of rows of w words
unfoldable pub row : ℕ → ℕ → List ℕ → List ℕ
row w i l = take w (drop (w * i) l)

-- n rows of w words, the first of them row i: each passes; each is replaced
unfoldable pub every_row : ℕ → ℕ → (ℕ → List ℕ → Bool) → ℕ → List ℕ → Bool
every_row zero w p i l = true
every_row (suc n) w p i l = let rest = every_row n w p (suc i) (drop w l) in p i (take w l) && rest

unfoldable pub map_rows : ℕ → ℕ → (ℕ → List ℕ → List ℕ) → ℕ → List ℕ → List ℕ
map_rows zero w f i l = l
map_rows (suc n) w f i l = f i (take w l) ++ map_rows n w f (suc i) (drop w l)

-- bit i of a word; the word with it and without it
unfoldable pub bit : ℕ → ℕ → Bool
bit h i = eqb (h / 2 ^ i % 2) 1

unfoldable pub with_bit : ℕ → ℕ → ℕ
with_bit h i = cond (bit h i) h (h + 2 ^ i)

unfoldable pub without_bit : ℕ → ℕ → ℕ
without_bit h i = cond (bit h i) (h - 2 ^ i) h

-- every bit of the word n is one of the word m
unfoldable pub contains : ℕ → ℕ → Bool
contains m n = eqb (bit_or m n) m

-- the word of the slots below n that pass
unfoldable pub slots_that : ℕ → (ℕ → Bool) → ℕ
slots_that zero p = 0
slots_that (suc n) p = slots_that n p + cond (p n) (2 ^ n) 0
