-- "A number is one or more digits, leading zeros allowed": as a relation, and as it is read.
use Rattle.std.specs.Prelude.{ℕ, ◌+◌, ◌-◌, ◌*◌, ◌<◌, ◌≤◌, ◌≡◌, Bool, true, ◌&&◌, cond, List, [], ◌∷◌, ◌++◌, eqb, leb, length, drop, Option, Some, None}

-- `0` to `9`
abbrev pub digit : ℕ → Bool
digit b = leb 48 b && leb b 57

-- "a number above 18,446,744,073,709,551,615" is bad
abbrev pub greatest : ℕ
greatest = 18446744073709551615

-- ---- as a relation

-- what a run of digits is worth, where v is what stands before it
unfoldable pub worth : ℕ → List ℕ → ℕ
worth v [] = v
worth v (d ∷ ds) = worth (v * 10 + (d - 48)) ds

pub data Digits : List ℕ → Type 0 where
  none : Digits []
  more : {d : ℕ} {ds : List ℕ} → digit d ≡ true → Digits ds → Digits (d ∷ ds)

-- one or more digits that are worth n
pub record Numeral (ds : List ℕ) (n : ℕ) : Type 0 where
  pub some : 0 < length ds
  pub digits : Digits ds
  pub value : worth 0 ds ≡ n
  pub fits : n ≤ greatest

-- "its decimal numbers, one space before each"
pub data Numbers : List ℕ → List ℕ → Type 0 where
  none : Numbers [] []
  more : {ds rest ns : List ℕ} {n : ℕ} → Numeral ds n → Numbers rest ns → Numbers (32 ∷ (ds ++ rest)) (n ∷ ns)

-- ---- as it is read

-- a number with a digit more, where it is one and the number is not too great
unfoldable pub with_digit : ℕ → ℕ → Option ℕ
with_digit v b = cond (digit b && leb (v * 10 + (b - 48)) greatest) (Some (v * 10 + (b - 48))) None

-- a number and the bytes after it, or no number
pub data Read : Type 0 where
  upto : ℕ → List ℕ → Read
  no : Read

-- the digits as far as they go, where v is what stands before them
unfoldable pub digits_from : ℕ → List ℕ → Read
digits_from v [] = upto v []
digits_from v (b ∷ bs) =
    let more = digits_from (v * 10 + (b - 48)) bs in
    cond (digit b) (cond (leb (v * 10 + (b - 48)) greatest) more no) (upto v (b ∷ bs))

unfoldable pub some_digits : List ℕ → Read
some_digits [] = no
some_digits (b ∷ bs) = cond (digit b) (digits_from 0 (b ∷ bs)) no

-- a space, then one or more digits
unfoldable pub number : List ℕ → Read
number [] = no
number (b ∷ bs) = cond (eqb b 32) (some_digits bs) no

-- what the code says of a line by an index
abbrev pub taken_by : List ℕ → Option (ℕ × ℕ) → Read
taken_by l (Some p) = upto p.0 (drop p.1 l)
taken_by l None = no
