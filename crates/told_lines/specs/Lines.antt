-- What the lines of a text come to, whatever they say: the things said, and the first line that is bad.
use Rattle.std.specs.Prelude.{ℕ, suc, ◌≡◌, cond, List, [], ◌∷◌, ◌++◌, eqb, leb, length, Option, Some, None}
use Rattle.numerals.specs.Numbers.{greatest}
use Rattle.numerals.specs.Print.{decimal}
use Rattle.line_words.specs.Said.{Said, comment, says, bad}

-- what is said is "counted without comment lines"
unfoldable pub said_in : {A : Type 0} → List (Said A) → List A
said_in [] = []
said_in (comment ∷ ss) = said_in ss
said_in (says p ∷ ss) = p ∷ said_in ss
said_in (bad ∷ ss) = said_in ss

-- "the first line that is none of these, counted among all lines from 1", where k lines stand before; 0 where there is none
unfoldable pub bad_from : {A : Type 0} → ℕ → List (Said A) → ℕ
bad_from k [] = 0
bad_from k (comment ∷ ss) = bad_from (suc k) ss
bad_from k (says p ∷ ss) = bad_from (suc k) ss
bad_from k (bad ∷ ss) = suc k

unfoldable pub first_bad : {A : Type 0} → List (Said A) → ℕ
first_bad ss = bad_from 0 ss

-- a line's number; no input has more lines than a word can count
unfoldable pub capped : ℕ → ℕ
capped k = cond (leb k greatest) k greatest

-- the first bad line, as it is counted; none for 0
unfoldable pub bad_line : ℕ → Option ℕ
bad_line k = cond (eqb k 0) None (Some (capped k))

-- what is kept of lines: how many they are and which is the first bad one, as they are counted, and what they say, kept in a way of its
-- own
pub record Tallied {A S : Type 0} (Kept : List A → S → Type 0) (ss : List (Said A)) (n : ℕ) (b : Option ℕ) (s : S) : Type 0 where
  pub lines : n ≡ capped (length ss)
  pub bad : b ≡ bad_line (first_bad ss)
  pub kept : Kept (said_in ss) s

-- `bad line`, before its number
abbrev pub bad_words : List ℕ
bad_words = 98 ∷ 97 ∷ 100 ∷ 32 ∷ 108 ∷ 105 ∷ 110 ∷ 101 ∷ 32 ∷ []

unfoldable pub bad_text : ℕ → List ℕ
bad_text k = bad_words ++ (decimal k ++ (10 ∷ []))

-- the bytes of the longest such line
abbrev pub longest_bad : ℕ
longest_bad = 30

-- `unknown item`
abbrev pub unknown_words : List ℕ
unknown_words = 117 ∷ 110 ∷ 107 ∷ 110 ∷ 111 ∷ 119 ∷ 110 ∷ 32 ∷ 105 ∷ 116 ∷ 101 ∷ 109 ∷ 10 ∷ []
