-- Small files, each with its verdict: the words of a file, the bytes behind them, and what is said of it.
use Rattle.std.specs.Prelude.{ℕ, Bool, true, ◌&&◌, List, [], ◌∷◌, ◌++◌, eqb}
use Rattle.journal.specs.Words.{word_bytes, greatest}
use Rattle.judge.specs.Verdicts.{verdict_on}
use Rattle.judge.specs.declared.Verdict.{Verdict}
use Rattle.judge.specs.declared.Verdict.TheVariants.{Accepted, Short, Unequal, LeftOver, Wrong}

pub record Sample : Type 0 where
  pub words : List ℕ
  pub bytes : List ℕ
  pub verdict : Verdict

-- words alone, and words with bytes behind them
abbrev file : Verdict → List ℕ → Sample
file v ws = record { words = ws; bytes = []; verdict = v }

abbrev longer : Verdict → List ℕ → List ℕ → Sample
longer v ws bs = record { words = ws; bytes = bs; verdict = v }

unfoldable pub samples : List Sample
samples =
    -- the least journal, and files that are shorter and longer
    file Accepted (0 ∷ 0 ∷ [])
    ∷ file Short ([])
    ∷ longer Short ([]) (0 ∷ [])
    ∷ file Short (0 ∷ [])
    ∷ longer Short (0 ∷ []) (0 ∷ 0 ∷ 0 ∷ 0 ∷ 0 ∷ 0 ∷ 0 ∷ [])
    ∷ longer LeftOver (0 ∷ 0 ∷ []) (0 ∷ [])
    ∷ file LeftOver (0 ∷ 0 ∷ 0 ∷ [])
    -- an update begins: right, and a byte short and a byte long
    ∷ file Accepted (1 ∷ 1 ∷ 0 ∷ 0 ∷ 0 ∷ 1 ∷ 0 ∷ 0 ∷ 1 ∷ 0 ∷ [])
    ∷ longer Short (1 ∷ 1 ∷ 0 ∷ 0 ∷ 0 ∷ 1 ∷ 0 ∷ 0 ∷ 1 ∷ []) (0 ∷ 0 ∷ 0 ∷ 0 ∷ 0 ∷ 0 ∷ 0 ∷ [])
    ∷ longer LeftOver (1 ∷ 1 ∷ 0 ∷ 0 ∷ 0 ∷ 1 ∷ 0 ∷ 0 ∷ 1 ∷ 0 ∷ []) (0 ∷ [])
    -- each field of that call and of its answer wrong
    ∷ file (Wrong 1) (1 ∷ 0 ∷ 0 ∷ 0 ∷ 0 ∷ 1 ∷ 0 ∷ 0 ∷ 1 ∷ 0 ∷ [])
    ∷ file (Wrong 1) (1 ∷ 9 ∷ 0 ∷ 0 ∷ 0 ∷ 1 ∷ 0 ∷ 0 ∷ 1 ∷ 0 ∷ [])
    ∷ file (Wrong 1) (1 ∷ greatest ∷ 0 ∷ 0 ∷ 0 ∷ 1 ∷ 0 ∷ 0 ∷ 1 ∷ 0 ∷ [])
    ∷ file (Wrong 1) (1 ∷ 1 ∷ 1 ∷ 0 ∷ 0 ∷ 1 ∷ 0 ∷ 0 ∷ 1 ∷ 0 ∷ [])
    ∷ file (Wrong 1) (1 ∷ 1 ∷ 0 ∷ 1 ∷ 0 ∷ 1 ∷ 0 ∷ 0 ∷ 1 ∷ 0 ∷ [])
    ∷ file (Wrong 1) (1 ∷ 1 ∷ 0 ∷ 0 ∷ 1 ∷ 1 ∷ 0 ∷ 0 ∷ 1 ∷ 0 ∷ [])
    ∷ file (Wrong 1) (1 ∷ 1 ∷ 0 ∷ 0 ∷ 0 ∷ 1 ∷ 1 ∷ 0 ∷ 1 ∷ 0 ∷ [])
    ∷ file (Wrong 1) (1 ∷ 1 ∷ 0 ∷ 0 ∷ 0 ∷ 1 ∷ 0 ∷ 1 ∷ 1 ∷ 0 ∷ [])
    ∷ file (Wrong 1) (1 ∷ 1 ∷ 0 ∷ 0 ∷ 0 ∷ 1 ∷ 0 ∷ 0 ∷ 2 ∷ 0 ∷ [])
    ∷ file (Wrong 1) (1 ∷ 1 ∷ 0 ∷ 0 ∷ 0 ∷ 1 ∷ 0 ∷ 0 ∷ 1 ∷ 1 ∷ [])
    -- a kind for each word of the runner, each right with its answer from fresh tables, and each with a word in every field that it does not use
    ∷ file Accepted (1 ∷ 2 ∷ 0 ∷ 0 ∷ 0 ∷ 1 ∷ 0 ∷ 0 ∷ 1 ∷ 0 ∷ [])
    ∷ file (Wrong 1) (1 ∷ 2 ∷ 1 ∷ 0 ∷ 0 ∷ 1 ∷ 0 ∷ 0 ∷ 1 ∷ 0 ∷ [])
    ∷ file (Wrong 1) (1 ∷ 2 ∷ 0 ∷ 1 ∷ 0 ∷ 1 ∷ 0 ∷ 0 ∷ 1 ∷ 0 ∷ [])
    ∷ file (Wrong 1) (1 ∷ 2 ∷ 0 ∷ 0 ∷ 1 ∷ 1 ∷ 0 ∷ 0 ∷ 1 ∷ 0 ∷ [])
    ∷ file Accepted (1 ∷ 3 ∷ 9 ∷ 9 ∷ 0 ∷ 1 ∷ 3 ∷ 0 ∷ 0 ∷ 0 ∷ [])
    ∷ file (Wrong 1) (1 ∷ 3 ∷ 9 ∷ 9 ∷ 1 ∷ 1 ∷ 3 ∷ 0 ∷ 0 ∷ 0 ∷ [])
    ∷ file Accepted (1 ∷ 4 ∷ 9 ∷ 9 ∷ 9 ∷ 1 ∷ 3 ∷ 0 ∷ 0 ∷ 0 ∷ [])
    ∷ file Accepted (1 ∷ 5 ∷ 9 ∷ 0 ∷ 0 ∷ 1 ∷ 3 ∷ 0 ∷ 0 ∷ 0 ∷ [])
    ∷ file (Wrong 1) (1 ∷ 5 ∷ 9 ∷ 1 ∷ 0 ∷ 1 ∷ 3 ∷ 0 ∷ 0 ∷ 0 ∷ [])
    ∷ file (Wrong 1) (1 ∷ 5 ∷ 9 ∷ 0 ∷ 1 ∷ 1 ∷ 3 ∷ 0 ∷ 0 ∷ 0 ∷ [])
    ∷ file Accepted (1 ∷ 6 ∷ 9 ∷ 0 ∷ 0 ∷ 1 ∷ 3 ∷ 0 ∷ 0 ∷ 0 ∷ [])
    ∷ file (Wrong 1) (1 ∷ 6 ∷ 9 ∷ 1 ∷ 0 ∷ 1 ∷ 3 ∷ 0 ∷ 0 ∷ 0 ∷ [])
    ∷ file (Wrong 1) (1 ∷ 6 ∷ 9 ∷ 0 ∷ 1 ∷ 1 ∷ 3 ∷ 0 ∷ 0 ∷ 0 ∷ [])
    ∷ file Accepted (1 ∷ 7 ∷ 9 ∷ 0 ∷ 0 ∷ 1 ∷ 3 ∷ 0 ∷ 0 ∷ 0 ∷ [])
    ∷ file (Wrong 1) (1 ∷ 7 ∷ 9 ∷ 1 ∷ 0 ∷ 1 ∷ 3 ∷ 0 ∷ 0 ∷ 0 ∷ [])
    ∷ file (Wrong 1) (1 ∷ 7 ∷ 9 ∷ 0 ∷ 1 ∷ 1 ∷ 3 ∷ 0 ∷ 0 ∷ 0 ∷ [])
    ∷ file Accepted (1 ∷ 8 ∷ 0 ∷ 0 ∷ 0 ∷ 1 ∷ 0 ∷ 0 ∷ 1 ∷ 0 ∷ [])
    ∷ file (Wrong 1) (1 ∷ 8 ∷ 1 ∷ 0 ∷ 0 ∷ 1 ∷ 0 ∷ 0 ∷ 1 ∷ 0 ∷ [])
    ∷ file (Wrong 1) (1 ∷ 8 ∷ 0 ∷ 1 ∷ 0 ∷ 1 ∷ 0 ∷ 0 ∷ 1 ∷ 0 ∷ [])
    ∷ file (Wrong 1) (1 ∷ 8 ∷ 0 ∷ 0 ∷ 1 ∷ 1 ∷ 0 ∷ 0 ∷ 1 ∷ 0 ∷ [])
    -- counts: one too many, one too few, and such that 32 times the count wraps
    ∷ file Short (1 ∷ 0 ∷ [])
    ∷ file Short (1 ∷ 1 ∷ 0 ∷ 0 ∷ 0 ∷ [])
    ∷ file Short (1 ∷ 1 ∷ 0 ∷ 0 ∷ 0 ∷ 1 ∷ [])
    ∷ file Unequal (1 ∷ 1 ∷ 0 ∷ 0 ∷ 0 ∷ 0 ∷ [])
    ∷ file Unequal (0 ∷ 1 ∷ 0 ∷ 0 ∷ 1 ∷ 0 ∷ [])
    ∷ file Short (0 ∷ 1 ∷ 0 ∷ 0 ∷ 1 ∷ [])
    ∷ file Unequal (2 ∷ 1 ∷ 0 ∷ 0 ∷ 0 ∷ 1 ∷ 0 ∷ 0 ∷ 1 ∷ 0 ∷ [])
    ∷ file Short (1 ∷ 1 ∷ 0 ∷ 0 ∷ 0 ∷ 2 ∷ 0 ∷ 0 ∷ 1 ∷ 0 ∷ [])
    ∷ file Short (greatest ∷ 0 ∷ [])
    ∷ file Short (0 ∷ greatest ∷ [])
    ∷ file Short (576460752303423488 ∷ 0 ∷ [])
    ∷ file Short (576460752303423488 ∷ 576460752303423488 ∷ [])
    ∷ file Short (0 ∷ 576460752303423488 ∷ [])
    ∷ file Short (1 ∷ 1 ∷ 0 ∷ 0 ∷ 0 ∷ 576460752303423488 ∷ 0 ∷ 0 ∷ 1 ∷ 0 ∷ [])
    -- a wrong call and another point: the point comes first, wherever the call stands
    ∷ longer LeftOver (1 ∷ 1 ∷ 0 ∷ 0 ∷ 0 ∷ 1 ∷ 5 ∷ 0 ∷ 1 ∷ 0 ∷ []) (0 ∷ [])
    ∷ file Unequal (1 ∷ 9 ∷ 0 ∷ 0 ∷ 0 ∷ 0 ∷ [])
    ∷ file Short (1 ∷ 9 ∷ 0 ∷ 0 ∷ 0 ∷ 1 ∷ 0 ∷ 0 ∷ 1 ∷ [])
    ∷ longer Unequal (1 ∷ 1 ∷ 0 ∷ 0 ∷ 0 ∷ 0 ∷ []) (0 ∷ [])
    -- two calls: the first wrong one is named
    ∷ file Accepted (2 ∷ 1 ∷ 0 ∷ 0 ∷ 0 ∷ 4 ∷ 1 ∷ 5 ∷ 7 ∷ 2 ∷ 0 ∷ 0 ∷ 1 ∷ 0 ∷ 0 ∷ 0 ∷ 0 ∷ 0 ∷ [])
    ∷ file (Wrong 2) (2 ∷ 1 ∷ 0 ∷ 0 ∷ 0 ∷ 4 ∷ 1 ∷ 5 ∷ 7 ∷ 2 ∷ 0 ∷ 0 ∷ 1 ∷ 0 ∷ 0 ∷ 0 ∷ 0 ∷ 1 ∷ [])
    ∷ file (Wrong 1) (2 ∷ 1 ∷ 0 ∷ 0 ∷ 0 ∷ 4 ∷ 1 ∷ 5 ∷ 7 ∷ 2 ∷ 0 ∷ 0 ∷ 2 ∷ 0 ∷ 0 ∷ 0 ∷ 0 ∷ 1 ∷ [])
    ∷ file (Wrong 2) (2 ∷ 1 ∷ 0 ∷ 0 ∷ 0 ∷ 9 ∷ 1 ∷ 5 ∷ 7 ∷ 2 ∷ 0 ∷ 0 ∷ 1 ∷ 0 ∷ 0 ∷ 0 ∷ 0 ∷ 0 ∷ [])
    ∷ []

-- ---- the verdict on a sample, as a test

-- what is printed of a verdict, as two numbers: the point, 0 for accepted, and the call, 0 for none
unfoldable pub point : Verdict → ℕ
point Accepted = 0
point Short = 1
point Unequal = 2
point LeftOver = 3
point (Wrong k) = 4

unfoldable pub named : Verdict → ℕ
named Accepted = 0
named Short = 0
named Unequal = 0
named LeftOver = 0
named (Wrong k) = k

unfoldable pub alike : Verdict → Verdict → Bool
alike v w = eqb (point v) (point w) && eqb (named v) (named w)

unfoldable pub bytes_of_all : List ℕ → List ℕ
bytes_of_all [] = []
bytes_of_all (w ∷ ws) = word_bytes w ++ bytes_of_all ws

unfoldable pub as_said : Sample → Bool
as_said s = alike (verdict_on (bytes_of_all s.words ++ s.bytes)) s.verdict

unfoldable pub all_as_said : List Sample → Bool
all_as_said [] = true
all_as_said (s ∷ ss) = let rest = all_as_said ss in as_said s && rest
