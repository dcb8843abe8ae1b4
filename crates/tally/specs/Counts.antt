-- What is counted: a trial more, and the words of two tables that differ.
use Rattle.std.specs.Prelude.{ℕ, ◌+◌, ◌%◌, ◌^◌, Bool, cond, ◌&&◌, ◌||◌, List, [], ◌∷◌, drop, ◌==◌, slice_index}
use Rattle.names.specs.declared.Answer.{Answer}
use Rattle.names.specs.Answers.{granted}
use Rattle.tally.specs.declared.score.Score.{Score}
use Rattle.tally.specs.declared.tally.Tally.{Tally}

-- the same four numbers
abbrev pub same : Answer → Answer → Bool
same a b = a.code == b.code && a.value == b.value && a.number == b.number && a.looked == b.looked

-- an answer as expected: the same four numbers, and but for a grant no word other than it must be, which is what it was before the
-- call, or what a wait notes (Noted: noted); others is how many words are
abbrev pub as_expected : Answer → ℕ → Answer → Bool
as_expected found others wanted = same found wanted && (wanted.code == granted || others == 0)

-- one more, as words count: after the greatest comes 0
abbrev pub more : ℕ → ℕ
more n = (n + 1) % 2 ^ 64

-- one trial more, right or not
abbrev pub counted : Tally → Bool → Tally
counted t ok =
    record {
      letter = t.letter;
      step = more t.step;
      tried = more t.tried;
      right = cond ok (more t.right) t.right;
    }

-- a call more on tables that are tried whole, and the words that it changed
abbrev pub scored : Score → Bool → ℕ → Score
scored s ok changed = record { calls = cond ok (more s.calls) s.calls; changed = (s.changed + changed) % 2 ^ 64 }

-- how many words of a table differ from those that another has in their place, or from 0 where it has none
unfoldable pub differing : List ℕ → List ℕ → ℕ
differing [] ys = 0
differing (x ∷ xs) ys = cond (x == slice_index ys 0) 0 1 + differing xs (drop 1 ys)
