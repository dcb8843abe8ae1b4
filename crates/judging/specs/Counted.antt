-- A file's size and its two counts, as they are asked for and handed over.
use Rattle.std.specs.Prelude.{ℕ, ◌+◌, ◌≤◌, ◌<◌, ◌≡◌, List, length, take, drop}
use Rattle.journal.specs.Words.{word_size, greatest}
use Rattle.journal.specs.Format.{call_count, second_place, answer_count}
use Rattle.judge.specs.Pieces.{Whole, spoken}
use Rattle.judge.specs.declared.Verdict.{Verdict}
use Rattle.judge.specs.declared.Verdict.TheVariants.{Accepted, Short, Unequal, LeftOver, Wrong}
use Rattle.judging.specs.declared.counted.Counts.{Counts}

-- so many bytes of a file, from a place on
abbrev pub part : List ℕ → ℕ → ℕ → List ℕ
part file at n = take n (drop at file)

-- how many counts are still asked for
abbrev pub wanted : Counts → ℕ
wanted c = c.wanted

-- where the next one stands
abbrev pub place : Counts → ℕ
place c = c.place

-- what was asked for was handed over as it stands in the file, and a count is asked for where one stands. Once no count is asked for any more, what is said by the counts is
-- what the file's own counts say; that need not be all of them, where the file is too short for what it says.
pub record Counted (file : List ℕ) (c : Counts) : Type 0 where
  pub size : c.size ≡ length file
  pub fits : c.size ≤ greatest
  pub most : c.wanted ≤ 2
  pub stands : 0 < c.wanted → c.place + word_size ≤ length file
  pub start : c.wanted ≡ 2 → c.place ≡ 0
  pub next : c.wanted ≡ 1 → c.place ≡ second_place file
  pub first : c.wanted ≡ 1 → c.first ≡ call_count file
  pub whole : c.wanted ≡ 0 → Whole file → c.first ≡ call_count file
  pub said : c.wanted ≡ 0 → (wrong : ℕ) →
      spoken c.size c.first c.second wrong ≡ spoken (length file) (call_count file) (answer_count file) wrong

-- records are asked for where points 1 to 3 hold, all of them
unfoldable pub records_by : Verdict → ℕ → ℕ
records_by Accepted n = n
records_by Short n = 0
records_by Unequal n = 0
records_by LeftOver n = 0
records_by (Wrong k) n = 0
