-- A file's calls and answers, as they are asked for and handed over, and what is known of them.
use Rattle.std.specs.Prelude.{ℕ, ◌+◌, ◌-◌, ◌*◌, ◌≤◌, ◌<◌, ◌≡◌, List, drop}
use Rattle.journal.specs.Words.{word_size}
use Rattle.journal.specs.Format.{record_size, call_count, answers_place, next_piece}
use Rattle.judge.specs.Pieces.{Progress, progress, start, seen_all, Whole}
use Rattle.judging.specs.declared.lockstep.Judging.{Judging}
use Rattle.judging.specs.Counted.{Counted}

-- how many records of each kind are still asked for
abbrev pub left : Judging → ℕ
left j = j.left

-- how many of them next, and how many bytes these have
abbrev pub records_next : Judging → ℕ
records_next j = next_piece j.left

abbrev pub bytes_next : Judging → ℕ
bytes_next j = records_next j * record_size

-- how many were handed over
abbrev pub passed : Judging → ℕ
passed j = j.counts.first - j.left

-- where the next calls stand: behind the first count and the calls before; and the next answers: behind both counts, all calls and
-- the answers before
abbrev pub calls_at : Judging → ℕ
calls_at j = word_size + record_size * passed j

abbrev pub answers_at : Judging → ℕ
answers_at j = 2 * word_size + record_size * j.counts.first + record_size * passed j

-- the calls that were handed over were seen one after another, from fresh tables
abbrev pub progress_of : Judging → Progress
progress_of j = progress j.judge j.txns j.locks j.versions

pub record Seen (file : List ℕ) (j : Judging) : Type 0 where
  pub count : j.counts.first ≡ call_count file
  pub within : j.left ≤ j.counts.first
  pub kept : progress_of j ≡ seen_all (passed j) (drop word_size file) (drop (answers_place file) file) start

-- what was asked for was handed over as it stands in the file; records are asked for of a whole file alone
pub record Handed (file : List ℕ) (j : Judging) : Type 0 where
  pub counted : Counted file j.counts
  pub over : j.counts.wanted ≡ 0
  pub whole : 0 < j.left → Whole file
  pub seen : Whole file → Seen file j
