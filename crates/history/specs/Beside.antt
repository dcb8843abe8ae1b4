-- What stands beside demand 3. A keeper that ruins its own tables would answer 10 for ever and so read nothing wrong: hence this.
use Rattle.std.specs.Prelude.{List, ◌≢◌}
use Rattle.names.specs.declared.Sizes.{Sizes}
use Rattle.rules.specs.Tables.{fresh}
use Rattle.rules.specs.Good.{Good}
use Rattle.rules.specs.Answers.{Call, code, BadTables}
use Rattle.history.specs.Runs.{run, end_of, Every}
use Rattle.history.specs.Numbers.{Upward}

-- of the calls cs from fresh tables
pub record Beside (S : Sizes) (cs : List Call) : Type 0 where
  -- the tables are good. (Every table that a run passes through is the end of its first calls.)
  pub stay_good : Good S (end_of S cs (fresh S))
  -- and code 10 never comes
  pub never_bad : Every (λ e. e.answer.code ≢ code BadTables) (run S cs (fresh S))
  -- numbers and stamps are given upward, one by one, and whoever took a stamp keeps it
  pub rising : Upward S cs
