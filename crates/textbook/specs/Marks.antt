-- A run, told with the versions that were read.
use Rattle.std.specs.Prelude.{ℕ, zero, suc, List, [], ◌∷◌}
use Rattle.names.specs.declared.Sizes.{Sizes}
use Rattle.names.specs.declared.Answer.{Answer}
use Rattle.rules.specs.Tables.{Tables, fresh}
use Rattle.rules.specs.Versions.{Version, versions_of, stamp_at}
use Rattle.rules.specs.Answers.{Call, BeginUpdate, BeginQuery, Read, Write, Commit, Abort, Settle, BeginRelaxed}
use Rattle.rules.specs.Step.{step}
use Rattle.history.specs.Happened.{Happening, SoFar, none_so_far, happened, begun_with}

-- what a call read: no version, or the one with this stamp. The starting zero has the stamp 0
pub data Source : Type 0 where
  none : Source
  version : ℕ → Source

-- "looked is 1 for the newest value, 0 for the own working value, the place for a query": of these versions, newest first
unfoldable pub looked_up : ℕ → List Version → Source
looked_up zero vs = none
looked_up (suc k) vs = version (stamp_at vs k)

-- at the call c on the tables G, with the answer r
unfoldable pub source : Sizes → Tables → Call → Answer → Source
source S G (Read n x) r = looked_up r.looked (versions_of S G.versions x)
source S G BeginUpdate r = none
source S G BeginQuery r = none
source S G BeginRelaxed r = none
source S G (Write n x v) r = none
source S G (Commit n) r = none
source S G (Abort n) r = none
source S G (Settle n) r = none

-- what happened at a call, and what it read
pub record Mark : Type 0 where
  pub what : Happening
  pub from : Source

-- the calls cs made from the tables G, us being what is known of the calls and answers before
unfoldable pub marks_after : Sizes → SoFar → List Call → Tables → List Mark
marks_after S us [] G = []
marks_after S us (c ∷ cs) G =
    let o = step S c G in
    let h = happened us c o.answer in
    record { what = h; from = source S G c o.answer } ∷ marks_after S (begun_with h us) cs o.after

-- of the calls cs from fresh tables
unfoldable pub marks : Sizes → List Call → List Mark
marks S cs = marks_after S none_so_far cs (fresh S)

-- what happened alone
unfoldable pub whats : List Mark → List Happening
whats [] = []
whats (m ∷ ms) = m.what ∷ whats ms
