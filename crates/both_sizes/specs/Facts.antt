-- Request E5, "State the facts over the number of slots, so that 16 and 32 both follow.": the facts about a keeper of the sizes S, in one
-- place. None asks for at most 64 slots: the words of a table are numbers here, of any height. The code's are of 64 bits, and where it
-- moves a bit to a slot's place its proof asks that there is one.
use Rattle.std.specs.Prelude.{ℕ, ◌^◌, ◌≤◌, ◌<◌, List}
use Rattle.names.specs.declared.Sizes.{Sizes}
use Rattle.rules.specs.Tables.{Tables, lock, fresh}
use Rattle.rules.specs.Answers.{Call}
use Rattle.rules.specs.Good.{Good}
use Rattle.rules.specs.Promises.{CodeExactly, StaysGood, GrantedChanges, VersionReads, EndTrims, CommitTrims, SettledTrims}
use Rattle.history.specs.Serial.{Serializes}
use Rattle.history.specs.Undisturbed.{ReadsAsBegun, Undisturbed}
use Rattle.history.specs.Relaxed.{RelaxedSerial, StampsAgree}
use Rattle.history.specs.Ended.{EndedForEver}
use Rattle.history.specs.Weighed.{EndWeighs}
use Rattle.history.specs.Beside.{Beside}
use Rattle.line.specs.Served.{ServedInRuns}

-- all that is asked of the sizes: a place for each slot, and one at least
pub record Enough (S : Sizes) : Type 0 where
  pub places : S.slots ≤ S.places
  pub room : 1 ≤ S.places

abbrev pub HoldersFit : Sizes → Type 0
HoldersFit S = (G : Tables) (x : ℕ) → Good S G → x < S.items → (lock G.locks x).shared < 2 ^ S.slots

pub record Facts (S : Sizes) : Type 0 where
  -- fresh tables are good, every call leaves good tables good, and answers and changes them as is said
  pub fresh_good : Good S (fresh S)
  pub stays_good : StaysGood S
  pub codes : CodeExactly S
  pub changes : GrantedChanges S
  -- a word of shared holders has a bit for each slot and none above: for up to 64 slots it is one word of 64 bits
  pub holders : HoldersFit S
  -- looked is at most 2 plus the number of live queries with a later start, those past their writing among them (request E6), and relaxed
  -- ones (request E11)
  pub looked : VersionReads S
  -- as many places as slots are always enough
  pub end_trims : EndTrims S
  pub commit_trims : CommitTrims S
  pub settled_trims : SettledTrims S
  -- demand 3, and what stands beside it
  pub serial : (cs : List Call) → Serializes S cs
  pub undisturbed : Undisturbed S
  pub as_begun : ReadsAsBegun S
  pub beside : (cs : List Call) → Beside S cs
  pub ended : EndedForEver S
  -- request E11: demand 3 for relaxed queries
  pub relaxed : RelaxedSerial S
  pub stamps_agree : StampsAgree S
  -- request E8: what a query's end answers
  pub weighed : EndWeighs S
  -- request E4: who waits in line is served
  pub served : ServedInRuns S
