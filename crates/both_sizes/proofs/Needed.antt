-- A place for each slot is needed: with two slots and one place a query and an update's commit beside it spoil the tables.
use mathlib.Core.Bool.{not}
use mathlib.Core.List.{List, [], ◌∷◌}
use native.Mathlib.Omega.{arith}
use lib.Dec.{T}
use Rattle.names.specs.declared.Sizes.{Sizes}
use Rattle.rules.specs.Tables.{Tables, fresh}
use Rattle.rules.specs.Answers.{Call, BeginUpdate, BeginQuery, Write, Commit}
use Rattle.rules.specs.Good.{Good}
use Rattle.rules.specs.Tested.{good}
use Rattle.rules.specs.Step.{step}
use Rattle.rules.specs.Promises.{StaysGood}
use Rattle.rules.proofs.Tests.{not_use}
use Rattle.rules.proofs.Equal.{Good→good}
use Rattle.rules.proofs.Fresh.{fresh-good}
use Rattle.history.specs.Runs.{end_of}
use Rattle.plays.proofs.Tested.{tested}

abbrev narrow : Sizes
narrow = record { slots = 2; items = 1; places = 1; quota = 1 }

unfoldable calls : List Call
calls = BeginQuery ∷ BeginUpdate ∷ Write 2 0 5 ∷ Commit 2 ∷ []

spoilt : T (not (good narrow (end_of narrow calls (fresh narrow))))
unfolding tested end_of calls
spoilt = tt

run-good : StaysGood narrow → (cs : List Call) (G : Tables) → Good narrow G → Good narrow (end_of narrow cs G)
unfolding end_of
run-good h [] G g = g
run-good h (c ∷ cs) G g = run-good h cs (step narrow c G).after (h c G g)

pub places-needed : StaysGood narrow → ⊥
places-needed h =
    not_use (good narrow (end_of narrow calls (fresh narrow))) spoilt
    (Good→good narrow (end_of narrow calls (fresh narrow)) (run-good h calls (fresh narrow) (fresh-good narrow (omega arith))))
