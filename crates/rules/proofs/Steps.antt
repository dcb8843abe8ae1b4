-- What `step` answers on good tables and on bad ones, and that no second outcome fits.
use mathlib.Core.Path.{◌≡◌, refl}
use mathlib.Core.Bool.{Bool, true, false, cond}
use Rattle.names.specs.declared.Sizes.{Sizes}
use Rattle.rules.specs.Tables.{Tables}
use Rattle.rules.specs.Good.{Good}
use Rattle.rules.specs.Tested.{good}
use Rattle.rules.specs.Answers.{Call, Outcome, refuses, BadTables}
use Rattle.rules.specs.Step.{act, step}
use Rattle.rules.specs.Promises.{OneOutcome}
use Rattle.rules.proofs.Tests.{is_true}
use Rattle.rules.proofs.Equal.{Good→good}

pub step-good : (S : Sizes) (c : Call) (G : Tables) → good S G ≡ true → step S c G ≡ act S c G
unfolding step
step-good S c G e = rw e

-- on good tables a call is judged and done
pub acts : (S : Sizes) (c : Call) (G : Tables) → Good S G → step S c G ≡ act S c G
acts S c G g = step-good S c G (is_true (good S G) (Good→good S G g))

pub step-bad : (S : Sizes) (c : Call) (G : Tables) → good S G ≡ false → step S c G ≡ refuses BadTables G
unfolding step
step-bad S c G e = rw e

-- "no second outcome fits": there is one outcome that is `step`'s, and whatever else is `step`'s is that one
pub one_outcome : (S : Sizes) → OneOutcome S
one_outcome S c G = (step S c G, refl, λ p e. e)

-- a test: what both ways have, the choice has. One line for each branch of nested tests
pub cond_case :
    {A : Type 0} (P : A → Type 0) (z : Bool) (o o' : A) → (z ≡ true → P o) → (z ≡ false → P o') → P (cond z o o')
cond_case P true o o' f h = f refl
cond_case P false o o' f h = h refl
