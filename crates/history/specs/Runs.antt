-- A run: calls made one after another, each with its answer.
use Rattle.std.specs.Prelude.{true, List, [], ◌∷◌, T}
use Rattle.names.specs.declared.Sizes.{Sizes}
use Rattle.names.specs.declared.Answer.{Answer}
use Rattle.rules.specs.Tables.{Tables}
use Rattle.rules.specs.Answers.{Call}
use Rattle.rules.specs.Step.{step}

-- a call with its answer
pub record Event : Type 0 where
  pub call : Call
  pub answer : Answer

-- the calls cs made from the tables G: what happens, and the tables at the end
unfoldable pub run : Sizes → List Call → Tables → List Event
run S [] G = []
run S (c ∷ cs) G = let o = step S c G in record { call = c; answer = o.answer } ∷ run S cs o.after

unfoldable pub end_of : Sizes → List Call → Tables → Tables
end_of S [] G = G
end_of S (c ∷ cs) G = end_of S cs (step S c G).after

-- every event has the property P
unfoldable pub Every : (Event → Type 0) → List Event → Type 0
Every P [] = T true
Every P (e ∷ es) = P e × Every P es
