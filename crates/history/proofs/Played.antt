-- A run computed by `act` alone: tables that are good stay so, so samples are computed without the test of all tables at each call.
use Prim.Native.Nat.{◌≤◌}
use mathlib.Core.List.{List, [], ◌∷◌}
use mathlib.Core.Path.{◌≡◌, refl, ap, ◌∙◌}
use Rattle.names.specs.declared.Sizes.{Sizes}
use Rattle.rules.specs.Tables.{Tables}
use Rattle.rules.specs.Good.{Good}
use Rattle.rules.specs.Answers.{Call, Outcome}
use Rattle.rules.specs.Step.{act, step}
use Rattle.rules.proofs.Steps.{acts}
use Rattle.rules.proofs.Keeps.{keeps}
use Rattle.history.specs.Runs.{Event, run, end_of}

-- the calls cs made from the tables G, untested: what happens, and the tables at the end
unfoldable pub played : Sizes → List Call → Tables → List Event
played S [] G = []
played S (c ∷ cs) G = let o = act S c G in record { call = c; answer = o.answer } ∷ played S cs o.after

unfoldable pub played_end : Sizes → List Call → Tables → Tables
played_end S [] G = G
played_end S (c ∷ cs) G = played_end S cs (act S c G).after

-- from good tables that is the same
pub run_played : (S : Sizes) → S.slots ≤ S.places → (cs : List Call) (G : Tables) → Good S G → run S cs G ≡ played S cs G
unfolding run played
run_played S enough [] G g = refl
run_played S enough (c ∷ cs) G g =
    let o = step S c G in
    ap (λ (es : List Event). record { call = c; answer = o.answer } ∷ es) (run_played S enough cs o.after (keeps S enough c G g))
    ∙ ap (λ (o : Outcome). record { call = c; answer = o.answer } ∷ played S cs o.after) (acts S c G g)

pub end_played : (S : Sizes) → S.slots ≤ S.places → (cs : List Call) (G : Tables) → Good S G → end_of S cs G ≡ played_end S cs G
unfolding end_of played_end
end_played S enough [] G g = refl
end_played S enough (c ∷ cs) G g =
    end_played S enough cs (step S c G).after (keeps S enough c G g)
    ∙ ap (λ (o : Outcome). played_end S cs o.after) (acts S c G g)
