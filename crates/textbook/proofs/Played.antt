-- Marks computed by `act` alone: tables that are good stay so, so samples are computed without the test of all tables at each call.
use Prim.Native.Nat.{◌≤◌}
use mathlib.Core.List.{List, [], ◌∷◌}
use mathlib.Core.Path.{◌≡◌, refl, ap, ◌∙◌}
use Rattle.names.specs.declared.Sizes.{Sizes}
use Rattle.rules.specs.Tables.{Tables, fresh}
use Rattle.rules.specs.Good.{Good}
use Rattle.rules.specs.Answers.{Call, Outcome}
use Rattle.rules.specs.Step.{act, step}
use Rattle.rules.proofs.Steps.{acts}
use Rattle.rules.proofs.Keeps.{keeps}
use Rattle.rules.proofs.Fresh.{fresh-good}
use Rattle.history.specs.Happened.{SoFar, none_so_far, happened, begun_with}
use Rattle.textbook.specs.Marks.{source, Mark, marks_after, marks}

-- one call with this outcome, and the rest
abbrev first : Sizes → SoFar → Call → Tables → Outcome → (SoFar → Tables → List Mark) → List Mark
first S us c G o rest =
    record { what = happened us c o.answer; from = source S G c o.answer } ∷ rest (begun_with (happened us c o.answer) us) o.after

unfoldable pub played_marks : Sizes → SoFar → List Call → Tables → List Mark
played_marks S us [] G = []
played_marks S us (c ∷ cs) G =
    let o = act S c G in
    let h = happened us c o.answer in
    record { what = h; from = source S G c o.answer } ∷ played_marks S (begun_with h us) cs o.after

marks-after : (S : Sizes) → S.slots ≤ S.places → (us : SoFar) (cs : List Call) (G : Tables) → Good S G → marks_after S us cs G ≡ played_marks S us cs G
unfolding marks_after played_marks
marks-after S enough us [] G g = refl
marks-after S enough us (c ∷ cs) G g =
    let o = step S c G in
    let h = happened us c o.answer in
    ap (λ (ms : List Mark). record { what = h; from = source S G c o.answer } ∷ ms) (marks-after S enough (begun_with h us) cs o.after (keeps S enough c G g))
    ∙ ap (λ (o : Outcome). first S us c G o (λ us G. played_marks S us cs G)) (acts S c G g)

pub marks_played : (S : Sizes) → S.slots ≤ S.places → 1 ≤ S.places → (cs : List Call) → marks S cs ≡ played_marks S none_so_far cs (fresh S)
unfolding marks
marks_played S enough room cs = marks-after S enough none_so_far cs (fresh S) (fresh-good S room)
