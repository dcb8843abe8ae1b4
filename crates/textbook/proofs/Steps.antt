-- What holds of every way that a call can go, told of what happened, holds of every step.
use Prim.Native.Nat.{◌≤◌}
use mathlib.Core.Path.{sym, subst}
use Rattle.names.specs.declared.Sizes.{Sizes}
use Rattle.rules.specs.Tables.{Tables}
use Rattle.rules.specs.Good.{Good}
use Rattle.rules.specs.Answers.{Call, Deed, Outcome}
use Rattle.rules.specs.Step.{judged, done, act, step}
use Rattle.rules.proofs.Steps.{acts}
use Rattle.rules.proofs.Judged.{way}
use Rattle.rules.proofs.Ways.{Way}
use Rattle.history.specs.Happened.{Happening, SoFar, happened}
use Rattle.history.proofs.Marked.{Known}
use Rattle.history.proofs.Seen.{seen}
use Rattle.history.proofs.Happens.{Happens, happens}

module _ (S : Sizes) (enough : S.slots ≤ S.places) (G : Tables) (g : Good S G) where
  pub by_way :
      (P : Call → Happening → Outcome → Type 0) → ((c : Call) (d : Deed) (w : Way S G c d) → P c (happens S enough G g c d w).what (done S d G))
      → (c : Call) (us : SoFar) → Known S.items us (seen S G) → P c (happened us c (step S c G).answer) (step S c G)
  unfolding act
  by_way P f c us K =
      let M = subst (λ (o : Outcome). (H : Happens S G c o) × P c H.what o) (sym (acts S c G g))
      (happens S enough G g c (judged S c G) (way S G g c), f c (judged S c G) (way S G g c)) in
      subst (λ (h : Happening). P c h (step S c G)) (sym (M.0.begun us K)) M.1
