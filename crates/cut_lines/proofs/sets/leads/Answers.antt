-- The first operation of a piece is the lowest of its set.
use Prim.Native.Nat.{ℕ}
use mathlib.Core.Path.{ap, ◌∙◌}
use lib.Dec.{eqb}
use Rattle.cut_lines.proofs.Touching.{lead_test}
use Rattle.cut_lines.proofs.sets.leads.Goals as goal

pub returns : goal.returns
returns c =
    let s = c in
    ap (λ (l : ℕ). eqb l s.args.i) c.lowest.ensures
    ∙ lead_test s.args.words.now s.args.cut.now s.args.i s.requires.1 s.requires.0.few c.members_of-members.ensures
