-- `finest::links::linked` meets its contract.
use Prim.Native.Nat.{◌*◌}
use mathlib.Core.Path.{ap, ◌∙◌}
use mathlib.Core.Bool.{Bool, ◌&&◌, ◌||◌, not}
use lib.ListN.{get_or}
use lib.Dec.{eqb}
use Rattle.rules.specs.Words.{bit}
use Rattle.finest.proofs.InRows.{link_test}
use Rattle.finest.proofs.links.linked.Goals as goal

pub returns : goal.returns
unfolding bit
returns c =
    let s = c in
    let words = s.args.words.now in
    let i = s.args.i in
    let j = s.args.j in
    let same = eqb (get_or words (i * 4) 0) (get_or words (j * 4) 0) in
    ap (λ (b : Bool). b || (same && (not (eqb (get_or words (i * 4) 0) s.args.t) || (eqb i j || (same && (bit s.args.undo i && bit s.args.undo j)))))) c.conflicting-clash.ensures
    ∙ link_test words i j s.requires.0 s.requires.1 s.args.undo s.args.t s.requires.3
