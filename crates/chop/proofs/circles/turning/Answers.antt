use Prim.Native.Nat.{ℕ}
use mathlib.Core.Path.{ap, ◌∙◌}
use mathlib.Core.Bool.{Bool, not}
use lib.ListN.{length}
use lib.Dec.{eqb}
use Rattle.std.proofs.Common.{rules}
use Rattle.rules.specs.Words.{first_from}
use Rattle.words.specs.Below.{found_below}
use Rattle.chop.specs.Pieces.{pieces_of}
use Rattle.chop.specs.Judgement.{closing, turning}
use Rattle.chop.proofs.Linking.{as_many}
use Rattle.chop.proofs.circles.turning.Goals as goal

pub returns : goal.returns
unfolding turning
returns c =
    let a = c.args in
    let p : ℕ → Bool = λ b. not (eqb (closing (pieces_of a.words.now) a.links.now b) 0) in
    c.first_below.ensures p (λ i b l e. search rules)
    ∙ ap (λ (n : ℕ). found_below (length a.links.now) (first_from p 0 n)) (as_many a.words.now a.links.now c.requires)
