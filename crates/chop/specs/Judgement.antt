-- Request E9: the judgement, with the circle that is shown. A mixed circle has a piece b at which a sibling a and a conflicting c
-- come together, and the rest of it is a way from c to a that avoids b.
use Rattle.std.specs.Prelude.{ℕ, not, cond, List, ◌∷◌, length, eqb, ltb}
use Rattle.std.specs.Int.Bits.{bit_and, bit_or}
use Rattle.rules.specs.Words.{first_from, tabulate_from}
use Rattle.graph.specs.Sets.{those, lowest}
use Rattle.graph.specs.Near.{joined, path}
use Rattle.chop.specs.Pieces.{Piece, most, siblings, conflict}
use Rattle.chop.specs.Verdicts.{Verdict, too_many_pieces, refused, accepted}

-- the siblings of b; the pieces in conflict with b; for each piece all that it is joined with; all but b
unfoldable pub siblings_of : List Piece → ℕ → ℕ
siblings_of ps b = those (length ps) (siblings ps b)

unfoldable pub conflicts_of : List Piece → ℕ → ℕ
conflicts_of ps b = those (length ps) (conflict ps b)

unfoldable pub links_of : List Piece → List ℕ
links_of ps = tabulate_from 0 (length ps) (λ a. bit_or (siblings_of ps a) (conflicts_of ps a))

unfoldable pub others : ℕ → ℕ → ℕ
others n b = those n (λ a. not (eqb a b))

-- the pieces in conflict with b from which a way leads to b's lowest sibling and avoids b; w are the links. The siblings of b are
-- joined with each other, so that the lowest one serves for all
unfoldable pub closing : List Piece → List ℕ → ℕ → ℕ
closing ps w b =
    cond (eqb (siblings_of ps b) 0) 0
    (bit_and (conflicts_of ps b) (joined w (others (length ps) b) (lowest (siblings_of ps b))))

-- the lowest piece at which a circle closes; the number of pieces if there is none
unfoldable pub turning : List Piece → List ℕ → ℕ
turning ps w = first_from (λ b. not (eqb (closing ps w b) 0)) 0 (length ps)

-- the circle at b: b, then the shortest way to b's lowest sibling from the lowest piece that closes a circle
unfoldable pub circle_at : List Piece → List ℕ → ℕ → List ℕ
circle_at ps w b = b ∷ path w (others (length ps) b) (lowest (siblings_of ps b)) (lowest (closing ps w b))

unfoldable pub verdict_at : List Piece → List ℕ → ℕ → Verdict
verdict_at ps w b = let l = circle_at ps w b in cond (ltb b (length ps)) (refused l) accepted

unfoldable pub verdict_by : List Piece → List ℕ → Verdict
verdict_by ps w = verdict_at ps w (turning ps w)

-- "More than 32 pieces .. have refusals of their own", before all else; then refused with a circle, or accepted
unfoldable pub judgement : List Piece → Verdict
judgement ps = let v = verdict_by ps (links_of ps) in cond (ltb most (length ps)) too_many_pieces v
