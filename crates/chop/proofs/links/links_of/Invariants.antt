-- The links of the pieces below `at` are written.
use Prim.Native.Nat.{ℕ}
use mathlib.Core.Path.{◌≡◌}
use mathlib.Core.List.{List}
use lib.ListN.{length, take}
use lib.Bits.{bit_or}
use Rattle.rules.specs.Words.{tabulate_from}
use Rattle.chop.specs.Pieces.{most, pieces_of}
use Rattle.chop.specs.Judgement.{siblings_of, conflicts_of}
use Rattle.chop.proofs.links.links_of.Given as goal

-- all that piece a is joined with
unfoldable pub link_word : List ℕ → ℕ → ℕ
link_word words a = bit_or (siblings_of (pieces_of words) a) (conflicts_of (pieces_of words) a)

abbrev pub invariant-loop-at : goal.invariant-loop-at
invariant-loop-at l = (length l.out ≡ most) × (take l.at l.out ≡ tabulate_from 0 l.at (link_word l.words))
