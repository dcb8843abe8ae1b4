-- Request E9: what the judge says, and how its answer holds it.
use Rattle.std.specs.Prelude.{ℕ, ◌-◌, List, [], ◌++◌, length, replicate}
use Rattle.chop.specs.declared.Finding.{Finding}
use Rattle.chop.specs.declared.Finding.TheVariants.{TooManyPieces, UnknownItem, Malformed, Refused, Accepted}
use Rattle.chop.specs.declared.Judged.{Judged}
use Rattle.chop.specs.Pieces.{most}

-- a refusal shows a circle, by the places of its pieces in the input, counted from 0
pub data Verdict : Type 0 where
  too_many_pieces : Verdict
  unknown_item : Verdict
  malformed : Verdict
  refused : List ℕ → Verdict
  accepted : Verdict

-- the answer: what was found, and the circle with zeros behind it
unfoldable pub shows : Finding → List ℕ → Judged
shows f l = record { finding = f; length = length l; circle = l ++ replicate (most - length l) 0 }

unfoldable pub said : Verdict → Judged
said too_many_pieces = shows TooManyPieces []
said unknown_item = shows UnknownItem []
said malformed = shows Malformed []
said (refused l) = shows Refused l
said accepted = shows Accepted []
