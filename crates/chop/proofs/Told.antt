-- An answer tells its verdict: what was found, and the circle, with as many pieces as the answer says.
use mathlib.Core.Path.{◌≡◌, refl, sym, ap, ◌∙◌}
use lib.ListN.{length, take, replicate}
use lib.Seq.{take-append_seam}
use Prim.Native.Nat.{◌-◌}
use Rattle.chop.specs.declared.Finding.{Finding}
use Rattle.chop.specs.declared.Finding.TheVariants.{TooManyPieces, UnknownItem, Malformed, Refused, Accepted}
use Rattle.chop.specs.declared.Judged.{Judged}
use Rattle.chop.specs.Pieces.{most}
use Rattle.chop.specs.Verdicts.{Verdict, too_many_pieces, unknown_item, malformed, refused, accepted, said, shows}

told_by : Finding → Judged → Verdict
told_by TooManyPieces j = too_many_pieces
told_by UnknownItem j = unknown_item
told_by Malformed j = malformed
told_by Refused j = refused (take j.length j.circle)
told_by Accepted j = accepted

told : Judged → Verdict
told j = told_by j.finding j

told-said : (v : Verdict) → told (said v) ≡ v
unfolding told told_by said shows
told-said too_many_pieces = refl
told-said unknown_item = refl
told-said malformed = refl
told-said (refused l) = ap refused (take-append_seam l (replicate (most - length l) 0))
told-said accepted = refl

pub said_tells : (u v : Verdict) → said u ≡ said v → u ≡ v
said_tells u v e = sym (told-said u) ∙ ap told e ∙ told-said v
