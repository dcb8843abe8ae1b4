-- `circles::lowest` meets its contract.
use native.Mathlib.Omega.{arith}
use lib.Dec.{T}
use Rattle.std.specs.Int.{trailing_zeros, w64}
use Rattle.std.proofs.lemmas.Nat.Bits.{bit_at-trailing_zeros}
use Rattle.names.specs.Sizes.{base}
use Rattle.rules.specs.Words.{bit}
use Rattle.rules.proofs.Tests.{eq_make}
use Rattle.rules.proofs.Bits.{bit_below}
use Rattle.circles.proofs.lowest.Goals as goal

pub returns : goal.returns
unfolding bit
returns c =
    let word = c.args.word in
    let at = bit_at-trailing_zeros w64 word c.requires.0 (let l = c.requires.1 in omega arith) in
    let set : T (bit word (trailing_zeros w64 word)) = eq_make _ _ at.1 in
    (bit_below word _ base.slots c.requires.1 set, set)
