-- A call that is printed is at most 80 bytes long and is read back as it was.
use Prim.Native.Nat.{◌+◌, ◌*◌, ◌≤◌}
use mathlib.Core.Path.{◌≡◌, refl}
use native.Mathlib.Omega.{arith}
use lib.ListN.{length, length-append}
use Rattle.rules.specs.Answers.{Call, BeginUpdate, BeginQuery, Read, Write, Commit, Abort, Settle, BeginRelaxed}
use Rattle.script.specs.Says.{Says, word_of, call_line}
use Rattle.script.specs.Parse.{parsed}
use Rattle.call_words.specs.Calls.{numbers_of}
use Rattle.numerals.specs.Print.{spaced, Words}
use Rattle.std.proofs.Common.{Some}
use Rattle.numerals.proofs.Decimals.{spaced-numbers, length-spaced}
use Rattle.script.proofs.Spoken.{parsed_complete}

-- a call's own line says it
pub call_line-says : (c : Call) → Words (numbers_of c) → Says (call_line c) c
unfolding call_line
call_line-says c w = record { rest = spaced (numbers_of c); word = refl; numbers = spaced-numbers w }

pub length-call_line : (c : Call) → length (call_line c) ≤ 80
unfolding call_line
length-call_line c = omega (arith, length-append (word_of c) (spaced (numbers_of c)), length-spaced (numbers_of c), short c)
  where
    short : (c : Call) → length (word_of c) + 21 * length (numbers_of c) ≤ 80
    short BeginUpdate = omega arith
    short BeginQuery = omega arith
    short (Read n x) = omega arith
    short (Write n x v) = omega arith
    short (Commit n) = omega arith
    short (Abort n) = omega arith
    short (Settle n) = omega arith
    short BeginRelaxed = omega arith

pub round_trip : (c : Call) → Words (numbers_of c) → parsed (call_line c) ≡ Some c
round_trip c w = parsed_complete (call_line c) c (call_line-says c w) (length-call_line c)
