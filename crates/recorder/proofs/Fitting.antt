-- The calls of an input's lines are 64-bit words.
use Prim.Native.Nat.{ℕ}
use mathlib.Core.Path.{◌≡◌, refl}
use mathlib.Core.List.{List, [], ◌∷◌, ◌++◌, map}
use native.Mathlib.Omega.{arith}
use Rattle.rules.specs.Answers.{Call}
use Rattle.call_words.specs.Calls.{fields_of, numbers_of}
use Rattle.call_words.proofs.Fitting.{Most, none as no_number, more as number-and, fields-most}
use Rattle.call_words.specs.declared.Fields.{Fields}
use Rattle.numerals.specs.Numbers.{Numbers, none as no-numbers, more as numeral_and}
use Rattle.lines.specs.Lines.{lines_of}
use Rattle.script.specs.Parse.{parsed}
use Rattle.script.specs.Inputs.{parsed_lines}
use Rattle.std.proofs.Common.{Option, Some, None}
use Rattle.script.proofs.Spoken.{parsed-sound}
use Rattle.journal.specs.Words.{greatest}
use Rattle.journal.specs.Format.{CallFits, Every, none, more}
use Rattle.recording.specs.Records.{line_calls, script_calls}
use Rattle.recorder.specs.First.{input_calls}

numbers-most : {rest ns : List ℕ} → Numbers rest ns → Most greatest ns
numbers-most no-numbers = no_number
numbers-most (numeral_and m r) = number-and m.fits (numbers-most r)

fields_fit : (c : Call) → Most greatest (numbers_of c) → CallFits (fields_of c)
fields_fit c m =
    let f = fields-most greatest c (omega arith) m in
    record { kind = f.kind; number = f.number; item = f.item; value = f.value }

line-fits : (l : List ℕ) → Every CallFits (line_calls (parsed l))
unfolding line_calls
line-fits l = go (parsed l) refl
  where
    go : (p : Option Call) → parsed l ≡ p → Every CallFits (line_calls p)
    go (Some m) e = more (fields_fit m (numbers-most (parsed-sound l m e).0.numbers)) none
    go None e = none

every_append : {a b : List Fields} → Every CallFits a → Every CallFits b → Every CallFits (a ++ b)
every_append none s = s
every_append (more h r) s = more h (every_append r s)

lines_fit : (ls : List (List ℕ)) → Every CallFits (script_calls (map parsed ls))
unfolding script_calls
lines_fit [] = none
lines_fit (l ∷ ls) = every_append (line-fits l) (lines_fit ls)

pub input_fits : (input : List ℕ) → Every CallFits (input_calls input)
unfolding input_calls parsed_lines
input_fits input = lines_fit (lines_of input)
