-- What is put out at the end of the input.
use Prim.Native.Nat.{ℕ}
use mathlib.Core.Path.{◌≡◌, ◌∙◌}
use mathlib.Core.Bool.{true, false}
use mathlib.Core.List.{List}
use lib.ListN.{take}
use Rattle.texts.specs.Written.{Wrote}
use Rattle.texts.proofs.Parts.{front}
use Rattle.number_lines.specs.Lines.{Held, begun}
use Rattle.case_lines.specs.Answers.{answer_at_end}
use Rattle.answering.specs.Life.{answers_at_end}

-- a line that is begun is answered
pub last_answered : (h : Held) {out m : List ℕ} {used : ℕ} → begun h ≡ true → Wrote out 0 (answer_at_end h) m used → take used m ≡ answers_at_end h
unfolding answers_at_end
last_answered h t w = front w ∙ rw t

-- where none is begun, nothing is put out
pub none_answered : (h : Held) (out : List ℕ) → begun h ≡ false → take 0 out ≡ answers_at_end h
unfolding answers_at_end
none_answered h out t = rw t
