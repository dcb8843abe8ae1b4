-- What is put out at the end of the input.
use Prim.Native.Nat.{ℕ, ◌≤◌}
use mathlib.Core.Path.{◌≡◌, sym, ◌∙◌}
use mathlib.Core.Bool.{true, false}
use mathlib.Core.List.{List, append-nil}
use native.Mathlib.Omega.{arith}
use lib.ListN.{length, take}
use Rattle.rules.specs.Tables.{Tables}
use Rattle.texts.specs.Written.{Wrote}
use Rattle.texts.proofs.Parts.{front}
use Rattle.lines.specs.Lines.{Held, begun}
use Rattle.script.specs.Inputs.{read_as, last}
use Rattle.rules.specs.Answers.{Call}
use Rattle.std.proofs.Common.{Option}
use Rattle.running.specs.Replies.{reply_to, replies_to, longest_reply}
use Rattle.running.specs.Life.{state, replies_at_end}
use Rattle.running.proofs.Replied.{reply_most}

-- a line that is begun is answered
module _ (h : Held) (G : Tables) (t : begun h ≡ true) {out m : List ℕ} {p : Option Call} {used : ℕ} (q : p ≡ read_as h) (w : Wrote out 0 (reply_to p G) m used) where
  pub last_used : longest_reply ≤ length out → used ≤ length out
  last_used r = omega (arith, w.index, reply_most p G, r)

  pub last_replied : take used m ≡ replies_at_end (state h G)
  unfolding replies_at_end last replies_to
  last_replied = front w ∙ rw (t, sym q) (sym (append-nil (reply_to p G)))

-- where none is begun, nothing is put out
pub none_replied : (h : Held) (G : Tables) (out : List ℕ) → begun h ≡ false → take 0 out ≡ replies_at_end (state h G)
unfolding replies_at_end last replies_to
none_replied h G out t = rw t
