-- A call's reply and the tables after it.
use Prim.Native.Nat.{ℕ, ◌≤◌}
use mathlib.Core.Path.{◌≡◌, refl, ap}
use mathlib.Core.List.{List}
use native.Mathlib.Omega.{arith}
use lib.ListN.{length}
use Rattle.names.specs.declared.Answer.{Answer}
use Rattle.names.specs.Sizes.{base}
use Rattle.rules.specs.Tables.{Tables, tables}
use Rattle.rules.specs.Answers as rules
use Rattle.rules.specs.Answers.{Outcome, outcome}
use Rattle.rules.specs.Step.{step}
use Rattle.numerals.specs.Print.{answer_line, bad_line}
use Rattle.numerals.proofs.Decimals.{length-answer_line}
use Rattle.texts.specs.Written.{Wrote}
use Rattle.std.proofs.Common.{Option, Some, None}
use Rattle.running.specs.Replies.{reply_to, after_line, longest_reply}

pub wrote_as : {l m text text' : List ℕ} {at end : ℕ} → text ≡ text' → Wrote l at text m end → Wrote l at text' m end
wrote_as e w = rw e at w

-- a line that is a call
pub call_reply : {p : Option rules.Call} (m : rules.Call) (a : Answer) (t l v : List ℕ) (G : Tables) → p ≡ Some m → outcome a t l v ≡ step base m G → answer_line a ≡ reply_to p G
unfolding reply_to
call_reply m a t l v G q e = rw q (ap (λ (o : Outcome). answer_line o.answer) e)

pub call-after : {p : Option rules.Call} (m : rules.Call) (a : Answer) (t l v : List ℕ) (G : Tables) → p ≡ Some m → outcome a t l v ≡ step base m G → tables t l v ≡ after_line p G
unfolding after_line
call-after m a t l v G q e = rw q (ap (λ (o : Outcome). o.after) e)

-- a line that is none
pub bad_reply : {p : Option rules.Call} (G : Tables) → p ≡ None → bad_line ≡ reply_to p G
unfolding reply_to
bad_reply G q = rw q refl

pub bad-after : {p : Option rules.Call} (G : Tables) → p ≡ None → G ≡ after_line p G
unfolding after_line
bad-after G q = rw q refl

pub reply_most : (p : Option rules.Call) (G : Tables) → length (reply_to p G) ≤ longest_reply
unfolding reply_to
reply_most (Some m) G = length-answer_line (step base m G).answer
reply_most None G = omega arith
