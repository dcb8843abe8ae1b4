-- The call of the last line, and how many there are.
use Prim.Native.Nat.{ℕ}
use mathlib.Core.Path.{◌≡◌, ap, ◌∙◌}
use mathlib.Core.List.{List, ◌++◌}
use native.Mathlib.Omega.{arith}
use Rattle.lines.specs.Lines.{Held, held_by}
use Rattle.script.specs.Inputs.{last}
use Rattle.journal.specs.Format.{call_records}
use Rattle.recording.specs.Records.{script_calls, count_with}
use Rattle.recorder.specs.First.{input_calls}
use Rattle.recorder.proofs.Input.{put_front, count-more, count_all, end_taken, last-room}
use Rattle.recorder.proofs.first.Taking.end.Goals as goal

pub returns : goal.returns
returns c =
    let a = c.args in
    let e = c.take_last-used.ensures in
    let h : Held = held_by a.self.lines in
    let f = put_front a.out.now (call_records (script_calls (last h))) (omega (arith, last-room h, c.requires)) e.result_after in
    record {
      used_in_bounds = e.upper_bound;
      by_index = λ input put k.
          let all : put ++ call_records (script_calls (last h)) ≡ call_records (input_calls input) = end_taken k.taken in (
            ap (λ (p : List ℕ). put ++ p) f.0 ∙ all,
            c.new.ensures input
                (c.count_with.ensures
                ∙ ap (λ (n : ℕ). count_with n c.take_last-used.result) k.count
                ∙ count-more put (script_calls (last h)) c.take_last-used.result f.1
                ∙ count_all input (put ++ call_records (script_calls (last h))) all),
          );
    }
