-- The calls of a chunk, and how many there are with them.
use Prim.Native.Nat.{ℕ}
use mathlib.Core.Path.{sym, ap, subst₂, ◌∙◌}
use mathlib.Core.List.{List, ◌++◌}
use native.Mathlib.Omega.{arith}
use lib.ListN.{length}
use Rattle.lines.specs.Lines.{Held, held_by}
use Rattle.script.specs.Inputs.{reads}
use Rattle.journal.specs.Format.{call_records}
use Rattle.recording.specs.Records.{script_calls, count_with}
use Rattle.recorder.specs.First.{Taken, more}
use Rattle.recorder.proofs.Input.{put_front, count-more, chunk_room}
use Rattle.recorder.proofs.first.Taking.chunk.Goals as goal

pub returns : goal.returns
returns c =
    let a = c.args in
    let e = c.take_chunk-taken.ensures in
    let h : Held = held_by a.self.lines in
    let chunk : List ℕ = a.chunk.now in
    let f = put_front a.out.now (call_records (script_calls (reads h chunk))) (omega (arith, chunk_room h chunk, c.requires)) e.used_after in
    record {
      used_in_bounds = e.used_in_bounds;
      by_index = λ input put k.
          record {
            taken =
                subst₂ (λ (p : List ℕ) (g : Held). Taken (input ++ chunk) (put ++ p) g) (sym f.0) (sym e.lines_value) (more k.taken chunk);
            count =
                c.count_with.ensures
                ∙ ap (λ (n : ℕ). count_with n c.take_chunk-taken.result.used) k.count
                ∙ count-more put (script_calls (reads h chunk)) c.take_chunk-taken.result.used f.1
                ∙ ap (λ (p : List ℕ). count_with 0 (length (put ++ p))) (sym f.0);
          };
    }
