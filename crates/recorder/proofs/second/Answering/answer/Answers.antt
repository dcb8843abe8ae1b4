-- The answers of a piece, from the tables that the pieces before it left.
use Prim.Native.Nat.{ℕ, ◌-◌}
use mathlib.Core.Path.{refl, ap}
use Rattle.recorder.proofs.Pieces.{next}
use Rattle.recorder.proofs.second.Answering.answer.Goals as goal

pub returns : goal.returns
returns c =
    let a = c.args in
    let w = c.answer_piece.ensures in
    record {
      result_value = ap (λ (k : ℕ). a.self.left - k) c.next_piece.ensures;
      by_index = λ input calls put h.
          next input calls put a.self h a.piece.now a.out.now _ c.answer_piece.result _ refl (ap (λ (k : ℕ). a.self.left - k) c.next_piece.ensures) c.requires.piece_len c.requires.piece_in_bounds w.result_after w.versions_after;
    }
