-- A piece of the calls and of the answers, from the tables that the pieces before it left.
use Prim.Native.Nat.{ℕ, ◌-◌}
use mathlib.Core.Path.{refl, ap}
use Rattle.judging.proofs.Seeing.{next}
use Rattle.judging.proofs.lockstep.Judging.records.Goals as goal

pub returns : goal.returns
returns c =
    let a = c.args in
    record {
      result_value = ap (λ (k : ℕ). a.self.left - k) c.next_piece.ensures;
      by_index = λ file h pc pr.
          next file a.self h a.calls.now a.answers.now _ refl (ap (λ (k : ℕ). a.self.left - k) c.next_piece.ensures) c.requires.0 c.requires.1 c.piece-judge.ensures pc pr;
    }
