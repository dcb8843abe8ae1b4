-- The count is the input's.
use Prim.Native.Nat.{ℕ}
use mathlib.Core.Path.{subst}
use Rattle.numerals.specs.Print.{followed}
use Rattle.texts.specs.Written.{Wrote}
use Rattle.recorder.proofs.second.Answering.line.Goals as goal

pub returns : goal.returns
returns c =
    let l = c.count_line in
    record { upper_bound = l.ensures.upper_bound; by_index = λ input calls put h. subst (λ (n : ℕ). Wrote c.args.out.now 0 (followed n 10) l.new.out l.result) h.count l.ensures.wrote }
