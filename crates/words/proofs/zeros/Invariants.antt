-- Words are zero where the or of them is.
use Prim.Native.Nat.{ℕ, ◌+◌}
use mathlib.Core.Path.{◌≡◌}
use lib.ListN.{get_or}
use lib.Dec.{eqb}
use Rattle.rules.specs.Words.{every_below}
use Rattle.words.proofs.zeros.Given as goal

abbrev pub invariant-loop-k : goal.invariant-loop-k
invariant-loop-k l = eqb l.acc 0 ≡ every_below l.k (λ (j : ℕ). eqb (get_or l.words (l.from + j) 0) 0)
