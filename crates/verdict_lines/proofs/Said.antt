-- The line of each verdict.
use Prim.Native.Nat.{ℕ, ◌≤◌}
use mathlib.Core.Path.{◌≡◌, sym, subst}
use mathlib.Core.List.{List, [], ◌∷◌}
use native.Mathlib.Omega.{arith}
use lib.ListN.{length, length-append}
use Rattle.numerals.specs.Print.{decimal}
use Rattle.texts.specs.Written.{Wrote}
use Rattle.numerals.proofs.Decimals.{length-decimal}
use Rattle.judge.specs.declared.Verdict.{Verdict}
use Rattle.judge.specs.declared.Verdict.TheVariants.{Accepted, Short, Unequal, LeftOver, Wrong}
use Rattle.verdict_lines.specs.Lines.{longest, accepted_line, point_line, wrong_line, verdict_line}

module _ {l m : List ℕ} {at e : ℕ} {v : Verdict} where
  said : {w : Verdict} → v ≡ w → Wrote l at (verdict_line w) m e → Wrote l at (verdict_line v) m e
  said q w = subst (λ (u : Verdict). Wrote l at (verdict_line u) m e) (sym q) w

  pub said-accepted : v ≡ Accepted → Wrote l at accepted_line m e → Wrote l at (verdict_line v) m e
  unfolding verdict_line
  said-accepted q w = said q w

  pub said-short : v ≡ Short → Wrote l at (point_line 49) m e → Wrote l at (verdict_line v) m e
  unfolding verdict_line
  said-short q w = said q w

  pub said_unequal : v ≡ Unequal → Wrote l at (point_line 50) m e → Wrote l at (verdict_line v) m e
  unfolding verdict_line
  said_unequal q w = said q w

  pub said-left : v ≡ LeftOver → Wrote l at (point_line 51) m e → Wrote l at (verdict_line v) m e
  unfolding verdict_line
  said-left q w = said q w

  pub said-wrong : {k : ℕ} → v ≡ Wrong k → Wrote l at (wrong_line k) m e → Wrote l at (verdict_line v) m e
  unfolding verdict_line
  said-wrong q w = said q w

-- the longest is that of a wrong call: two bytes, a number and the line's end
pub length-verdict_line : (v : Verdict) → length (verdict_line v) ≤ longest
unfolding verdict_line
length-verdict_line Accepted = omega arith
length-verdict_line Short = omega arith
length-verdict_line Unequal = omega arith
length-verdict_line LeftOver = omega arith
length-verdict_line (Wrong k) = let n = length-decimal k in let e = length-append (decimal k) (10 ∷ []) in omega arith
