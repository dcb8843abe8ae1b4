-- The trials of what is counted of reads pass.
use mathlib.Core.List.{List}
use mathlib.Core.Logic.{inl, inr}
use mathlib.Core.Path.{sym, subst}
use native.Mathlib.Omega.{arith}
use lib.Dec.{T}
use Rattle.names.specs.declared.Sizes.{Sizes}
use Rattle.names.specs.Sizes.{base, sixteen, Both}
use Rattle.rules.specs.Tables.{Tables}
use Rattle.rules.specs.Tested.{good}
use Rattle.rules.proofs.Equal.{good→Good}
use Rattle.plays.specs.Plays.{Line, passes, any_end}
use Rattle.plays.proofs.Computed.{played, played_passes, PlayedFresh, PassesFresh, OneOfBoth, fresh-passes, computed}
use Rattle.plays.proofs.Tested.{tested}
use Rattle.starred_weighed.specs.Weighed.{trial_a_b, read_so_far, below_limit, trial_a_c, trial_a_d, at_limit, trial_a_e, beyond_limit, trial_a_f}

play-AB : Both (PlayedFresh (λ S. trial_a_b) (λ S. any_end))
unfolding computed trial_a_b
play-AB = (tt, tt)

pub pass-AB : (S : Sizes) → OneOfBoth S → PassesFresh (λ S. trial_a_b) (λ S. any_end) S
pass-AB = fresh-passes (λ S. trial_a_b) (λ S. any_end) play-AB

-- ---- from tables that are good, and not fresh
passes-from :
    (from : Sizes → Tables) (ls : List Line) → Both (λ S. T (good S (from S))) → Both (λ S. T (played S ls any_end (from S)))
    → (S : Sizes) → OneOfBoth S → T (passes S ls any_end (from S))
passes-from from ls g h S (inl e) =
    subst (λ (S : Sizes). T (passes S ls any_end (from S))) (sym e) (played_passes base (omega arith) ls any_end (from base) (good→Good base (from base) g.0) h.0)
passes-from from ls g h S (inr e) =
    subst (λ (S : Sizes). T (passes S ls any_end (from S))) (sym e) (played_passes sixteen (omega arith) ls any_end (from sixteen) (good→Good sixteen (from sixteen) g.1) h.1)

below_good : Both (λ S. T (good S (below_limit S)))
unfolding tested below_limit read_so_far
below_good = (tt, tt)

at_good : Both (λ S. T (good S (at_limit S)))
unfolding tested at_limit read_so_far
at_good = (tt, tt)

play-AC : Both (λ S. T (played S trial_a_c any_end (below_limit S)))
unfolding computed trial_a_c below_limit read_so_far
play-AC = (tt, tt)

pub pass-AC : (S : Sizes) → OneOfBoth S → T (passes S trial_a_c any_end (below_limit S))
pass-AC = passes-from below_limit trial_a_c below_good play-AC

play-AD : Both (λ S. T (played S trial_a_d any_end (below_limit S)))
unfolding computed trial_a_d below_limit read_so_far
play-AD = (tt, tt)

pub pass-AD : (S : Sizes) → OneOfBoth S → T (passes S trial_a_d any_end (below_limit S))
pass-AD = passes-from below_limit trial_a_d below_good play-AD

play-AE : Both (λ S. T (played S trial_a_e any_end (at_limit S)))
unfolding computed trial_a_e at_limit read_so_far
play-AE = (tt, tt)

pub pass-AE : (S : Sizes) → OneOfBoth S → T (passes S trial_a_e any_end (at_limit S))
pass-AE = passes-from at_limit trial_a_e at_good play-AE

-- these tables are not good, and the test says so
tested-AF : Both (λ S. T (passes S trial_a_f any_end (beyond_limit S)))
unfolding tested trial_a_f beyond_limit read_so_far
tested-AF = (tt, tt)

pub pass-AF : (S : Sizes) → OneOfBoth S → T (passes S trial_a_f any_end (beyond_limit S))
pass-AF S (inl e) = subst (λ (S : Sizes). T (passes S trial_a_f any_end (beyond_limit S))) (sym e) tested-AF.0
pass-AF S (inr e) = subst (λ (S : Sizes). T (passes S trial_a_f any_end (beyond_limit S))) (sym e) tested-AF.1
