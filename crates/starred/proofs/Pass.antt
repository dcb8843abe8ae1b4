-- The starred trials pass, with 32 slots and with 16.
use mathlib.Core.Logic.{inl, inr}
use mathlib.Core.Path.{refl, sym, subst}
use native.Mathlib.Omega.{arith}
use lib.Dec.{T}
use Rattle.names.specs.declared.Sizes.{Sizes}
use Rattle.names.specs.Sizes.{base, sixteen, Both}
use Rattle.rules.specs.Tested.{good}
use Rattle.rules.proofs.Equal.{good→Good}
use Rattle.plays.specs.Plays.{passes, any_end, AllPass, none, also}
use Rattle.plays.proofs.Computed.{played, played_passes, PlayedFresh, PassesFresh, OneOfBoth, fresh-passes, computed}
use Rattle.plays.proofs.Tested.{tested}
use Rattle.starred_row.proofs.Pass.{pass-I}
use Rattle.starred_quotas.proofs.Pass.{pass-Q, pass-R}
use Rattle.starred_waiters.specs.Waiters.{stands, nobody_stands, second_stands}
use Rattle.starred_waiters.proofs.Pass.{pass-S, pass-T, pass-U, pass-V}
use Rattle.starred_settled.proofs.Pass.{pass-X, pass-Y, pass-AA}
use Rattle.starred_weighed.proofs.Pass.{pass-AB, pass-AC, pass-AD, pass-AE, pass-AF}
use Rattle.starred_relaxed.proofs.Pass.{pass-AG, pass-AH, pass-AI, pass-AJ, pass-AK}
use Rattle.starred.specs.Trials.{trial_a, trial_b, trial_c, trial_d, trial_e, trial_f, begins, trial_g, trial_h, trial_j, clock_spent, trial_k, trial_l, uncounted, trials}

play-A : Both (PlayedFresh (λ S. trial_a) (λ S. any_end))
unfolding computed trial_a
play-A = (tt, tt)

pass-A : (S : Sizes) → OneOfBoth S → PassesFresh (λ S. trial_a) (λ S. any_end) S
pass-A = fresh-passes (λ S. trial_a) (λ S. any_end) play-A

play-B : Both (PlayedFresh (λ S. trial_b) (λ S. any_end))
unfolding computed trial_b
play-B = (tt, tt)

pass-B : (S : Sizes) → OneOfBoth S → PassesFresh (λ S. trial_b) (λ S. any_end) S
pass-B = fresh-passes (λ S. trial_b) (λ S. any_end) play-B

play-C : Both (PlayedFresh (λ S. trial_c) (λ S. nobody_stands))
unfolding computed trial_c stands nobody_stands
play-C = (tt, tt)

pass-C : (S : Sizes) → OneOfBoth S → PassesFresh (λ S. trial_c) (λ S. nobody_stands) S
pass-C = fresh-passes (λ S. trial_c) (λ S. nobody_stands) play-C

play-D : Both (PlayedFresh (λ S. trial_d) (λ S. any_end))
unfolding computed trial_d
play-D = (tt, tt)

pass-D : (S : Sizes) → OneOfBoth S → PassesFresh (λ S. trial_d) (λ S. any_end) S
pass-D = fresh-passes (λ S. trial_d) (λ S. any_end) play-D

play-E : Both (PlayedFresh (λ S. trial_e) (λ S. nobody_stands))
unfolding computed trial_e stands nobody_stands
play-E = (tt, tt)

pass-E : (S : Sizes) → OneOfBoth S → PassesFresh (λ S. trial_e) (λ S. nobody_stands) S
pass-E = fresh-passes (λ S. trial_e) (λ S. nobody_stands) play-E

play-F : Both (PlayedFresh (λ S. trial_f) (λ S. second_stands))
unfolding computed trial_f stands second_stands
play-F = (tt, tt)

pass-F : (S : Sizes) → OneOfBoth S → PassesFresh (λ S. trial_f) (λ S. second_stands) S
pass-F = fresh-passes (λ S. trial_f) (λ S. second_stands) play-F

play-G : Both (PlayedFresh trial_g (λ S. any_end))
unfolding computed begins trial_g
play-G = (tt, tt)

pass-G : (S : Sizes) → OneOfBoth S → PassesFresh trial_g (λ S. any_end) S
pass-G = fresh-passes trial_g (λ S. any_end) play-G

play-H : Both (PlayedFresh (λ S. trial_h) (λ S. any_end))
unfolding computed trial_h
play-H = (tt, tt)

pass-H : (S : Sizes) → OneOfBoth S → PassesFresh (λ S. trial_h) (λ S. any_end) S
pass-H = fresh-passes (λ S. trial_h) (λ S. any_end) play-H

play-K : Both (PlayedFresh (λ S. trial_k) (λ S. any_end))
unfolding computed trial_k
play-K = (tt, tt)

pass-K : (S : Sizes) → OneOfBoth S → PassesFresh (λ S. trial_k) (λ S. any_end) S
pass-K = fresh-passes (λ S. trial_k) (λ S. any_end) play-K

-- a clock that is spent stands in good tables too
spent_good : Both (λ S. T (good S (clock_spent S)))
unfolding tested clock_spent
spent_good = (tt, tt)

play-J : Both (λ S. T (played S trial_j any_end (clock_spent S)))
unfolding computed trial_j clock_spent
play-J = (tt, tt)

pass-J : (S : Sizes) → OneOfBoth S → T (passes S trial_j any_end (clock_spent S))
pass-J S (inl e) =
    subst (λ (S : Sizes). T (passes S trial_j any_end (clock_spent S))) (sym e)
    (played_passes base (omega arith) trial_j any_end (clock_spent base) (good→Good base (clock_spent base) spent_good.0) play-J.0)
pass-J S (inr e) =
    subst (λ (S : Sizes). T (passes S trial_j any_end (clock_spent S))) (sym e)
    (played_passes sixteen (omega arith) trial_j any_end (clock_spent sixteen) (good→Good sixteen (clock_spent sixteen) spent_good.1) play-J.1)

-- these tables are not good, and the test says so
tested-L : Both (λ S. T (passes S trial_l any_end (uncounted S)))
unfolding tested trial_l uncounted
tested-L = (tt, tt)

pass-L : (S : Sizes) → OneOfBoth S → T (passes S trial_l any_end (uncounted S))
pass-L S (inl e) = subst (λ (S : Sizes). T (passes S trial_l any_end (uncounted S))) (sym e) tested-L.0
pass-L S (inr e) = subst (λ (S : Sizes). T (passes S trial_l any_end (uncounted S))) (sym e) tested-L.1

all_pass : (S : Sizes) → OneOfBoth S → AllPass S (trials S)
unfolding trials
all_pass S k =
    also (pass-A S k)
    (also (pass-B S k)
    (also (pass-C S k)
    (also (pass-D S k)
    (also (pass-E S k)
    (also (pass-F S k)
    (also (pass-G S k)
    (also (pass-H S k)
    (also (pass-I S k)
    (also (pass-J S k)
    (also (pass-K S k)
    (also (pass-L S k)
    (also (pass-Q S k)
    (also (pass-R S k)
    (also (pass-S S k)
    (also (pass-T S k)
    (also (pass-U S k)
    (also (pass-V S k)
    (also (pass-X S k)
    (also (pass-Y S k)
    (also (pass-AA S k)
    (also (pass-AB S k)
    (also (pass-AC S k)
    (also (pass-AD S k)
    (also (pass-AE S k)
    (also (pass-AF S k)
    (also (pass-AG S k)
    (also (pass-AH S k)
    (also (pass-AI S k)
    (also (pass-AJ S k)
    (also (pass-AK S k)
    none))))))))))))))))))))))))))))))

pub all_trials : Both (λ S. AllPass S (trials S))
all_trials = (all_pass base (inl refl), all_pass sixteen (inr refl))
