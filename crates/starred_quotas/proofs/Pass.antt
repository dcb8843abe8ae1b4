-- The trials with 32 and 33 items pass.
use Rattle.names.specs.declared.Sizes.{Sizes}
use Rattle.names.specs.Sizes.{Both}
use Rattle.plays.specs.Plays.{any_end}
use Rattle.plays.proofs.Computed.{PlayedFresh, PassesFresh, OneOfBoth, fresh-passes, computed}
use Rattle.starred_quotas.specs.Quotas.{writes, trial_q, trial_r}

play-Q : Both (PlayedFresh trial_q (λ S. any_end))
unfolding computed writes trial_q
play-Q = (tt, tt)

pub pass-Q : (S : Sizes) → OneOfBoth S → PassesFresh trial_q (λ S. any_end) S
pass-Q = fresh-passes trial_q (λ S. any_end) play-Q

play-R : Both (PlayedFresh trial_r (λ S. any_end))
unfolding computed writes trial_r
play-R = (tt, tt)

pub pass-R : (S : Sizes) → OneOfBoth S → PassesFresh trial_r (λ S. any_end) S
pass-R = fresh-passes trial_r (λ S. any_end) play-R
