-- The trials of those who wait in line pass.
use Rattle.names.specs.declared.Sizes.{Sizes}
use Rattle.names.specs.Sizes.{Both}
use Rattle.plays.proofs.Computed.{PlayedFresh, PassesFresh, OneOfBoth, fresh-passes, computed}
use Rattle.starred_waiters.specs.Waiters.{stands, nobody_stands, second_stands, trial_s, trial_t, exchanger_ahead, trial_u, closed_up_line, trial_v}

play-S : Both (PlayedFresh (λ S. trial_s) (λ S. nobody_stands))
unfolding computed trial_s stands nobody_stands
play-S = (tt, tt)

pub pass-S : (S : Sizes) → OneOfBoth S → PassesFresh (λ S. trial_s) (λ S. nobody_stands) S
pass-S = fresh-passes (λ S. trial_s) (λ S. nobody_stands) play-S

play-T : Both (PlayedFresh (λ S. trial_t) (λ S. exchanger_ahead))
unfolding computed trial_t stands exchanger_ahead
play-T = (tt, tt)

pub pass-T : (S : Sizes) → OneOfBoth S → PassesFresh (λ S. trial_t) (λ S. exchanger_ahead) S
pass-T = fresh-passes (λ S. trial_t) (λ S. exchanger_ahead) play-T

play-U : Both (PlayedFresh (λ S. trial_u) (λ S. closed_up_line))
unfolding computed trial_u stands closed_up_line
play-U = (tt, tt)

pub pass-U : (S : Sizes) → OneOfBoth S → PassesFresh (λ S. trial_u) (λ S. closed_up_line) S
pass-U = fresh-passes (λ S. trial_u) (λ S. closed_up_line) play-U

play-V : Both (PlayedFresh (λ S. trial_v) (λ S. second_stands))
unfolding computed trial_v stands second_stands
play-V = (tt, tt)

pub pass-V : (S : Sizes) → OneOfBoth S → PassesFresh (λ S. trial_v) (λ S. second_stands) S
pass-V = fresh-passes (λ S. trial_v) (λ S. second_stands) play-V
