-- The trials of those past their writing, and of those who write nothing, pass.
use Rattle.names.specs.declared.Sizes.{Sizes}
use Rattle.names.specs.Sizes.{Both}
use Rattle.plays.proofs.Computed.{PlayedFresh, PassesFresh, OneOfBoth, fresh-passes, computed}
use Rattle.starred_settled.specs.Settled.{clock_and_row, end_x_y, end_a_a, trial_x, trial_y, trial_a_a}

play-X : Both (PlayedFresh (λ S. trial_x) end_x_y)
unfolding computed trial_x end_x_y clock_and_row
play-X = (tt, tt)

pub pass-X : (S : Sizes) → OneOfBoth S → PassesFresh (λ S. trial_x) end_x_y S
pass-X = fresh-passes (λ S. trial_x) end_x_y play-X

play-Y : Both (PlayedFresh (λ S. trial_y) end_x_y)
unfolding computed trial_y end_x_y clock_and_row
play-Y = (tt, tt)

pub pass-Y : (S : Sizes) → OneOfBoth S → PassesFresh (λ S. trial_y) end_x_y S
pass-Y = fresh-passes (λ S. trial_y) end_x_y play-Y

play-AA : Both (PlayedFresh (λ S. trial_a_a) end_a_a)
unfolding computed trial_a_a end_a_a clock_and_row
play-AA = (tt, tt)

pub pass-AA : (S : Sizes) → OneOfBoth S → PassesFresh (λ S. trial_a_a) end_a_a S
pass-AA = fresh-passes (λ S. trial_a_a) end_a_a play-AA
