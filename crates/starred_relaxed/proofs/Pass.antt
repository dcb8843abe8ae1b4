-- The trials of relaxed queries pass.
use Rattle.names.specs.declared.Sizes.{Sizes}
use Rattle.names.specs.Sizes.{Both}
use Rattle.plays.specs.Plays.{any_end}
use Rattle.plays.proofs.Computed.{PlayedFresh, PassesFresh, OneOfBoth, fresh-passes, computed}
use Rattle.starred_relaxed.specs.Relaxed.{trial_a_g, trial_a_h, trial_a_i, trial_a_j, trial_a_k}

play-AG : Both (PlayedFresh (λ S. trial_a_g) (λ S. any_end))
unfolding computed trial_a_g
play-AG = (tt, tt)

pub pass-AG : (S : Sizes) → OneOfBoth S → PassesFresh (λ S. trial_a_g) (λ S. any_end) S
pass-AG = fresh-passes (λ S. trial_a_g) (λ S. any_end) play-AG

play-AH : Both (PlayedFresh (λ S. trial_a_h) (λ S. any_end))
unfolding computed trial_a_h
play-AH = (tt, tt)

pub pass-AH : (S : Sizes) → OneOfBoth S → PassesFresh (λ S. trial_a_h) (λ S. any_end) S
pass-AH = fresh-passes (λ S. trial_a_h) (λ S. any_end) play-AH

play-AI : Both (PlayedFresh (λ S. trial_a_i) (λ S. any_end))
unfolding computed trial_a_i
play-AI = (tt, tt)

pub pass-AI : (S : Sizes) → OneOfBoth S → PassesFresh (λ S. trial_a_i) (λ S. any_end) S
pass-AI = fresh-passes (λ S. trial_a_i) (λ S. any_end) play-AI

play-AJ : Both (PlayedFresh (λ S. trial_a_j) (λ S. any_end))
unfolding computed trial_a_j
play-AJ = (tt, tt)

pub pass-AJ : (S : Sizes) → OneOfBoth S → PassesFresh (λ S. trial_a_j) (λ S. any_end) S
pass-AJ = fresh-passes (λ S. trial_a_j) (λ S. any_end) play-AJ

play-AK : Both (PlayedFresh (λ S. trial_a_k) (λ S. any_end))
unfolding computed trial_a_k
play-AK = (tt, tt)

pub pass-AK : (S : Sizes) → OneOfBoth S → PassesFresh (λ S. trial_a_k) (λ S. any_end) S
pass-AK = fresh-passes (λ S. trial_a_k) (λ S. any_end) play-AK
