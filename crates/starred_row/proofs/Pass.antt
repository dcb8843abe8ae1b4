-- Trial I passes, with 32 slots and with 16.
use Rattle.names.specs.declared.Sizes.{Sizes}
use Rattle.names.specs.Sizes.{Both}
use Rattle.plays.proofs.Computed.{PlayedFresh, PassesFresh, OneOfBoth, fresh-passes, computed}
use Rattle.starred_row.specs.FullRow.{turns, trial_i, full_row}

play-I : Both (PlayedFresh trial_i full_row)
unfolding computed turns trial_i full_row
play-I = (tt, tt)

pub pass-I : (S : Sizes) → OneOfBoth S → PassesFresh trial_i full_row S
pass-I = fresh-passes trial_i full_row play-I
