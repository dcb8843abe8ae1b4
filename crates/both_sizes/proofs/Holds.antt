-- The facts hold of all sizes that are enough, so of those of today and of those of before request E5; and so do the trials.
use native.Mathlib.Omega.{arith}
use Rattle.names.specs.declared.Sizes.{Sizes}
use Rattle.names.specs.Sizes.{base, sixteen, Both}
use Rattle.rules.specs.Tables.{lock, holds_shared}
use Rattle.rules.proofs.Bits.{below_bits}
use Rattle.rules.proofs.Fresh.{fresh-good}
use Rattle.rules.proofs.Keeps.{keeps}
use Rattle.rules.proofs.Answered.{code_exactly}
use Rattle.rules.proofs.Outcomes.{granted-changes}
use Rattle.rules.proofs.Queries.{version_read, ended_trims, committed_trims, settled_trims_lem}
use Rattle.history.proofs.Demand.{demand_3_sizes, reads_sizes, beside_sizes, relaxed_sizes, weighed_sizes}
use Rattle.line.proofs.Served.{served_in_runs}
use Rattle.plays.specs.Plays.{AllPass}
use Rattle.starred.specs.Trials.{trials}
use Rattle.starred.proofs.Pass.{all_trials}
use Rattle.both_sizes.specs.Facts.{Enough, HoldersFit, Facts}

holders_fit : (S : Sizes) → HoldersFit S
unfolding holds_shared
holders_fit S G x g i = below_bits S.slots (lock G.locks x).shared (λ b u. ((g.lock_good x i).sharers b u).0)

pub facts : (S : Sizes) → Enough S → Facts S
facts S e =
    record {
      fresh_good = fresh-good S e.room;
      stays_good = keeps S e.places;
      codes = code_exactly S;
      changes = granted-changes S e.places;
      holders = holders_fit S;
      looked = version_read S;
      end_trims = ended_trims S e.places;
      commit_trims = committed_trims S e.places;
      settled_trims = settled_trims_lem S e.places;
      serial = (demand_3_sizes S e.places e.room).0;
      undisturbed = (demand_3_sizes S e.places e.room).1;
      as_begun = reads_sizes S e.places e.room;
      beside = (beside_sizes S e.places e.room).0;
      ended = (beside_sizes S e.places e.room).1;
      relaxed = (relaxed_sizes S e.places e.room).0;
      stamps_agree = (relaxed_sizes S e.places e.room).1;
      weighed = weighed_sizes S e.places e.room;
      served = served_in_runs S e.places e.room;
    }

-- ---- 32 slots and 16
pub both_enough : Both Enough
both_enough = (record { places = omega arith; room = omega arith }, record { places = omega arith; room = omega arith })

pub both_facts : Both Facts
both_facts = (facts base both_enough.0, facts sixteen both_enough.1)

-- the starred trials are computed of each
pub both_trials : Both (λ S. AllPass S (trials S))
both_trials = all_trials
