-- Demand 3, whole, and what stands beside it: of all sizes with a place for every slot, and of the appliance's.
use Prim.Native.Nat.{◌≤◌}
use mathlib.Core.List.{List}
use native.Mathlib.Omega.{arith}
use Rattle.names.specs.declared.Sizes.{Sizes}
use Rattle.names.specs.Sizes.{base}
use Rattle.rules.specs.Answers.{Call}
use Rattle.history.specs.Serial.{Serializes}
use Rattle.history.specs.Undisturbed.{ReadsAsBegun, Undisturbed}
use Rattle.history.specs.Ended.{EndedForEver}
use Rattle.history.specs.Weighed.{EndWeighs}
use Rattle.history.specs.Relaxed.{RelaxedSerial, StampsAgree}
use Rattle.history.specs.Beside.{Beside}
use Rattle.history.proofs.Theorem.{serializes}
use Rattle.history.proofs.Query.{reads_as_begun, undisturbed}
use Rattle.history.proofs.Happens.{run-good}
use Rattle.history.proofs.Ended.{run_never_bad, ended_for_ever}
use Rattle.history.proofs.Numbers.{upward}
use Rattle.history.proofs.Weighed.{end_weighs}
use Rattle.history.proofs.RelaxedDemand.{relaxed-serial}
use Rattle.history.proofs.RelaxedStampRun.{stamps_agree_lem}

-- ---- of all sizes
module _ (S : Sizes) (enough : S.slots ≤ S.places) (room : 1 ≤ S.places) where
  pub demand_3_sizes : ((cs : List Call) → Serializes S cs) × Undisturbed S
  demand_3_sizes = (serializes S enough room, undisturbed S enough room)

  pub reads_sizes : ReadsAsBegun S
  reads_sizes = reads_as_begun S enough room

  pub beside_sizes : ((cs : List Call) → Beside S cs) × EndedForEver S
  beside_sizes = (
    λ cs.
        record {
          stay_good = run-good S enough room cs;
          never_bad = run_never_bad S enough room cs;
          rising = upward S enough room cs;
        },
    ended_for_ever S enough room,
  )

  pub weighed_sizes : EndWeighs S
  weighed_sizes = end_weighs S enough room

  pub relaxed_sizes : RelaxedSerial S × StampsAgree S
  relaxed_sizes = (relaxed-serial S enough room, stamps_agree_lem S enough room)

-- ---- of the appliance's
pub demand_3 : ((cs : List Call) → Serializes base cs) × Undisturbed base
demand_3 = demand_3_sizes base (omega arith) (omega arith)

-- demand 2: "a query reads the newest version committed when it began", since request E6 "the newest version stamped up to its start"
pub demand_2_query : ReadsAsBegun base
demand_2_query = reads_sizes base (omega arith) (omega arith)

pub demand_3_beside : ((cs : List Call) → Beside base cs) × EndedForEver base
demand_3_beside = beside_sizes base (omega arith) (omega arith)

-- request E8: "A query's commit or abort answers the sum as value and the count as looked"
pub weighed : EndWeighs base
weighed = weighed_sizes base (omega arith) (omega arith)

-- request E11: "For these queries demand 3 reads: .."
pub relaxed : RelaxedSerial base × StampsAgree base
relaxed = relaxed_sizes base (omega arith) (omega arith)
