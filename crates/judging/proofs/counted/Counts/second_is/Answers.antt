-- Both counts are known.
use mathlib.Core.Path.{refl}
use Rattle.judging.proofs.Counting.{both}
use Rattle.judging.proofs.counted.Counts.second_is.Goals as goal

pub returns : goal.returns
returns c = record { result_value = refl; by_index = λ file h o e. both file c.args.self h o c.args.m e }
