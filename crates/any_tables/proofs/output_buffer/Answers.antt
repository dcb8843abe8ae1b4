-- The length of so many zeros, without counting them.
use Rattle.std.proofs.Common.{ℕ, sym}
use Rattle.std.proofs.Math.ListN.{length-replicate}
use Rattle.answering.specs.Life.{room_for}
use Rattle.any_tables.proofs.output_buffer.Goals as goal

pub returns : goal.returns
returns c = sym (length-replicate {A = ℕ} (room_for 32768) 0)
