-- The length of so many zeros, without counting them.
use Rattle.std.proofs.Common.{◌*◌, ℕ, sym}
use Rattle.std.proofs.Math.ListN.{length-replicate}
use Rattle.running.specs.Replies.{longest_reply}
use Rattle.runner.proofs.output_buffer.Goals as goal

pub returns : goal.returns
returns c = sym (length-replicate {A = ℕ} (longest_reply * 8192) 0)
