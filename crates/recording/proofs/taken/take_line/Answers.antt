-- A call's record, or none.
use Rattle.recording.proofs.Taking.{call_line, bad-line}
use Rattle.recording.proofs.taken.take_line.Goals as goal

pub returns-in_default : goal.returns-in_default
returns-in_default c = bad-line c.args.out.now c.args.used c.in_default.is

pub returns : goal.returns
returns c = call_line _ _ _ c.in-Some.is c.fields_of.ensures c.put_call.ensures
