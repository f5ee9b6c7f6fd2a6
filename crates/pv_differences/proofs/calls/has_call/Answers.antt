use Rattle.pv_differences.proofs.Calling.{decoded, undecoded}
use Rattle.pv_differences.proofs.calls.has_call.Goals as goal

pub returns-in-Ok : goal.returns-in-Ok
returns-in-Ok c = decoded c.args.bytes.now c.as_slice.result.now c.some_call.result (rw c.as_slice.ensures c.in-Ok.ensures.exact) (rw c.as_slice.ensures c.in-Ok.ensures.only) c.some_call.ensures

pub returns-in_default : goal.returns-in_default
returns-in_default c = undecoded c.args.bytes.now c.in-Err.fault c.in_default.not-Memory c.in-Err.ensures.only
