use Rattle.std.proofs.Common.{arith}
use Rattle.pv_endings.proofs.Tested.{no_waits}
use Rattle.pv_endings.proofs.waiting.may_be.Goals as goal

pub returns-then-n-len : goal.returns-then-n-len
returns-then-n-len c = (λ e. absurd (cc), λ h. absurd (no_waits c.args.graph.now c.args.n (let z = c.if-n-len.true in let e = c.len.ensures.len in omega (arith, z, e)) h.0))
