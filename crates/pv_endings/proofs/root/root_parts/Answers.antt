use Rattle.std.proofs.Common.{arith}
use Rattle.pv_endings.proofs.Roots.{none_past}
use Rattle.pv_endings.proofs.root.root_parts.Goals as goal

pub returns-then-p-len : goal.returns-then-p-len
returns-then-p-len c = none_past c.args.graph.now c.args.p (let z = c.if-p-len.true in let e = c.len.ensures.len in omega (arith, z, e))
