use Rattle.std.proofs.Common.{arith}
use Rattle.pv_machine.proofs.stack.Stack.len.Goals as goal

pub returns-clause-small : goal.returns-clause-small
returns-clause-small c = omega (arith, c.self.inside.items.ok.1, c.self.inside.items.small)
