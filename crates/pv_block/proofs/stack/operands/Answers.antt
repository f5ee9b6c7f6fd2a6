use Rattle.std.proofs.Common.{ap, ◌∙◌, Some}
use Rattle.pv_block.proofs.Steps.{operands_are}
use Rattle.pv_block.proofs.stack.operands.Goals as goal

pub reversed-requires : goal.reversed-requires
reversed-requires c = (operands_are c.args.sorts.now c.args.stack.now c.in-Some.rest.now c.in-Some.ensures).0

pub returns : goal.returns
returns c = ap (λ l. Some (l, c.in-Some.rest.now)) c.in_ok-found.ensures ∙ (operands_are c.args.sorts.now c.args.stack.now c.in-Some.rest.now c.in-Some.ensures).1
