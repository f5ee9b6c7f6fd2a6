use Rattle.std.proofs.Common.{ap, ◌∙◌}
use Rattle.pv_machine.proofs.Words.{StackInMemory}
use Rattle.pv_machine.proofs.OnStack.{cut_is}
use Rattle.pv_machine.proofs.stack.Stack.discard.Goals as goal

pub returns-clause-nums : goal.returns-clause-nums
returns-clause-nums c =
    let view = ap (λ (v : StackInMemory). v.nums) c.self.view_is in
    cut_is c.self.inside.items.items _ _ c.len.result c.args.taken view (c.len.ensures ∙ c.self.inside.items.ok.0) c.requires c.truncate.ensures.items
