use Rattle.std.proofs.Common.{List, ap, subst, take, ◌-◌, ◌∙◌}
use Rattle.pv_machine.proofs.Words.{sort_of, Num, StackInMemory, taken_by, IsTaken}
use Rattle.pv_machine.proofs.OnStack.{cut_is}
use Rattle.pv_machine.proofs.stack.Stack.taken.Goals as goal

pub returns : goal.returns
returns c =
    let view = ap (λ (v : StackInMemory). v.nums) c.self.view_is in
    let below = cut_is c.self.inside.items.items _ c.args.self.now.nums c.len.result c.args.above view (c.len.ensures ∙ c.self.inside.items.ok.0) c.requires (ap (take (c.len.result - c.args.above)) c.deref.ensures.value) in
    subst (λ (stack : List Num). IsTaken (taken_by sort_of c.args.part stack) stack c.taken.result) below c.taken.ensures
