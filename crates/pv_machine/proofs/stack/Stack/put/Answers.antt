use Rattle.std.proofs.Common.{◌≡◌, ◌+◌, ◌-◌, length, ap, ◌∙◌, arith}
use Rattle.pv_machine.proofs.Words.{length-reverse, StackInMemory}
use Rattle.pv_machine.proofs.OnStack.{put_is}
use Rattle.pv_machine.proofs.stack.Stack.put.Goals as goal

pub returns-clause-ok : goal.returns-clause-ok
returns-clause-ok c =
    let view = ap (λ (v : StackInMemory). v.nums) c.self.view_is in
    let view-2 = ap (λ (v : StackInMemory). v.nums) c.self-2.view_is ∙ c.reserve.ensures.nums in
    let long = c.len.ensures ∙ c.self.inside.items.ok.0 in
    let same = length-reverse c.self.inside.items.items in
    let all = ap length view in
    let within = c.requires in
    let below : (c.len.result - c.args.taken) + c.args.taken ≡ length c.args.self.now.nums = omega (arith, long, same, all, within) in
    put_is c.self-2.inside.items.items _ _ _ c.args.n _ c.args.taken view-2 below c.truncate.ensures.items c.push_reserved.ensures.items
