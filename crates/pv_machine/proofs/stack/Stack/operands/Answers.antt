use Rattle.std.proofs.Common.{ap, ◌∙◌, arith}
use Rattle.pv_machine.proofs.Words.{StackInMemory}
use Rattle.pv_machine.proofs.OnStack.{no_operands, some_operands, operands_within}
use Rattle.pv_machine.proofs.stack.Stack.operands.Goals as goal

pub returns-then-not-lie_on-clause-found : goal.returns-then-not-lie_on-clause-found
returns-then-not-lie_on-clause-found c =
    let view = ap (λ (v : StackInMemory). v.nums) c.self.view_is in
    no_operands c.args.sorts.now c.self.inside.items.items _ _ _ view c.deref.ensures.value c.lie_on.ensures c.if-not-lie_on.true

pub overflow_sub-result : goal.overflow_sub-result
overflow_sub-result c =
    let within = operands_within c.args.sorts.now c.self.inside.items.items _ _ c.deref.ensures.value c.lie_on.ensures c.if-not-lie_on.false in
    let long = c.len.ensures ∙ c.self.inside.items.ok.0 in
    omega (arith, within, long)

pub returns-clause-found : goal.returns-clause-found
returns-clause-found c =
    let view = ap (λ (v : StackInMemory). v.nums) c.self.view_is in
    some_operands c.args.sorts.now c.self.inside.items.items _ _ _ _ c.len.result view c.deref.ensures.value c.deref-2.ensures.value (c.len.ensures ∙ c.self.inside.items.ok.0) c.lie_on.ensures c.if-not-lie_on.false
