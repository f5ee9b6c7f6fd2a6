use Rattle.pv_machine.proofs.Performing.{act_full}
use Rattle.pv_machine.proofs.actions.act.Goals as goal

pub returns-in-Some-plain-clause-full : goal.returns-in-Some-plain-clause-full
returns-in-Some-plain-clause-full c =
    let i = c.s.inside in
    act_full c.apply.result c.args.p.now c.args.world.now c.args.s.now c.args.action.now i.at i.stack.nums c.in-Some.operands.now i.locals.items c.deref.result.now i.heap i.heap0 i.stack.room i.max_stack c.asked_sorts.result.now c.in-Some-plain.effect
    c.s.view_is c.deref.ensures.value c.asked_sorts.ensures c.requires.plain c.in-Some.ensures.found c.in-Some-plain.ensures.acts c.in-Some-plain.ensures.keeps c.apply.ensures.full
