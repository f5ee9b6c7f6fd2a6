use Rattle.pv_machine.proofs.Performing.{reach_full}
use Rattle.pv_machine.proofs.actions.reach.Goals as goal

pub returns-in-Some-2-clause-full : goal.returns-in-Some-2-clause-full
returns-in-Some-2-clause-full c =
    let i = c.s.inside in
    reach_full c.apply.result c.args.p.now c.args.world.now c.args.s.now c.args.action.now i.at i.stack.nums c.in-Some.operands.now i.locals.items i.heap i.heap0 i.stack.room i.max_stack c.asked_sorts.result.now c.in_ok-effect.field-0 c.in-Some-2.effect
    c.s.view_is c.asked_sorts.ensures c.requires.access c.in-Some.ensures.found c.in_ok-effect.ensures.reads c.in_ok-effect.ensures.keeps c.in-Some-2.is c.apply.ensures.full
