use Rattle.pv_machine.proofs.Moving.{on_err}
use Rattle.pv_machine.proofs.Performing.{shift_full}
use Rattle.pv_machine.proofs.actions.shift.Goals as goal

pub returns-in_err-moved-clause-full : goal.returns-in_err-moved-clause-full
returns-in_err-moved-clause-full c = λ p w.
    let i = c.s.inside in
    on_err c.from_residual.result (shift_full p w c.args.s.now c.args.step i.at i.stack.nums i.locals.items i.heap i.heap0 i.stack.room i.max_stack c.s.view_is c.in_err-moved.ensures.full)
