use Rattle.std.proofs.Common.{ap, sym, subst, ◌∙◌}
use Rattle.pv_machine.proofs.Words.{Action, perform, IsOverfull}
use Rattle.pv_machine.proofs.Moving.{on_err}
use Rattle.pv_machine.proofs.actions.perform.Goals as goal

pub returns-in_err-shift-in-Move-clause-full : goal.returns-in_err-shift-in-Move-clause-full
returns-in_err-shift-in-Move-clause-full c = λ _.
    let p = c.args.p.now in
    let w = c.args.world.now in
    on_err c.from_residual.result (subst (λ (a : Action). IsOverfull p w c.args.s.now a) (sym c.in-Move.is) (c.in_err-shift-in-Move.ensures.full p w))

pub returns-in_ok-shift-in-Move-clause-performed : goal.returns-in_ok-shift-in-Move-clause-performed
returns-in_ok-shift-in-Move-clause-performed c =
    let p = c.args.p.now in
    let w = c.args.world.now in
    c.in_ok-shift-in-Move.ensures.performed p w ∙ ap (perform p w c.args.s.now.state) (sym c.in-Move.is)
