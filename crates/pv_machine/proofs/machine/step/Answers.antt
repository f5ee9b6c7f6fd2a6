use Rattle.std.proofs.Common.{ap}
use Rattle.pv_machine.proofs.Words.{StateInMemory}
use Rattle.pv_machine.proofs.Ready.{found_at, no_step, ready}
use Rattle.pv_machine.proofs.machine.step.Goals as goal

pub returns-in-Some-clause-ready : goal.returns-in-Some-clause-ready
returns-in-Some-clause-ready c =
    let p = c.args.p.now in
    let s = c.args.s.now in
    let here = ap (λ (x : StateInMemory). x.state.at) c.s.view_is in
    let look = c.in-Some.ensures.lookup.3 in
    let at = found_at p c.p.inside.program s.state c.s.inside.at c.as_slice.result.now c.in-Some.action.now c.p.view_is here c.as_slice.ensures look.0 look.1 in
    ready p c.p.inside.program c.args.world.now s c.in-Some.action.now c.perform.result c.p.view_is at c.perform.ensures.full

pub returns-in-None-clause-step : goal.returns-in-None-clause-step
returns-in-None-clause-step c =
    let here = ap (λ (x : StateInMemory). x.state.at) c.s.view_is in
    no_step c.args.p.now c.p.inside.program c.args.world.now c.args.s.now.state c.s.inside.at c.as_slice.result.now c.p.view_is here c.as_slice.ensures c.in-None.ensures.lookup.3
