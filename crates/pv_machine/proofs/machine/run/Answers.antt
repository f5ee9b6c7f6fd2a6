use Rattle.std.proofs.Common.{◌≡◌, ℕ, ap, sym, subst, ◌∙◌, arith}
use Rattle.pv_machine.proofs.Words.{State, running, start, after, now_of}
use Rattle.pv_machine.proofs.Typing.{after_none}
use Rattle.pv_machine.proofs.Ending.{steps_on, ends_within}
use Rattle.pv_machine.proofs.machine.run.Goals as goal

pub loop-init : goal.loop-init
loop-init c = after_none c.args.p.now c.args.world.now (start c.args.p.now c.args.input.now) ∙ ap (λ (s : State). running s) (sym c.in_ok-s.ensures.state)

pub loop-preserved : goal.loop-preserved
loop-preserved c =
    let leads = sym c.in_ok-outcome.ensures.step ∙ ap (now_of c.step.new.s.state) c.in_default.is in
    steps_on c.args.p.now c.args.world.now _ c.loop.s.state c.loop.counter _ c.loop.invariant leads

pub returns-in-Some : goal.returns-in-Some
returns-in-Some c =
    let leads = sym c.in_ok-outcome.ensures.step ∙ ap (now_of c.step.new.s.state) c.in-Some.is in
    ends_within c.args.p.now c.args.world.now _ c.loop.s.state c.loop.counter c.args.n c.in-Some.outcome c.loop-test.true c.loop.invariant leads

pub returns : goal.returns
returns c =
    let all : c.loop.counter ≡ c.args.n = omega (arith, c.loop.auto.counter-end) in
    (c.loop.s.state, subst (λ (n : ℕ). after c.args.p.now c.args.world.now (start c.args.p.now c.args.input.now) n ≡ running c.loop.s.state) all c.loop.invariant)
