use Rattle.std.proofs.Common.{◌+◌, ◌<◌, arith}
use Rattle.pv_refute.specs.Differences.{Trial}
use Rattle.pv_refute.proofs.Runs.{all_tried, first_found, none_here, on_try}
use Rattle.pv_refute.proofs.refuting.refute.Goals as goal
use Rattle.pv_refute.proofs.refuting.refute.Goals.{else-loop-t-test, then-loop-t-test+in_ok-input+in_ok-differ+else-branch+else-t-tries}

pub returns-then-branch-clause-exact : goal.returns-then-branch-clause-exact
returns-then-branch-clause-exact c =
    let q : Trial = record { first = c.args.first.now; second = c.args.second.now; desc = c.args.desc.now; tries = c.args.tries; steps = c.args.steps } in
    let shown = on_try q c.loop-t.t c.in_ok-world.world c.in_ok-input.input c.in_ok-differ.field-0 c.in_ok-world.ensures.is c.in_ok-input.ensures.is c.in_ok-differ.ensures in
    first_found q c.loop-t.t c.in_ok-input.input c.loop-t.auto.t c.loop-t-test.true c.loop-t.invariant (shown.0 c.if-branch.true) c.in_ok-input.ensures.is

pub loop-t-preserved : goal.loop-t-preserved
loop-t-preserved c =
    let q : Trial = record { first = c.args.first.now; second = c.args.second.now; desc = c.args.desc.now; tries = c.args.tries; steps = c.args.steps } in
    let shown = on_try q c.loop-t.t c.in_ok-world.world c.in_ok-input.input c.in_ok-differ.field-0 c.in_ok-world.ensures.is c.in_ok-input.ensures.is c.in_ok-differ.ensures in
    none_here q c.loop-t.t c.loop-t.invariant (λ d. absurd (let yes = shown.1 d in let no = c.if-branch.false in cc (yes, no)))

pub returns-clause-exact : goal.returns-clause-exact
returns-clause-exact c =
    let q : Trial = record { first = c.args.first.now; second = c.args.second.now; desc = c.args.desc.now; tries = c.args.tries; steps = c.args.steps } in
    elim c.loop-t-test.branch [
      | else-loop-t-test w ↦ all_tried q c.loop-t.t w.loop-t-test.false c.loop-t.invariant
      | then-loop-t-test+in_ok-input+in_ok-differ+else-branch+else-t-tries w ↦
          let last : c.args.tries < c.loop-t.t + 1 = omega arith in
          let shown = on_try q c.loop-t.t c.in_ok-world.world w.in_ok-input.input w.in_ok-differ.field-0 c.in_ok-world.ensures.is w.in_ok-input.ensures.is w.in_ok-differ.ensures in
          all_tried q (c.loop-t.t + 1) last (none_here q c.loop-t.t c.loop-t.invariant (λ d. absurd (let yes = shown.1 d in let no = w.if-branch.false in cc (yes, no))))
    ]
