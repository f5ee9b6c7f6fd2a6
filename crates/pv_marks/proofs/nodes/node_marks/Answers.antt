use Rattle.std.proofs.Common.{◌≡◌, ℕ, subst, arith}
use Rattle.pv_marks.specs.Sweep.{AreMarksBelow}
use Rattle.pv_marks.proofs.Basing.{all_below}
use Rattle.pv_marks.proofs.nodes.node_marks.Goals as goal

pub loop-d-preserved : goal.loop-d-preserved
loop-d-preserved c = c.in_ok-mark_depth.ensures.marks c.args.assumed.now c.loop-d.invariant

pub returns : goal.returns
returns c =
    let e : c.loop-d.d ≡ 17 = omega (arith, c.loop-d-test.false, c.loop-d.auto.d-end) in
    all_below c.args.graph.now c.args.assumed.now c.loop-d.marks.items c.requires (subst (λ (d : ℕ). AreMarksBelow c.args.graph.now c.args.assumed.now d c.loop-d.marks.items) e c.loop-d.invariant)
