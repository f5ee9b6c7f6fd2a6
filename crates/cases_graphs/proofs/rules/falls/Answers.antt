use Rattle.std.proofs.Common.{◌⊎◌, ◌<◌}
use Rattle.cases_graphs.specs.Rules.{IsLater}
use Rattle.cases_graphs.proofs.Cycles.{each_more, each_all}
use Rattle.cases_graphs.proofs.rules.falls.Goals as goal

pub loop-place-preserved : goal.loop-place-preserved
loop-place-preserved c = each_more (λ p k. (k < c.args.n) ⊎ IsLater c.args.node.now.op p) c.as_slice-kids.result.now c.loop-place.place c.loop-place-test.true c.loop-place.invariant (c.kid_falls.ensures c.if-not-kid_falls.false)

pub returns : goal.returns
returns c says = each_all (λ p k. (k < c.args.n) ⊎ IsLater c.args.node.now.op p) c.as_slice-kids.result.now c.args.node.now.kids c.loop-place.place c.as_slice-kids.ensures c.loop-place-test.false c.loop-place.invariant
