use Rattle.std.proofs.Common.{Bool, List, subst}
use Rattle.pv_touched.specs.Far.{Spreads}
use Rattle.pv_touched.proofs.Clear.{far_more}
use Rattle.pv_touched.proofs.near.near.Goals as goal

pub loop-preserved : goal.loop-preserved
loop-preserved c =
    let g = c.args.graph.now in
    let s = c.args.since.now in
    record {
      long = c.in_ok-near-2.ensures.long;
      far = far_more g s c.loop.counter c.loop.near.items c.in_ok-near-2.near.items (subst (λ (near : List Bool). Spreads g s.numbers.now near c.in_ok-near-2.near.items) c.deref.ensures.value c.in_ok-near-2.ensures.spreads) c.loop.invariant.far;
    }
