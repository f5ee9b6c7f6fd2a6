use Rattle.std.proofs.Common.{◌+◌, ◌<◌, List, length, take, sym, ap, subst, arith, Vec}
use Rattle.std.specs.declared.alloc.Global.{Global}
use Rattle.pv_graph.specs.declared.node.OpSort.{OpSort}
use Rattle.pv_graph.specs.Base.{Gives}
use Rattle.pv_graph.proofs.Basing.{gives_more, gives_same}
use Rattle.pv_graph.proofs.base.give.Goals as goal
use Rattle.pv_graph.proofs.base.give.Goals.{then-mark, else-mark}

pub loop-n-preserved : goal.loop-n-preserved
loop-n-preserved c =
    elim c.if-mark.branch [
      | then-mark w ↦
          let low : c.loop-n.n < length c.loop-n.sorts.items = omega (arith, c.loop-n-test.true, c.requires, c.loop-n.invariant.long, c.args.sorts.now.ok.0) in
          subst (λ (xs : List OpSort). Gives c.args.sort (take (c.loop-n.n + 1) c.args.marks.now) c.args.sorts.now.items xs) (sym (ap (λ (v : Vec OpSort Global). v.items) w.sorts-is))
          (gives_more c.args.sort c.args.marks.now c.loop-n.n c.loop-n-test.true c.args.sorts.now.items c.loop-n.sorts.items c.loop-n.invariant w.if-mark.true low)
      | else-mark w ↦
          subst (λ (xs : List OpSort). Gives c.args.sort (take (c.loop-n.n + 1) c.args.marks.now) c.args.sorts.now.items xs) (sym (ap (λ (v : Vec OpSort Global). v.items) w.sorts-is))
          (gives_same c.args.sort c.args.marks.now c.loop-n.n c.loop-n-test.true c.args.sorts.now.items c.loop-n.sorts.items c.loop-n.invariant w.if-mark.false)
    ]
