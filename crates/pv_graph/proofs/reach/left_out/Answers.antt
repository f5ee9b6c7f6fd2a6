use Rattle.std.proofs.Common.{◌+◌, Bool, List, take, sym, ap, subst, Vec}
use Rattle.std.specs.declared.alloc.Global.{Global}
use Rattle.pv_graph.specs.Reach.{AreOut}
use Rattle.pv_graph.proofs.Marking.{out_more, out_same}
use Rattle.pv_graph.proofs.reach.left_out.Goals as goal
use Rattle.pv_graph.proofs.reach.left_out.Goals.{then-n-len, else-n-len}

pub loop-n-preserved : goal.loop-n-preserved
loop-n-preserved c =
    elim c.if-n-len.branch [
      | then-n-len w ↦
          subst (λ (out : List Bool). AreOut c.args.len (take (c.loop-n.n-index + 1) c.args.assumed.now) out) (sym (ap (λ (v : Vec Bool Global). v.items) w.out-is))
          (out_more c.args.len c.loop-n.n-index c.args.assumed.now c.loop-n-test.true c.loop-n.out.items c.loop-n.invariant w.if-n-len.true)
      | else-n-len w ↦
          subst (λ (out : List Bool). AreOut c.args.len (take (c.loop-n.n-index + 1) c.args.assumed.now) out) (sym (ap (λ (v : Vec Bool Global). v.items) w.out-is))
          (out_same c.args.len c.loop-n.n-index c.args.assumed.now c.loop-n-test.true c.loop-n.out.items c.loop-n.invariant w.if-n-len.false)
    ]
