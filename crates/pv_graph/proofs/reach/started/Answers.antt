use Rattle.std.proofs.Common.{◌≡◌, ◌+◌, ◌++◌, ◌∷◌, [], ℕ, take, ap, sym, ◌∙◌, subst, Vec}
use Rattle.std.specs.declared.alloc.Global.{Global}
use Rattle.pv_graph.specs.Reach.{AreStarts}
use Rattle.pv_graph.proofs.Reaching.{starts_more, starts_same}
use Rattle.pv_graph.proofs.reach.started.Goals as goal
use Rattle.pv_graph.proofs.reach.started.Goals.{then-start+in_ok-push, else-start}

pub loop-n-preserved : goal.loop-n-preserved
loop-n-preserved c =
    elim c.if-start.branch [
      | then-start+in_ok-push w ↦
          let work : c.if-start.work.items ≡ c.loop-n.work.items ++ c.loop-n.n ∷ [] = ap (λ (v : Vec ℕ Global). v.items) w.work-is ∙ w.in_ok-push.ensures.items in
          subst (AreStarts (take (c.loop-n.n + 1) c.args.starts.now)) (sym work) (starts_more c.args.starts.now c.loop-n.n c.loop-n-test.true c.loop-n.work.items c.loop-n.invariant w.if-start.true)
      | else-start w ↦
          let work : c.if-start.work.items ≡ c.loop-n.work.items = ap (λ (v : Vec ℕ Global). v.items) w.work-is in
          subst (AreStarts (take (c.loop-n.n + 1) c.args.starts.now)) (sym work) (starts_same c.args.starts.now c.loop-n.n c.loop-n-test.true c.loop-n.work.items c.loop-n.invariant w.if-start.false)
    ]
