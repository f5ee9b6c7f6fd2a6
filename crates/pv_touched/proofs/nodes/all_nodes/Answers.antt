use Rattle.std.proofs.Common.{◌<◌, ◌+◌, ℕ, List, sym, subst}
use Rattle.pv_graph.specs.Walks.{In}
use Rattle.pv_touched.proofs.Clear.{all_pushed}
use Rattle.pv_touched.proofs.nodes.all_nodes.Goals as goal

pub loop-n-preserved : goal.loop-n-preserved
loop-n-preserved c = subst (λ (all : List ℕ). (k : ℕ) → k < c.loop-n.n + 1 → In all k) (sym c.in_ok-push.ensures.items) (all_pushed c.loop-n.all.items c.loop-n.n c.loop-n.invariant)
