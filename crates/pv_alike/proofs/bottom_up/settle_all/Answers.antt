use Rattle.std.proofs.Common.{◌∷◌, [], ℕ, List, take, get_or, sym, subst}
use Rattle.std.proofs.lemmas.List.{take_more}
use Rattle.pv_graph.proofs.Cited.{in_at}
use Rattle.pv_alike.specs.BottomUp.{Settles}
use Rattle.pv_alike.proofs.Settled.{settles_then}
use Rattle.pv_alike.proofs.bottom_up.settle_all.Goals as goal

pub settle-requires-clause-there : goal.settle-requires-clause-there
settle-requires-clause-there c = c.requires.there (get_or c.args.ns.now c.loop-n.n-index 0) (in_at c.args.ns.now c.loop-n.n-index 0 c.loop-n-test.true)

pub loop-n-preserved : goal.loop-n-preserved
loop-n-preserved c =
    subst (λ (ns : List ℕ). Settles c.args.g.now.nodes c.args.order.now c.settle.new.order c.args.waiting.now c.settle.new.waiting ns) (sym (take_more c.args.ns.now c.loop-n.n-index 0 c.loop-n-test.true))
    (settles_then c.args.g.now.nodes c.args.order.now c.loop-n.order c.settle.new.order c.args.waiting.now c.loop-n.waiting c.settle.new.waiting (take c.loop-n.n-index c.args.ns.now) (get_or c.args.ns.now c.loop-n.n-index 0 ∷ [])
    c.loop-n.invariant c.in_ok-settle.ensures)
