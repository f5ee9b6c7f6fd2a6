use Rattle.std.proofs.Common.{◌≡◌, ◌∙◌, ◌+◌, ◌∷◌, [], ℕ, suc, List, ap, sym, subst, arith}
use Rattle.std.specs.List.{range_with_len}
use Rattle.pv_alike.specs.BottomUp.{Settles}
use Rattle.pv_alike.proofs.Places.{range_more}
use Rattle.pv_alike.proofs.Settled.{settles_then}
use Rattle.pv_alike.proofs.bottom_up.settle_each.Goals as goal

pub loop-n-preserved : goal.loop-n-preserved
loop-n-preserved c =
    let next : c.loop-n.n + 1 ≡ suc c.loop-n.n = omega arith in
    subst (λ (ns : List ℕ). Settles c.args.g.now.nodes c.args.order.now c.settle.new.order c.args.waiting.now c.settle.new.waiting ns) (sym (ap (range_with_len 0) next ∙ range_more c.loop-n.n))
    (settles_then c.args.g.now.nodes c.args.order.now c.loop-n.order c.settle.new.order c.args.waiting.now c.loop-n.waiting c.settle.new.waiting (range_with_len 0 c.loop-n.n) (c.loop-n.n ∷ [])
    c.loop-n.invariant c.in_ok-settle.ensures)
