use Rattle.std.proofs.Common.{[], ℕ, List, length, subst}
use Rattle.std.specs.List.{range_with_len}
use Rattle.std.proofs.lemmas.List.{length-replicate}
use Rattle.pv_alike.specs.BottomUp.{Settles}
use Rattle.pv_alike.proofs.Settled.{Lists, settling_begin, settling_end}
use Rattle.pv_alike.proofs.bottom_up.bottom_up.Goals as goal

pub settle_waiting-requires-clause-begun : goal.settle_waiting-requires-clause-begun
settle_waiting-requires-clause-begun c =
    settling_begin c.args.g.now.nodes c.settle_each.new.order c.settle_each.new.waiting c.len.result c.len.ensures.len (length-replicate c.len.result [])
    (subst (λ (before : Lists). Settles c.args.g.now.nodes [] c.settle_each.new.order before c.settle_each.new.waiting (range_with_len 0 (length c.args.g.now.nodes))) c.in_ok-waiting.ensures
    (subst (λ (old : List ℕ). Settles c.args.g.now.nodes old c.settle_each.new.order c.in_ok-waiting.waiting c.settle_each.new.waiting (range_with_len 0 (length c.args.g.now.nodes))) c.new-order.ensures c.in_ok-settle_each.ensures))

pub returns : goal.returns
returns c = settling_end c.args.g.now c.requires.graph c.requires.cycles c.settle_waiting.new.order c.settle_waiting.new.waiting c.in_ok-settle_waiting.ensures
