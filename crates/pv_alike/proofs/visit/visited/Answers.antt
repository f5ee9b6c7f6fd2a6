use Rattle.std.proofs.Common.{[], ◌∷◌, length, rules, refl, sym, ap, ◌∙◌}
use Rattle.pv_graph.specs.declared.node.Node.{Node}
use Rattle.std.proofs.lemmas.Option.{slice_get_read}
use Rattle.std.proofs.lemmas.List.{nil_from_length}
use Rattle.pv_alike.specs.Visits.{Visits}
use Rattle.pv_alike.proofs.Orders.{visits_all}
use Rattle.pv_alike.proofs.Closed.{closed_visits, order_small}
use Rattle.pv_alike.proofs.Visiting.{last_low, visiting_end, turn_again, turn_new, turn_new_less}
use Rattle.pv_alike.proofs.visit.visited.Goals as goal

pub bounds-nodes-n : goal.bounds-nodes-n
bounds-nodes-n c = last_low c.args.nodes.now c.args.first c.args.second c.loop-n.order c.loop-n.stack.items c.pop.new.self.items c.in-Some.n c.loop-n.invariant c.in-Some.ensures.items

pub loop-n-preserved-then-not-is_new : goal.loop-n-preserved-then-not-is_new
loop-n-preserved-then-not-is_new c =
    turn_again c.args.nodes.now c.args.first c.args.second c.loop-n.order c.visit.new.self c.loop-n.stack.items c.pop.new.self.items c.in-Some.n c.in_ok-is_new.is_new
    c.loop-n.invariant c.in-Some.ensures.items c.in_ok-is_new.ensures c.if-not-is_new.true

pub loop-n-preserved : goal.loop-n-preserved
loop-n-preserved c =
    let low = last_low c.args.nodes.now c.args.first c.args.second c.loop-n.order c.loop-n.stack.items c.pop.new.self.items c.in-Some.n c.loop-n.invariant c.in-Some.ensures.items in
    let at = slice_get_read c.args.nodes.now (length c.args.nodes.now) c.in-Some.n c.index-nodes-n.result refl low c.index-nodes-n.is in
    turn_new c.args.nodes.now c.args.first c.args.second c.loop-n.order c.visit.new.self c.loop-n.stack.items c.pop.new.self.items c.in-Some.n c.in_ok-is_new.is_new c.index-nodes-n.result c.as_slice.result.now c.push_all-in-Some.new.stack.items
    c.requires.within c.loop-n.invariant c.in-Some.ensures.items c.in_ok-is_new.ensures c.if-not-is_new.false at (c.as_slice.ensures ∙ ap (λ (x : Node). x.kids) (sym c.index-nodes-n.is)) c.in_ok-push_all-2.ensures

pub loop-n-smaller : goal.loop-n-smaller
loop-n-smaller c =
    let low = last_low c.args.nodes.now c.args.first c.args.second c.loop-n.order c.loop-n.stack.items c.pop.new.self.items c.in-Some.n c.loop-n.invariant c.in-Some.ensures.items in
    let at = slice_get_read c.args.nodes.now (length c.args.nodes.now) c.in-Some.n c.index-nodes-n.result refl low c.index-nodes-n.is in
    turn_new_less c.args.nodes.now c.loop-n.order c.visit.new.self c.loop-n.stack.items c.pop.new.self.items c.in-Some.n c.in_ok-is_new.is_new c.index-nodes-n.result c.as_slice.result.now c.push_all-in-Some.new.stack.items
    c.in-Some.ensures.items c.in_ok-is_new.ensures c.if-not-is_new.false at (c.as_slice.ensures ∙ ap (λ (x : Node). x.kids) (sym c.index-nodes-n.is)) c.in_ok-push_all-2.ensures

pub returns : goal.returns
returns c =
    let visits : Visits c.args.nodes.now c.loop-n.order [] (c.args.first ∷ c.args.second ∷ []) =
    visiting_end c.args.nodes.now c.args.first c.args.second c.loop-n.order c.loop-n.stack.items c.loop-n.invariant (nil_from_length c.loop-n.stack.items (search (rules, c.in_default.ensures.cases))) in
    let all = visits_all c.args.nodes.now c.loop-n.order [] (c.args.first ∷ c.args.second ∷ []) visits in
    record {
      visits = visits;
      roots = (all.0, all.1.0);
      closed = closed_visits c.args.nodes.now c.loop-n.order (c.args.first ∷ c.args.second ∷ []) visits;
      small = order_small c.args.nodes.now c.loop-n.order (c.args.first ∷ c.args.second ∷ []) c.requires.small visits;
    }
