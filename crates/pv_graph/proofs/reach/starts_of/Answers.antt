use Rattle.std.proofs.Common.{◌≡◌, ◌+◌, Bool, false, not, List, get_or, take, sym, ap, ◌∙◌, subst, arith, if◌then◌else◌}
use Rattle.std.proofs.lemmas.Option.{slice_get-get_or}
use Rattle.pv_graph.specs.Reach.{begins, AreBegun}
use Rattle.pv_graph.proofs.Marking.{begun_more}
use Rattle.pv_graph.proofs.reach.starts_of.Goals as goal
use Rattle.pv_graph.proofs.reach.starts_of.Goals.{then-not-out-n, else-not-out-n}

is_start : (c : goal.In_ok-push) → c.if-not-out-n.push ≡ (if get_or c.args.out.now c.loop-n.n false then false else begins c.args.look c.index-nodes-n.result.op)
is_start c =
    elim c.if-not-out-n.branch [
      | then-not-out-n w ↦ w.push-is ∙ w.begins.ensures ∙ sym (ap (λ (t : Bool). if t then false else begins c.args.look c.index-nodes-n.result.op) w.if-not-out-n.true)
      | else-not-out-n w ↦ w.push-is ∙ ap not w.if-not-out-n.false ∙ sym (ap (λ (t : Bool). if t then false else begins c.args.look c.index-nodes-n.result.op) w.if-not-out-n.false)
    ]

pub loop-n-preserved : goal.loop-n-preserved
loop-n-preserved c =
    subst (λ (starts : List Bool). AreBegun (take (c.loop-n.n + 1) c.args.nodes.now) c.args.out.now c.args.look starts) (sym c.in_ok-push.ensures.items)
    (begun_more c.args.nodes.now c.args.out.now c.args.look c.loop-n.n c.index-nodes-n.result c.loop-n-test.true c.index-nodes-n.is (get_or c.args.out.now c.loop-n.n false) c.if-not-out-n.push
    (slice_get-get_or c.args.out.now c.loop-n.n false (omega (arith, c.loop-n-test.true, c.requires))) (is_start c) c.loop-n.starts.items c.loop-n.invariant)
