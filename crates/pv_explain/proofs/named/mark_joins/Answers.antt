use Rattle.std.specs.List.{AllByRecursion}
use Rattle.std.proofs.Common.{subst, take_all}
use Rattle.pv_explain.specs.Named.{IsMarkedNode, OfJoin}
use Rattle.pv_explain.proofs.NodeMarks.{all_next, join_keeps, keeps_refl, keeps_trans}
use Rattle.pv_explain.proofs.named.mark_joins.Goals as goal

pub loop-join-init : goal.loop-join-init
loop-join-init c = record { keeps = keeps_refl c.args.marks.now.items; marked = tt }

pub loop-join-preserved : goal.loop-join-preserved
loop-join-preserved c =
    let old = c.loop-join.marks.items in
    let new = c.mark_join.new.marks.items in
    let j = c.join-item.result in
    record {
      keeps = keeps_trans c.args.marks.now.items old new c.loop-join.invariant.keeps c.mark_join.ensures.keeps;
      marked =
          all_next (OfJoin (IsMarkedNode old)) (OfJoin (IsMarkedNode new)) c.args.joins.now c.loop-join.join-index j j (join_keeps old new c.mark_join.ensures.keeps) c.loop-join-test.true c.join-item.is c.loop-join.invariant.marked c.mark_join.ensures.marked;
    }

pub returns-clause-marked : goal.returns-clause-marked
returns-clause-marked c = subst (AllByRecursion (OfJoin (IsMarkedNode c.loop-join.marks.items))) (take_all c.loop-join.join-index c.args.joins.now c.loop-join-test.false) c.loop-join.invariant.marked
