use Rattle.std.specs.List.{AllByRecursion}
use Rattle.std.proofs.Common.{get_or, refl, subst, take_all}
use Rattle.pv_explain.specs.Named.{IsMarkedNode, OfPair}
use Rattle.pv_explain.proofs.NodeMarks.{all_next, keeps_refl, keeps_trans, pair_keeps}
use Rattle.pv_explain.proofs.named.mark_pairs.Goals as goal

pub loop-pair-init : goal.loop-pair-init
loop-pair-init c = record { keeps = keeps_refl c.args.marks.now.items; marked = tt }

pub loop-pair-preserved : goal.loop-pair-preserved
loop-pair-preserved c =
    let old = c.loop-pair.marks.items in
    let new = c.mark_pair.new.marks.items in
    let i = c.loop-pair.pair-index in
    let pairs = c.args.pairs.now in
    record {
      keeps = keeps_trans c.args.marks.now.items old new c.loop-pair.invariant.keeps c.mark_pair.ensures.keeps;
      marked =
          all_next (OfPair (IsMarkedNode old)) (OfPair (IsMarkedNode new)) pairs i (0, 0) (get_or pairs i (0, 0)) (pair_keeps old new c.mark_pair.ensures.keeps) c.loop-pair-test.true refl c.loop-pair.invariant.marked c.mark_pair.ensures.marked;
    }

pub returns-clause-marked : goal.returns-clause-marked
returns-clause-marked c = subst (AllByRecursion (OfPair (IsMarkedNode c.loop-pair.marks.items))) (take_all c.loop-pair.pair-index c.args.pairs.now c.loop-pair-test.false) c.loop-pair.invariant.marked
