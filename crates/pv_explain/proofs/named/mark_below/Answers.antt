use Rattle.std.specs.List.{AllByRecursion}
use Rattle.std.proofs.Common.{get_or, refl, subst, take_all}
use Rattle.pv_explain.specs.Marks.{IsMarked}
use Rattle.pv_explain.proofs.Marking.{more_refl, more_trans}
use Rattle.pv_explain.proofs.NodeMarks.{all_next, in_read}
use Rattle.pv_explain.proofs.named.mark_below.Goals as goal

pub loop-n-init : goal.loop-n-init
loop-n-init c = record { more = more_refl c.args.before c.args.marks.now.items; marked = tt }

pub mark-requires-clause-place : goal.mark-requires-clause-place
mark-requires-clause-place c = c.requires.below (get_or c.args.nodes.now c.loop-n.n-index 0) (in_read c.args.nodes.now c.loop-n.n-index 0 c.loop-n-test.true)

pub loop-n-preserved : goal.loop-n-preserved
loop-n-preserved c =
    let old = c.loop-n.marks.items in
    let new = c.mark.new.marks.items in
    let i = c.loop-n.n-index in
    let nodes = c.args.nodes.now in
    record {
      more = more_trans c.args.before c.args.marks.now.items old new c.loop-n.invariant.more c.mark.ensures.more;
      marked = all_next (IsMarked old) (IsMarked new) nodes i 0 (get_or nodes i 0) c.mark.ensures.more.stay c.loop-n-test.true refl c.loop-n.invariant.marked c.mark.ensures.marked;
    }

pub returns-clause-marked : goal.returns-clause-marked
returns-clause-marked c = subst (AllByRecursion (IsMarked c.loop-n.marks.items)) (take_all c.loop-n.n-index c.args.nodes.now c.loop-n-test.false) c.loop-n.invariant.marked
