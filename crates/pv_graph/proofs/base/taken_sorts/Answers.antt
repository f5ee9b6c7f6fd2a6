use Rattle.std.proofs.Common.{Bool, List, get_or, subst}
use Rattle.pv_graph.specs.declared.node.OpSort.TheVariants.{I}
use Rattle.pv_graph.specs.Base.{Gives, value_sorts}
use Rattle.pv_graph.proofs.Basing.{taken_more, value_no_root}
use Rattle.pv_graph.proofs.base.taken_sorts.Goals as goal

pub loop-sort-preserved : goal.loop-sort-preserved
loop-sort-preserved c =
    taken_more c.args.nodes.now value_sorts c.loop-sort.sort-index I c.loop-sort-test.true c.in_ok-marks.marks.items c.loop-sort.sorts.items c.give.new.sorts.items
    (value_no_root c.loop-sort.sort-index I c.loop-sort-test.true) c.in_ok-marks.ensures
    (subst (λ (marks : List Bool). Gives (get_or value_sorts c.loop-sort.sort-index I) marks c.loop-sort.sorts.items c.give.new.sorts.items) c.deref.ensures.value c.give.ensures) c.loop-sort.invariant
