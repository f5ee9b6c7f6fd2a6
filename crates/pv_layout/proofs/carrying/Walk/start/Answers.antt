use Rattle.std.proofs.Common.{map, take_all, ap, ◌∙◌}
use Rattle.pv_layout.proofs.Words.{is_wide}
use Rattle.pv_layout.proofs.Writing.{knows_first}
use Rattle.pv_layout.proofs.carrying.Walk.start.Goals as goal

pub returns-clause-knows : goal.returns-clause-knows
returns-clause-knows c =
    knows_first c.args.frame.now c.loop-sort.wide.items
    (c.loop-sort.invariant ∙ ap (map is_wide) (take_all c.loop-sort.sort-index c.as_slice-sorts.result.now c.loop-sort-test.false) ∙ ap (map is_wide) c.as_slice-sorts.ensures)
