use Rattle.std.proofs.Common.{rules, ◌<◌, ◌+◌, length, ap, arith}
use Rattle.std.proofs.lemmas.List.{length-append}
use Rattle.pv_match.proofs.Merging.{merged}
use Rattle.pv_match.proofs.merge.merge_ordered.Goals as goal

pub loop-first-smaller : goal.loop-first-smaller
loop-first-smaller g c =
    let cmp = g.T.Ord.cmp in
    let at = c.loop-first in
    let run = c.move_run.new in
    let some : 0 < length at.first.items + length at.second.items = search rules in
    let longer = c.in_ok-move_run.ensures.longer some in
    let whole = ap length c.in_ok-move_run.ensures.whole in
    omega (arith, longer, whole, length-append run.list.items (merged cmp run.first.items run.second.items), length-append at.list.items (merged cmp at.first.items at.second.items))
