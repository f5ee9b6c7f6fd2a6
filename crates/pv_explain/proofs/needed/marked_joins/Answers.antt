use Rattle.std.proofs.Common.{◌++◌, ◌∙◌, List, ap}
use Rattle.pv_classes.specs.declared.join.Join.{Join}
use Rattle.pv_explain.specs.Needed.{if_marked}
use Rattle.pv_explain.proofs.Linking.{at_index}
use Rattle.pv_explain.proofs.Marked.{marked_next}
use Rattle.pv_explain.proofs.needed.marked_joins.Goals as goal

pub loop-i-preserved : goal.loop-i-preserved
loop-i-preserved c =
    let js = c.args.joins.now in
    let i = c.loop-i.i in
    let j = c.index-joins-i.result in
    let b = c.is_marked.result in
    c.in_ok-push_marked.ensures ∙ ap (λ (ks : List Join). ks ++ if_marked b j) c.loop-i.invariant ∙ marked_next i c.args.needed.now js b j c.is_marked.ensures (at_index js i j c.loop-i-test.true c.index-joins-i.is)
