use Rattle.std.proofs.Common.{subst}
use Rattle.pv_explain.specs.Needed.{LinkedToTops}
use Rattle.pv_explain.proofs.Marking.{still_linked}
use Rattle.pv_explain.proofs.needed.mark_between.Goals as goal

pub returns-clause-linked : goal.returns-clause-linked
returns-clause-linked c =
    let f = c.args.forest.now in
    let new = c.mark_all_up.new.needed.items in
    let nodes = c.args.nodes.now in
    still_linked f new nodes c.args.before c.args.count c.in_ok-tops.tops.items c.in_ok-tops.ensures c.requires.nodes (subst (LinkedToTops f new c.args.before nodes) c.deref.ensures.value c.in_ok-mark_all_up.ensures.linked)
