use Rattle.pv_match.proofs.Known.{renumbered_once}
use Rattle.pv_match.proofs.renumbered.renumbered_in_order.Goals as goal

pub returns-clause-renumbered : goal.returns-clause-renumbered
returns-clause-renumbered c =
    renumbered_once c.args.numbers.now c.args.known.now c.in_ok-list.list.items c.sort_once.new.list.items c.in_ok-list.ensures c.in_ok-sort_once.ensures.within c.in_ok-sort_once.ensures.kept
