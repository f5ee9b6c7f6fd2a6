use Rattle.pv_match.proofs.Listing.{more_items}
use Rattle.pv_match.proofs.rules.add_items.Goals as goal

pub returns-clause-added : goal.returns-clause-added
returns-clause-added c nodes knows = more_items nodes c.args.kept.now c.args.rules.now c.args.number c.args.items.now.items c.add_kept.new.list.items c.nodes_with.result.now c.in_ok-add_kept.ensures (c.nodes_with.ensures nodes knows)
