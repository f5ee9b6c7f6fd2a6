use Rattle.std.proofs.Common.{length, arith}
use Rattle.pv_classes.proofs.Learnt.{parents_wider}
use Rattle.pv_classes.proofs.known.extend.Goals as goal

pub add_parents-requires-clause-parents : goal.add_parents-requires-clause-parents
add_parents-requires-clause-parents c =
    parents_wider c.args.g.now.nodes c.args.from (length c.args.g.now.nodes) _ c.args.known.now.parents c.add_empty_lists.new.lists c.requires.parents c.in_ok-add_empty_lists.ensures
    (omega (arith, c.len.ensures.len, c.requires.from))
