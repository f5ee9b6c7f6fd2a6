use Rattle.std.proofs.Common.{Some}
use Rattle.pv_build.proofs.Words.{number}
use Rattle.pv_build.proofs.Folding.{not_none, some_read, some_sorted}
use Rattle.pv_build.proofs.entering.node_of.Goals as goal

pub unreachable-requires : goal.unreachable-requires
unreachable-requires c = not_none c.args.g.now c.fold_slot.new.g c.args.given.now (number c.args.slot) c.args.dead c.in_ok-made.made c.requires.some c.in_ok-made.ensures.reads c.in-None.is

pub returns-clause-reads : goal.returns-clause-reads
returns-clause-reads c names e f = some_read c.fold_slot.new.g names c.in_ok-made.made c.in-Some.n e c.in-Some.is (c.in_ok-made.ensures.reads names (Some e) f)

pub returns-clause-sort : goal.returns-clause-sort
returns-clause-sort c t gives = some_sorted c.fold_slot.new.g c.in_ok-made.made c.in-Some.n t c.in-Some.is (c.in_ok-made.ensures.sort t gives)
