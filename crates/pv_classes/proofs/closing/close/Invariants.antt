use Rattle.std.proofs.Common.{◌+◌}
use Rattle.pv_classes.specs.Partition.{total}
use Rattle.pv_classes.specs.Index.{AreJoined}
use Rattle.pv_classes.specs.Congruence.{index_of}
use Rattle.pv_classes.specs.Closing.{IsClosing, waits}
use Rattle.pv_classes.proofs.closing.close.Given as goal

abbrev pub invariant-closing : goal.invariant-closing
invariant-closing l = record {
  joined : AreJoined l.congruence.parts l.joins.items;
  so_far : IsClosing l.g.nodes l.fixed (index_of l.initial.congruence) (index_of l.congruence) l.held.items l.initial.joins.items l.joins.items;
}

abbrev pub decreases-closing : goal.decreases-closing
decreases-closing l = total l.congruence.parts.numbers + waits l.congruence.waiting.items
