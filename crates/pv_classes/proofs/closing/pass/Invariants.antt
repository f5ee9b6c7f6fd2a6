use Rattle.std.proofs.Common.{take}
use Rattle.pv_classes.specs.Index.{AreJoined}
use Rattle.pv_classes.specs.Congruence.{index_of}
use Rattle.pv_classes.proofs.Passes.{IsPass}
use Rattle.pv_classes.proofs.closing.pass.Given as goal

abbrev pub invariant-loop-n : goal.invariant-loop-n
invariant-loop-n l = record {
  joined : AreJoined l.congruence.parts l.joins.items;
  so_far : IsPass l.g.nodes l.fixed (take l.n-index l.work) (index_of l.initial.congruence) (index_of l.congruence) l.initial.joins.items l.joins.items l.initial.held.items l.held.items;
}
