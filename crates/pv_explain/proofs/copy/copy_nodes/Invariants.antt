use Rattle.pv_writer.specs.Written.{GoesOn}
use Rattle.pv_explain.specs.Copying.{AreFirstCopies}
use Rattle.pv_explain.proofs.copy.copy_nodes.Given as goal

abbrev pub invariant-loop-n : goal.invariant-loop-n
invariant-loop-n l = record {
  copies : AreFirstCopies l.writer l.graph l.marks l.n l.map.items;
  goes : GoesOn l.initial.writer l.writer;
}
