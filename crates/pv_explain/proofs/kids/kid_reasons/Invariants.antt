use Rattle.std.proofs.Common.{take}
use Rattle.pv_writer.specs.Written.{GoesOn}
use Rattle.pv_explain.specs.Lines.{GiveAllCopies}
use Rattle.pv_explain.proofs.kids.kid_reasons.Given as goal

abbrev pub invariant-loop-i : goal.invariant-loop-i
invariant-loop-i l = record {
  reasons : GiveAllCopies l.writer l.source.map.now l.reasons.items (take l.i l.lefts) (take l.i l.rights);
  goes : GoesOn l.initial.writer l.writer;
}
