use Rattle.std.specs.List.{AllZip}
use Rattle.std.proofs.Common.{take}
use Rattle.pv_writer.specs.Written.{GoesOn}
use Rattle.pv_explain.specs.Iterations.{GoOn}
use Rattle.pv_explain.proofs.induction.all_next_facts.Given as goal

abbrev pub invariant-loop-b : goal.invariant-loop-b
invariant-loop-b l = record {
  facts_ : AllZip (GoOn l.writer) (take l.b-index l.begun) l.all.items;
  goes : GoesOn l.initial.writer l.writer;
}
