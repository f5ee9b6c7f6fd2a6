use Rattle.std.specs.List.{AllZip}
use Rattle.std.proofs.Common.{take}
use Rattle.pv_writer.specs.Written.{GoesOn, inside}
use Rattle.pv_explain.specs.Iterations.{IsBegun}
use Rattle.pv_explain.proofs.induction.begin_pairs.Given as goal

abbrev pub invariant-loop-pair : goal.invariant-loop-pair
invariant-loop-pair l = record {
  begun_ : AllZip (IsBegun l.writer (inside l.writer) l.source l.depth l.zero) (take l.pair-index l.pairs) l.begun.items;
  goes : GoesOn l.initial.writer l.writer;
}
