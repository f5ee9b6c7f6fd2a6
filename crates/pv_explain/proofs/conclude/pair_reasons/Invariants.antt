use Rattle.std.proofs.Common.{take}
use Rattle.pv_writer.specs.Written.{GoesOn}
use Rattle.pv_explain.specs.Pairs.{GiveEach}
use Rattle.pv_explain.proofs.conclude.pair_reasons.Given as goal

abbrev pub invariant-loop-pair : goal.invariant-loop-pair
invariant-loop-pair l = record {
  reasons : GiveEach l.writer l.reasons.items (take l.pair-index l.pairs);
  goes : GoesOn l.initial.writer l.writer;
}
