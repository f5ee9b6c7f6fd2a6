use Rattle.std.proofs.Common.{ℕ, drop}
use Rattle.pv_build.proofs.Words.{I, Graph, IsGraph, IsOfSort, GrowsIn, AreSortedLoops, AreDeeper, ReadsValueOut}
use Rattle.pv_build.proofs.taking.value_outs.Given as goal

abbrev pub invariant-loop-c : goal.invariant-loop-c
invariant-loop-c l = record {
  graph : IsGraph l.g;
  closed : AreSortedLoops l.g l.left;
  sort : IsOfSort l.g l.value I;
  reads : (new : Graph) (r : ℕ) → ReadsValueOut l.g (drop l.c-index l.left) l.value new r → ReadsValueOut l.fn.g l.left l.n new r;
  grows : (d : ℕ) → AreDeeper d l.left → GrowsIn d l.fn.g l.g;
}
