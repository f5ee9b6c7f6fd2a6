use Rattle.std.proofs.Common.{◌≡◌, ℕ, drop}
use Rattle.pv_build.proofs.Words.{Graph, IsGraph, Leaving, dest_at, IsSortedExit, GrowsIn, AreSortedLoops, AreDeeper, ReadsOutOfAll}
use Rattle.pv_build.proofs.taking.exit_outs.Given as goal

abbrev pub invariant-loop-c : goal.invariant-loop-c
invariant-loop-c l = record {
  graph : IsGraph l.g;
  closed : AreSortedLoops l.g l.left;
  sorted : IsSortedExit l.g l.typed.program l.typed.frames l.taken;
  dest : dest_at l.taken ≡ dest_at l.exit;
  reads : (new : Graph) (y : Leaving) → ReadsOutOfAll l.g (drop l.c-index l.left) l.taken new y → ReadsOutOfAll l.fn.g l.left l.exit new y;
  grows : (d : ℕ) → AreDeeper d l.left → GrowsIn d l.fn.g l.g;
}
