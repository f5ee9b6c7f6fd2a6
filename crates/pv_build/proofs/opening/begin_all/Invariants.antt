use Rattle.std.proofs.Common.{◌≡◌, length}
use Rattle.pv_build.proofs.Words.{Begins, AreNodes}
use Rattle.pv_build.proofs.opening.begin_all.Given as goal

abbrev pub invariant-loop-kid : goal.invariant-loop-kid
invariant-loop-kid l = record {
  begins : Begins l.head l.kids l.fn.g l.fn.names l.g l.names l.thetas.items;
  nodes_are : AreNodes l.head l.kids l.fn.names l.names l.thetas.items l.nodes.items;
  size : length l.nodes.items ≡ l.kid-index;
}
