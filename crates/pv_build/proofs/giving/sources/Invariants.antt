use Rattle.std.proofs.Common.{◌≡◌, ℕ, length, Some, slice_get}
use Rattle.pv_build.proofs.Words.{TreeNode, Source, loops_at, IsStage, GrowsIn, IsSourceFor}
use Rattle.pv_build.proofs.giving.sources.Given as goal

abbrev pub invariant-loop-node : goal.invariant-loop-node
invariant-loop-node l = record {
  grows : GrowsIn (length (loops_at l.walk.method.now l.walk.at)) l.fn.g l.g;
  stage : IsStage l.walk.method.now l.g l.walk.made.now (loops_at l.walk.method.now l.walk.at);
  count : length l.sources.items ≡ l.node-index;
  each : (n : ℕ) (y : TreeNode) (k : Source) → slice_get l.nodes n ≡ Some y → slice_get l.sources.items n ≡ Some k → IsSourceFor l.walk.method.now l.g l.walk.made.now.names l.walk.at l.walk.target y k;
}
