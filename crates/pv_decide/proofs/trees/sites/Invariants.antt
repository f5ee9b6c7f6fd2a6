use Rattle.std.proofs.Common.{◌≡◌, ℕ, length, Some, slice_get}
use Rattle.pv_decide.proofs.Words.{Block, Site, IsSite}
use Rattle.pv_decide.proofs.trees.sites.Given as goal

abbrev pub invariant-loop-b : goal.invariant-loop-b
invariant-loop-b l = record {
  size : length l.sites.items ≡ l.b;
  each : (b : ℕ) (k : Block) (site : Site) → slice_get l.flow.blocks b ≡ Some k → slice_get l.sites.items b ≡ Some site → IsSite k l.forest b site;
}
