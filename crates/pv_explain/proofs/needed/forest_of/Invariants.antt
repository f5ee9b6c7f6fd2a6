use Rattle.std.proofs.Common.{◌≡◌, take}
use Rattle.pv_explain.specs.Levels.{ends_of}
use Rattle.pv_explain.proofs.needed.forest_of.Given as goal

abbrev pub invariant-loop-join : goal.invariant-loop-join
invariant-loop-join l = record {
  nodes_ : l.forest.nodes ≡ l.nodes;
  ends : l.forest.ends ≡ ends_of (take l.join-index l.joins);
}
