use Rattle.std.proofs.Common.{◌≡◌, [], take}
use Rattle.pv_explain.specs.Lines.{sides}
use Rattle.pv_explain.proofs.level.Level.of.Given as goal

abbrev pub invariant-loop-line : goal.invariant-loop-line
invariant-loop-line l = record {
  nodes_ : l.level.forest.nodes ≡ l.nodes;
  ends : l.level.forest.ends ≡ sides (take l.line-index l.lines);
  lines : l.level.lines.items ≡ take l.line-index l.lines;
  known : l.level.known.items ≡ [];
}
