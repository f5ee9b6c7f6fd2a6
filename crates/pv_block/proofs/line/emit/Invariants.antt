use Rattle.std.proofs.Common.{drop}
use Rattle.pv_block.proofs.Lines.{SoFar}
use Rattle.pv_block.proofs.line.emit.Given as goal

abbrev pub invariant-loop-line : goal.invariant-loop-line
invariant-loop-line l = SoFar l.fn.g l.given l.lines (drop l.line-index l.lines) l.g l.nodes.items
