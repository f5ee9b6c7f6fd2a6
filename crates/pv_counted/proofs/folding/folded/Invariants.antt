use Rattle.std.proofs.Common.{vec_len}
use Rattle.pv_counted.specs.Folding.{IsFolded}
use Rattle.pv_counted.proofs.folding.folded.Given as goal

abbrev pub invariant-loop-f : goal.invariant-loop-f
invariant-loop-f l = IsFolded l.fn.start.nodes.items l.fn.start.first l.fn.start.second l.f.nodes.items l.f.first l.f.second

abbrev pub decreases-loop-f : goal.decreases-loop-f
decreases-loop-f l = vec_len l.f.nodes
