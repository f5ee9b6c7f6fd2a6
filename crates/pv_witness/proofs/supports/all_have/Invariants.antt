use Rattle.std.proofs.Common.{ℕ, take}
use Rattle.pv_graph.specs.Walks.{In}
use Rattle.pv_graph.specs.Reach.{IsMarked}
use Rattle.pv_marks.specs.Classes.{class_of}
use Rattle.pv_witness.proofs.supports.all_have.Given as goal

abbrev pub invariant-loop-kid : goal.invariant-loop-kid
invariant-loop-kid l = (k : ℕ) → In (take l.kid-index l.kids) k → IsMarked l.has (class_of l.numbers k)
