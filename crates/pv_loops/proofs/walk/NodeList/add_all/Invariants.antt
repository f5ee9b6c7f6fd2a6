use Rattle.std.proofs.Common.{◌≡◌, length}
use Rattle.pv_loops.specs.Reductions.{AreListed}
use Rattle.pv_loops.proofs.walk.NodeList.add_all.Given as goal

abbrev pub invariant-loop-n : goal.invariant-loop-n
invariant-loop-n l = (length l.self.listed.items ≡ length l.fn.self.listed.items) × AreListed l.self.listed.items l.self.nodes.items
