use Rattle.std.proofs.Common.{◌≡◌, ℕ, ◌<◌, true, false, length, get_or}
use Rattle.pv_loops.specs.Reductions.{AreListed}
use Rattle.pv_loops.proofs.walk.NodeList.add_rest.Given as goal

abbrev pub invariant-loop-n : goal.invariant-loop-n
invariant-loop-n l = (length l.self.listed.items ≡ l.count) × AreListed l.self.listed.items l.self.nodes.items × ((x : ℕ) → x < l.n → get_or l.self.listed.items x false ≡ true)
