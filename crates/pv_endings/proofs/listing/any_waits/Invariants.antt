use Rattle.std.specs.Prelude.{ℕ, ◌<◌}
use Rattle.pv_graph.specs.Reach.{IsMarked}
use Rattle.pv_endings.specs.Waiting.{Waits}
use Rattle.pv_endings.proofs.listing.any_waits.Given as goal

abbrev pub invariant-loop-n : goal.invariant-loop-n
invariant-loop-n l = (n : ℕ) → n < l.n → Waits l.graph n → IsMarked l.spine n → ⊥
