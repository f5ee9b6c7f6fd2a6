use Rattle.std.proofs.Common.{ℕ, ◌<◌, length}
use Rattle.pv_paths.specs.Trees.{Climbs}
use Rattle.pv_paths.proofs.Climbing.{room}
use Rattle.pv_paths.proofs.forest.top_before.Given as goal

abbrev pub invariant-loop-link : goal.invariant-loop-link
invariant-loop-link l = record {
  within : l.top < length l.links;
  rest : (r : ℕ) → Climbs l.links l.before l.top r → Climbs l.links l.before l.n r;
}

abbrev pub decreases-loop-link : goal.decreases-loop-link
decreases-loop-link l = room l.links l.top
