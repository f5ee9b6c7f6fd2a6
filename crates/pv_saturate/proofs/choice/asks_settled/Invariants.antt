use Rattle.std.proofs.Common.{map, take}
use Rattle.pv_graph.specs.Walks.{In}
use Rattle.pv_pattern.specs.Patterns.{settled}
use Rattle.pv_pattern.specs.Seen.{side_seen}
use Rattle.pv_saturate.proofs.choice.asks_settled.Given as goal

abbrev pub invariant-loop-side : goal.invariant-loop-side
invariant-loop-side l = In (map side_seen (take l.side-index l.sides)) (settled l.j) → ⊥
