use Rattle.std.proofs.Common.{◌↔◌, map, drop}
use Rattle.std.specs.List.{AllByRecursion}
use Rattle.pv_pattern.specs.Found.{names_of}
use Rattle.pv_pattern.specs.Instances.{HoldsForAll}
use Rattle.pv_pattern.specs.Seen.{side_seen}
use Rattle.pv_pattern.proofs.names.Reading.all_hold_for_all.Given as goal

abbrev pub invariant-loop-side : goal.invariant-loop-side
invariant-loop-side l =
    AllByRecursion (HoldsForAll l.self.graph.now (names_of l.self)) (map side_seen l.sides)
    ↔ AllByRecursion (HoldsForAll l.self.graph.now (names_of l.self)) (map side_seen (drop l.side-index l.sides))
