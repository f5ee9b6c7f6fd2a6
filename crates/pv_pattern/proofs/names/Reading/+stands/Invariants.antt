use Rattle.std.proofs.Common.{◌↔◌, map, drop}
use Rattle.pv_pattern.specs.Found.{names_of, view_of}
use Rattle.pv_pattern.specs.Instances.{StandAll}
use Rattle.pv_pattern.specs.Seen.{listed, seen}
use Rattle.pv_pattern.proofs.names.Reading.+stands.Given as goal

abbrev pub invariant-all_stand-loop-pattern : goal.invariant-all_stand-loop-pattern
invariant-all_stand-loop-pattern l =
    StandAll (view_of l.self) (names_of l.self) (listed (map seen l.patterns)) l.kids
    ↔ StandAll (view_of l.self) (names_of l.self) (listed (map seen (drop l.pattern-index l.patterns))) l.rest
