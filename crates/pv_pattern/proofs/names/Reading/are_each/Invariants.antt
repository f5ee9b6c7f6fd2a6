use Rattle.std.proofs.Common.{◌↔◌, drop}
use Rattle.std.specs.List.{AllZip}
use Rattle.pv_pattern.specs.Found.{names_of, view_of}
use Rattle.pv_pattern.specs.Instances.{IsEach}
use Rattle.pv_pattern.specs.Seen.{each_seen}
use Rattle.pv_pattern.proofs.names.Reading.are_each.Given as goal

abbrev pub invariant-loop-kid : goal.invariant-loop-kid
invariant-loop-kid l =
    AllZip (IsEach (view_of l.self) (names_of l.self) (each_seen l.each)) l.self.kids.now l.kids
    ↔ AllZip (IsEach (view_of l.self) (names_of l.self) (each_seen l.each)) (drop l.kid-index l.self.kids.now) l.rest
