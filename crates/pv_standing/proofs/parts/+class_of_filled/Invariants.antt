use Rattle.std.proofs.Common.{map, take, Some}
use Rattle.pv_instances.specs.Seen.{instance_seen, parts, seen}
use Rattle.pv_standing.specs.Parts.{AreClassesOf}
use Rattle.pv_standing.proofs.parts.+class_of_filled.Given as goal

abbrev pub invariant-classes_of_parts-loop-side : goal.invariant-classes_of_parts-loop-side
invariant-classes_of_parts-loop-side l = AreClassesOf l.graph l.classes.numbers (instance_seen l.instance) (parts (map seen (take l.side-index l.sides))) (Some l.found.items)
