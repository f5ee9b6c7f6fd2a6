use Rattle.std.proofs.Common.{map, take}
use Rattle.pv_instances.specs.Parts.{MadeSides}
use Rattle.pv_instances.specs.Seen.{instance_seen, parts, seen}
use Rattle.pv_instances.proofs.making.+make.Given as goal

abbrev pub invariant-make_all-loop-side : goal.invariant-make_all-loop-side
invariant-make_all-loop-side l = MadeSides l.initial.graph l.graph (instance_seen l.instance) (parts (map seen (take l.side-index l.sides))) l.nodes.items
