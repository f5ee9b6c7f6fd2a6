use Rattle.std.proofs.Common.{◌≡◌, map}
use Rattle.pv_pattern.specs.Seen.{each_seen}
use Rattle.pv_heights.specs.Filled.{each_parts}
use Rattle.pv_instances.specs.Seen.{params_seen, parts, seen}
use Rattle.pv_instances.proofs.filling.each_parts.Given as goal

abbrev pub invariant-loop-i : goal.invariant-loop-i
invariant-loop-i l = parts (map seen l.made.items) ≡ each_parts (params_seen l.params) (each_seen l.each) 0 l.i
