use Rattle.std.proofs.Common.{◌≡◌, map, take, Some}
use Rattle.pv_pattern.specs.Seen.{listed}
use Rattle.pv_pattern.specs.Seen as pattern
use Rattle.pv_heights.specs.Filled.{all_filled}
use Rattle.pv_instances.specs.Seen.{params_seen, parts, seen}
use Rattle.pv_instances.proofs.filling.+fill.Given as goal

abbrev pub invariant-fill_all-loop-pattern : goal.invariant-fill_all-loop-pattern
invariant-fill_all-loop-pattern l = all_filled (params_seen l.params) l.kids (listed (map pattern.seen (take l.pattern-index l.patterns))) ≡ Some (parts (map seen l.made.items))
