use Rattle.std.proofs.Common.{◌≡◌, map, drop}
use Rattle.pv_pattern.specs.Seen.{listed, seen}
use Rattle.pv_touched.specs.Looks.{all_within}
use Rattle.pv_touched.proofs.looks.+within.Given as goal

abbrev pub invariant-all_within-loop-pattern : goal.invariant-all_within-loop-pattern
invariant-all_within-loop-pattern l = all_within l.steps (listed (map seen (drop l.pattern-index l.patterns))) ≡ all_within l.steps (listed (map seen l.patterns))
