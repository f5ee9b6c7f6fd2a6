use Rattle.std.proofs.Common.{◌≡◌, map, drop, max}
use Rattle.pv_pattern.specs.Patterns.{variables_of}
use Rattle.pv_pattern.specs.Seen.{listed, seen}
use Rattle.pv_saturate.proofs.left.+variables.Given as goal

abbrev pub invariant-variables_of-loop-pattern : goal.invariant-variables_of-loop-pattern
invariant-variables_of-loop-pattern l =
    max l.most (variables_of (listed (map seen (drop l.pattern-index l.patterns)))) ≡ variables_of (listed (map seen l.patterns))
