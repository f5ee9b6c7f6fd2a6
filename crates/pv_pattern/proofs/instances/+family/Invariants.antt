use Rattle.std.proofs.Common.{◌≡◌, map, drop}
use Rattle.pv_pattern.specs.Patterns.{is_family_of}
use Rattle.pv_pattern.specs.Seen.{listed, seen}
use Rattle.pv_pattern.proofs.instances.+family.Given as goal

abbrev pub invariant-is_family_of-loop-pattern : goal.invariant-is_family_of-loop-pattern
invariant-is_family_of-loop-pattern l =
    is_family_of (listed (map seen (drop l.pattern-index l.patterns))) ≡ is_family_of (listed (map seen l.patterns))
