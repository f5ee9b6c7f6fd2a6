use Rattle.std.proofs.Common.{◌≡◌, map, drop}
use Rattle.pv_pattern.specs.Seen.{listed, seen}
use Rattle.pv_saturate.specs.Told.{families_in}
use Rattle.pv_saturate.proofs.left.+family.Given as goal

abbrev pub invariant-family_of-loop-pattern : goal.invariant-family_of-loop-pattern
invariant-family_of-loop-pattern l = families_in l.number (listed (map seen (drop l.pattern-index l.patterns))) ≡ families_in l.other (listed (map seen l.patterns))
