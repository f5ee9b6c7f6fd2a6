use Rattle.std.proofs.Common.{◌≡◌, map, drop}
use Rattle.pv_pattern.specs.Binding.{names_in}
use Rattle.pv_pattern.specs.Seen.{listed, seen}
use Rattle.pv_match.specs.Parameters.{once_more}
use Rattle.pv_saturate.proofs.left.+names.Given as goal

abbrev pub invariant-add_all_names-loop-pattern : goal.invariant-add_all_names-loop-pattern
invariant-add_all_names-loop-pattern l =
    once_more l.known.items (names_in (listed (map seen (drop l.pattern-index l.patterns)))) ≡ once_more l.initial.known.items (names_in (listed (map seen l.patterns)))
