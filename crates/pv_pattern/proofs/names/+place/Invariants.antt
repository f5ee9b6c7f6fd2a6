use Rattle.std.proofs.Common.{◌≡◌, map, drop}
use Rattle.pv_graph.specs.Graphs.{form_at}
use Rattle.pv_pattern.specs.Found.{place_in}
use Rattle.pv_pattern.specs.Seen.{listed, seen}
use Rattle.pv_pattern.proofs.names.+place.Given as goal

abbrev pub invariant-place_in-loop-pattern : goal.invariant-place_in-loop-pattern
invariant-place_in-loop-pattern l =
    place_in (form_at l.graph.nodes) l.name (listed (map seen l.patterns)) l.kids
    ≡ place_in (form_at l.graph.nodes) l.name (listed (map seen (drop l.pattern-index l.patterns))) l.rest
