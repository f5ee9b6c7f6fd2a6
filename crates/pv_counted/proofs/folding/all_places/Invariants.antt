use Rattle.std.proofs.Common.{◌≡◌, map, take}
use Rattle.pv_alike.specs.Keys.{number_at}
use Rattle.pv_counted.proofs.folding.all_places.Given as goal

abbrev pub invariant-loop-k : goal.invariant-loop-k
invariant-loop-k l = l.found.items ≡ map (number_at l.places) (take l.k-index l.nodes)
