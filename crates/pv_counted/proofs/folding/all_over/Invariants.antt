use Rattle.std.proofs.Common.{◌≡◌, map, take}
use Rattle.pv_alike.specs.Keys.{number_at, over_numbers}
use Rattle.pv_counted.proofs.folding.all_over.Given as goal

abbrev pub invariant-loop-node : goal.invariant-loop-node
invariant-loop-node l = l.all.items ≡ map (over_numbers (number_at l.places)) (take l.node-index l.nodes)
