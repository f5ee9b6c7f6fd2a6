use Rattle.std.proofs.Common.{◌-◌, length, vec_len}
use Rattle.pv_counted.specs.Rounds.{IsFound}
use Rattle.pv_counted.proofs.rounds.rounds.Given as goal

abbrev pub invariant-loop-found : goal.invariant-loop-found
invariant-loop-found l = IsFound l.g.nodes l.found.items

abbrev pub decreases-loop-found : goal.decreases-loop-found
decreases-loop-found l = length l.loops - vec_len l.found
