use Rattle.std.proofs.Common.{map, take}
use Rattle.pv_saturate.specs.Decoding.{decoded_seen}
use Rattle.pv_rounds.specs.Standing.{AllStand}
use Rattle.pv_rounds.proofs.standing.all_stand.Given as goal

abbrev pub invariant-loop-m : goal.invariant-loop-m
invariant-loop-m l = AllStand l.graph l.classes.numbers (map decoded_seen (take l.m-index l.list))
