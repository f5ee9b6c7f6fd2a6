use Rattle.std.proofs.Common.{map, take}
use Rattle.pv_saturate.specs.Decoding.{decoded_seen}
use Rattle.pv_rounds.specs.Asking.{SomeNotFree}
use Rattle.pv_rounds.proofs.asking.some_not_free.Given as goal

abbrev pub invariant-loop-m : goal.invariant-loop-m
invariant-loop-m l = SomeNotFree (map decoded_seen (take l.m-index l.list)) l.depth → ⊥
