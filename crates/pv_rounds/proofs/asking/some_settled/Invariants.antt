use Rattle.std.proofs.Common.{map, take}
use Rattle.pv_saturate.specs.Decoding.{decoded_seen}
use Rattle.pv_rounds.specs.Asking.{SomeSettled}
use Rattle.pv_rounds.proofs.asking.some_settled.Given as goal

abbrev pub invariant-loop-m : goal.invariant-loop-m
invariant-loop-m l = SomeSettled (map decoded_seen (take l.m-index l.list)) → ⊥
