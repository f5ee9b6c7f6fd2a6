use Rattle.std.proofs.Common.{ℕ, ◌≤◌, map, take}
use Rattle.pv_saturate.specs.Decoding.{decoded_seen}
use Rattle.pv_rounds.specs.Asking.{SomeNotFree}
use Rattle.pv_rounds.proofs.asking.deepest.Given as goal

abbrev pub invariant-loop-m : goal.invariant-loop-m
invariant-loop-m l = (d : ℕ) → SomeNotFree (map decoded_seen (take l.m-index l.list)) d → d ≤ l.most
