use Rattle.std.proofs.Common.{◌↔◌, ◌⊎◌, [], ℕ, slice_index_or, take}
use Rattle.std.specs.List.{Contains}
use Rattle.pv_classes.proofs.congruence.wake.Given as goal

abbrev pub invariant-loop-k : goal.invariant-loop-k
invariant-loop-k l = (n : ℕ) → Contains l.waiting.items n ↔ (Contains l.initial.waiting.items n ⊎ ((k : ℕ) × Contains (take l.k-index l.moved) k × Contains (slice_index_or l.parents k []) n))
