use Rattle.std.proofs.Common.{◌≤◌, length}
use Rattle.pv_match.specs.Gathering.{IsGathering}
use Rattle.pv_match.proofs.together.gather.Given as goal

abbrev pub invariant-loop-x : goal.invariant-loop-x
invariant-loop-x l = record { few : length l.set.keys ≤ l.limit; gathering : IsGathering l.fn.set.keys l.fn.more.items l.set.keys l.rest.items }

abbrev pub decreases-loop-x : goal.decreases-loop-x
decreases-loop-x l = length l.rest.items
