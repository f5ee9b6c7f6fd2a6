use Rattle.std.proofs.Common.{◌≡◌, ◌++◌, length}
use Rattle.pv_match.proofs.gathered.listed.Given as goal

abbrev pub invariant-loop-x : goal.invariant-loop-x
invariant-loop-x l = l.list.items ++ l.rest.keys ≡ l.fn.set.keys

abbrev pub decreases-loop-x : goal.decreases-loop-x
decreases-loop-x l = length l.rest.keys
