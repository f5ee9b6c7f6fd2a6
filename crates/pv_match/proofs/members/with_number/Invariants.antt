use Rattle.std.proofs.Common.{◌≡◌, drop}
use Rattle.pv_match.specs.Bindings.{with_number}
use Rattle.pv_match.proofs.members.with_number.Given as goal

abbrev pub invariant-loop-group : goal.invariant-loop-group
invariant-loop-group l = with_number l.groups l.number ≡ with_number (drop l.group-index l.groups) l.number
