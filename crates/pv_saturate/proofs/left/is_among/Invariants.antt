use Rattle.std.proofs.Common.{◌≡◌, drop}
use Rattle.pv_match.specs.Parameters.{is_among}
use Rattle.pv_saturate.proofs.left.is_among.Given as goal

abbrev pub invariant-loop-other : goal.invariant-loop-other
invariant-loop-other l = is_among (drop l.other-index l.known) l.name ≡ is_among l.known l.name
