use Rattle.std.proofs.Common.{rules}
use Rattle.std.proofs.lemmas.Int.{wraps}
use Rattle.pv_value.proofs.int.mul.Goals as goal

pub returns : goal.returns
returns c = search (rules, wraps)
