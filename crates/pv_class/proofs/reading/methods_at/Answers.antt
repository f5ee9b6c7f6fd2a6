use Rattle.std.proofs.Common.{arith}
use Rattle.pv_format.proofs.Cited.{steps}
use Rattle.pv_class.proofs.Loops.{read_methods}
use Rattle.pv_class.proofs.reading.methods_at.Goals as goal

pub returns-in_err-method : goal.returns-in_err-method
returns-in_err-method c = grind (arith, steps, read_methods)
