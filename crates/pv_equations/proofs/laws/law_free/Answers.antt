-- The law of free depths.
use Rattle.pv_equations.proofs.Law.{free_found}
use Rattle.pv_equations.proofs.laws.law_free.Goals as goal

pub returns : goal.returns
returns c = free_found
