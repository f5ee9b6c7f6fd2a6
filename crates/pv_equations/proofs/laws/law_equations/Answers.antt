-- The law of the solution.
use Rattle.pv_equations.proofs.Law.{solvable, unique}
use Rattle.pv_equations.proofs.laws.law_equations.Goals as goal

pub returns : goal.returns
returns c = record {
  solvable = solvable;
  unique = unique;
}
