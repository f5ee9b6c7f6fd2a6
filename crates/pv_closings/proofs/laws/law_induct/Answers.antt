use Rattle.pv_closings.proofs.Inducted.{induct_joins, first_joins}
use Rattle.pv_closings.proofs.laws.law_induct.Goals as goal

pub returns-clause-joins : goal.returns-clause-joins
returns-clause-joins c = induct_joins

pub returns-clause-first : goal.returns-clause-first
returns-clause-first c = first_joins
