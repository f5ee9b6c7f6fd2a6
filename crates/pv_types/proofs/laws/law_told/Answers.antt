-- Telling a fact changes its entry alone.
use Rattle.pv_types.proofs.laws.law_told.Goals as goal
use Rattle.pv_types.proofs.Telling.{is_holds, fits_holds, others_stay}

pub returns-clause-is : goal.returns-clause-is
returns-clause-is c = is_holds c.law_calls.ensures

pub returns-clause-fits : goal.returns-clause-fits
returns-clause-fits c = fits_holds c.law_calls.ensures

pub returns-clause-others : goal.returns-clause-others
returns-clause-others c = others_stay c.law_calls.ensures
