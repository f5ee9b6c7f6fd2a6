use Rattle.pv_value.proofs.Fitting.{fits_input}
use Rattle.pv_value.proofs.laws.law_inputs.Goals as goal

pub returns : goal.returns
returns c = fits_input
