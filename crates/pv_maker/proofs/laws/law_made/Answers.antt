use Rattle.pv_maker.proofs.Made.{each_is_made}
use Rattle.pv_maker.proofs.laws.law_made.Goals as goal

pub returns : goal.returns
returns c = each_is_made
