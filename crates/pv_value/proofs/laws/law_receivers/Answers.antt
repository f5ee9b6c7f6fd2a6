use Rattle.pv_value.proofs.ReceiverSymbols.{receivers_apart}
use Rattle.pv_value.proofs.laws.law_receivers.Goals as goal

pub returns : goal.returns
returns c = receivers_apart
