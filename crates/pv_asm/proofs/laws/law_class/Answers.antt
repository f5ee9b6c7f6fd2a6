use Rattle.pv_asm.proofs.Described.{listing_is_class}
use Rattle.pv_asm.proofs.laws.law_class.Goals as goal

pub returns : goal.returns
returns c = listing_is_class
