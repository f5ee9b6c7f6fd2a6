use Rattle.pv_asm.proofs.Together.{methods_have_class}
use Rattle.pv_asm.proofs.laws.law_methods.Goals as goal

pub returns : goal.returns
returns c = methods_have_class
