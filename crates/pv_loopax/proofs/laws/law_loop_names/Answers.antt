use Rattle.std.proofs.Common.{refl}
use Rattle.pv_pattern.proofs.Cited.{tested}
use Rattle.pv_loopax.specs.Table.{loop_axioms}
use Rattle.pv_loopax.proofs.laws.law_loop_names.Goals as goal

pub returns : goal.returns
returns c = tested loop_axioms refl
