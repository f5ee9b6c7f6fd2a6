use Rattle.std.proofs.Common.{refl}
use Rattle.pv_pattern.proofs.Cited.{tested}
use Rattle.pv_scalar.specs.Table.{scalar_axioms}
use Rattle.pv_scalar.proofs.laws.law_scalar_names.Goals as goal

pub returns : goal.returns
returns c = tested scalar_axioms refl
