use Rattle.std.proofs.Common.{refl}
use Rattle.pv_pattern.proofs.Cited.{tested}
use Rattle.pv_heapax.specs.Table.{heap_axioms}
use Rattle.pv_heapax.proofs.laws.law_heap_names.Goals as goal

pub returns : goal.returns
returns c = tested heap_axioms refl
