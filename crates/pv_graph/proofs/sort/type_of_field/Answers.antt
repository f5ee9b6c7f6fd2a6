use Rattle.std.proofs.Common.{ℕ, List, MatchOption, subst}
use Rattle.pv_value.specs.Descriptors.{IsFieldType}
use Rattle.pv_value.specs.declared.descriptor.JType.{JType}
use Rattle.pv_graph.proofs.SortSteps.{field_read}
use Rattle.pv_graph.proofs.sort.type_of_field.Goals as goal

pub returns : goal.returns
returns c = field_read c.args.sym.now.desc c.read_field_type.result (subst (λ (text : List ℕ). MatchOption c.read_field_type.result ((t : JType) → IsFieldType text t → ⊥) (λ t. IsFieldType text t)) c.bytes.ensures c.read_field_type.ensures)
