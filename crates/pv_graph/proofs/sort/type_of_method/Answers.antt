use Rattle.std.proofs.Common.{◌≡◌, ℕ, List, MatchOption, Option, Result, Ok, Err, IfOk, subst}
use Rattle.pv_value.specs.Descriptors.{IsMethodType}
use Rattle.pv_value.specs.Spelled.{method_type}
use Rattle.pv_value.specs.declared.descriptor.Descriptor.{Descriptor}
use Rattle.pv_value.specs.declared.memory.Memory.{Memory}
use Rattle.pv_graph.proofs.SortSteps.{method_read}
use Rattle.pv_graph.proofs.sort.type_of_method.Goals as goal

read : (text : List ℕ) (r : Result (Option Descriptor) Memory) → IfOk r (λ found. MatchOption found ((d : Descriptor) → IsMethodType text d → ⊥) (λ d. IsMethodType text d)) → IfOk r (λ found. found ≡ method_type text)
read text (Ok found) h = method_read text found h
read text (Err e) h = tt

pub returns : goal.returns
returns c =
    read c.args.sym.now.desc c.read_descriptor.result
    (subst (λ (text : List ℕ). IfOk c.read_descriptor.result (λ found. MatchOption found ((d : Descriptor) → IsMethodType text d → ⊥) (λ d. IsMethodType text d))) c.bytes.ensures c.read_descriptor.ensures)
