use Rattle.std.proofs.Common.{ap, ◌∙◌, Option}
use Rattle.pv_value.specs.Spelled.{bind}
use Rattle.pv_value.specs.declared.descriptor.Descriptor.{Descriptor}
use Rattle.pv_denote.proofs.Readings.{method_is}
use Rattle.pv_denote.proofs.call_ops.result_type.Goals as goal

pub returns-in_default : goal.returns-in_default
returns-in_default c = ap (λ (o : Option Descriptor). bind o (λ d. d.result)) (method_is _ _ c.in_ok-d.field-0 c.bytes.ensures c.in_ok-d.ensures ∙ c.in_default.is)

pub returns-in-Some-result : goal.returns-in-Some-result
returns-in-Some-result c = ap (λ (o : Option Descriptor). bind o (λ d. d.result)) (method_is _ _ c.in_ok-d.field-0 c.bytes.ensures c.in_ok-d.ensures ∙ c.in-Some.is) ∙ c.in-Some-result.is

pub returns : goal.returns
returns c = ap (λ (o : Option Descriptor). bind o (λ d. d.result)) (method_is _ _ c.in_ok-d.field-0 c.bytes.ensures c.in_ok-d.ensures ∙ c.in-Some.is) ∙ c.in-None.is
