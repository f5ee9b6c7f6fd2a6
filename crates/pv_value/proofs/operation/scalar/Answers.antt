use Rattle.std.proofs.Common.{subst, sym, ◌∙◌, w64}
use Rattle.std.proofs.lemmas.Int.{to_z-of_z}
use Rattle.pv_value.specs.Operations.{gives, IsOfWord}
use Rattle.pv_value.proofs.OperationLaws.{scalar_fits}
use Rattle.pv_value.proofs.operation.scalar.Goals as goal

pub returns-clause-range : goal.returns-clause-range
returns-clause-range c =
    let is = to_z-of_z w64 c.value.result (record { sfits = c.value.type_inv }) ∙ c.value.ensures in
    subst (IsOfWord (gives c.args.op)) (sym is) (scalar_fits c.args.op _ _)
