use Rattle.std.proofs.Common.{ℤ, subst, w32, [], ◌∷◌, Some, sym, ◌∙◌}
use Rattle.pv_machine.proofs.Words.{to_z-of_z, Accesses}
use Rattle.pv_value.specs.declared.number.Num.TheVariants as num
use Rattle.pv_frame.specs.declared.action.Action.TheVariants as act
use Rattle.pv_machine.proofs.Accessing.{stores}
use Rattle.pv_machine.proofs.access.store_element.Goals as goal

pub returns : goal.returns
returns c =
    let w = c.args.world.now in
    let same = to_z-of_z w32 c.in_ok-array.index c.in_ok-array.ensures.range in
    let accesses = subst (λ (i : ℤ). Accesses w (act.StoreElement c.args.kind) (num.Ref c.in_ok-array.array ∷ num.Int i ∷ c.in_ok-array.n ∷ []) (Some c.write_element.result)) same c.write_element.ensures in
    stores w c.args.kind c.args.operands.now (c.in_ok-array.array, c.in_ok-array.index, c.in_ok-array.n) (Some c.write_element.result) (sym c.element_and_number.ensures.element ∙ c.in_ok-array.was) accesses
