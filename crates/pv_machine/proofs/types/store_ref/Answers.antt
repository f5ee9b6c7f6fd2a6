use Rattle.std.proofs.Common.{ℤ, subst, w32, [], ◌∷◌, Some, sym, ◌∙◌}
use Rattle.pv_machine.proofs.Words.{to_z-of_z, Asks}
use Rattle.pv_value.specs.declared.number.Num.TheVariants as num
use Rattle.pv_frame.specs.declared.action.Action.TheVariants as act
use Rattle.pv_machine.proofs.Accessing.{refs}
use Rattle.pv_machine.proofs.types.store_ref.Goals as goal

pub returns : goal.returns
returns c =
    let w = c.args.world.now in
    let start = c.args.start.now in
    let same = to_z-of_z w32 c.in-Some.index c.in-Some.ensures.range in
    let asks =
    subst (λ (i : ℤ). Asks w start act.StoreRef (num.Ref c.in-Some.array ∷ num.Int i ∷ num.Ref c.in-Some.value ∷ []) (Some c.in_ok-store.field-0)) same c.in_ok-store.ensures in
    refs w start c.args.operands.now (c.in-Some.array, c.in-Some.index, c.in-Some.value) (Some c.in_ok-store.field-0) (sym c.element_and_ref.ensures.element ∙ c.in-Some.is) asks
