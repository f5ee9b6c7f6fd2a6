use Rattle.std.proofs.Common.{ℤ, subst, w32, [], ◌∷◌, sym, ◌∙◌}
use Rattle.pv_machine.proofs.Words.{to_z-of_z, Reads}
use Rattle.pv_value.specs.declared.number.Num.TheVariants as num
use Rattle.pv_frame.specs.declared.action.Action.TheVariants as act
use Rattle.pv_machine.proofs.Accessing.{loads}
use Rattle.pv_machine.proofs.access.load_element.Goals as goal

pub returns-clause-reads : goal.returns-clause-reads
returns-clause-reads c =
    let w = c.args.world.now in
    let same = to_z-of_z w32 c.in_ok-array.index c.in_ok-array.ensures.range in
    let reads = subst (λ (i : ℤ). Reads w c.args.heap.now (act.LoadElement c.args.kind) (num.Ref c.in_ok-array.array ∷ num.Int i ∷ []) c.read_element.result) same c.read_element.ensures.reads in
    loads w c.args.heap.now c.args.kind c.args.operands.now (c.in_ok-array.array, c.in_ok-array.index) c.read_element.result (sym c.element.ensures.element ∙ c.in_ok-array.was) reads
