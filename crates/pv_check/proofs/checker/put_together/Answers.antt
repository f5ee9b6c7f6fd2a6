use Rattle.std.proofs.Common.{rules, ◌≡◌, length, Ok, subst}
use Rattle.std.specs.Prelude.{None, Some, slice_index_or}
use Rattle.pv_check.specs.Checking.{NoneBefore}
use Rattle.pv_check.proofs.checker.put_together.Goals as goal

pub returns-in-Some : goal.returns-in-Some
returns-in-Some c =
    let here : slice_index_or c.args.parts.now c.loop-part.part-index (Ok None) ≡ Ok (Some c.in-Some.number) = search rules in
    (c.loop-part.part-index, c.loop-part-test.true, c.loop-part.invariant, here)

pub returns : goal.returns
returns c =
    let end : c.loop-part.part-index ≡ length c.args.parts.now = search rules in
    subst (NoneBefore c.args.parts.now) end c.loop-part.invariant
