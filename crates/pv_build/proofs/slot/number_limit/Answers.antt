use Rattle.std.proofs.Common.{ℕ, ◌+◌, ◌*◌, ◌<◌, ◌≤◌, length, ap, arith}
use Rattle.pv_build.proofs.Words.{slice_get_within, State}
use Rattle.pv_build.specs.declared.slot.Part.TheVariants as part
use Rattle.pv_build.proofs.Numbers.{number_below}
use Rattle.pv_build.proofs.Cells.{by_slot}
use Rattle.pv_build.proofs.slot.number_limit.Goals as goal

pub returns : goal.returns
returns c =
    let x : State = c.args.state.now in
    let most : ℕ = c.max-most.result in
    let few : length x.locals ≤ most = (let e = ap length c.as_slice.ensures in omega (arith, e, c.max-most.ensures)) in
    let many : length x.stack ≤ most = (let e = ap length c.as_slice-2.ensures in omega (arith, e, c.max-most.ensures)) in
    by_slot x (λ s n. s < 4 + 2 * most) (omega arith) (omega arith)
    (λ i d at known. number_below part.Locals (length x.locals) i most (slice_get_within x.locals i d at) few)
    (λ i d at known. number_below part.Stack (length x.stack) i most (slice_get_within x.stack i d at) many)
