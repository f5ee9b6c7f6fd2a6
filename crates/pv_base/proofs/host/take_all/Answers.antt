use Rattle.std.proofs.Common.{arith, ◌≤◌, ◌+◌, length}
use Rattle.std.proofs.lemmas.List.{length-take}
use Rattle.pv_base.proofs.Known.{taken_more}
use Rattle.pv_base.proofs.host.take_all.Goals as goal

pub returns-in_err-extend_from_slice-clause-within : goal.returns-in_err-extend_from_slice-clause-within
returns-in_err-extend_from_slice-clause-within g c =
    let few : c.in_ok-count.count ≤ c.min-wanted.result = omega (arith, c.in_ok-count.ensures.bound.0, c.read.auto.buf, length-take c.min-wanted.result c.loop-piece.piece) in
    let most : length c.loop-piece.bytes.items + c.in_ok-count.count ≤ c.args.limit + 1 = omega (arith, c.loop-piece.bytes.ok) in
    taken_more _ _ _ _ _ c.in_ok-count.count _ c.loop-piece.invariant.taken c.in_ok-count.ensures.bytes.0 most
