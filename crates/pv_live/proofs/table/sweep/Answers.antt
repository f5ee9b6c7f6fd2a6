use Rattle.std.proofs.Common.{◌≡◌, ◌-◌, suc, false, subst, arith}
use Rattle.pv_live.specs.Marks.{IsDone, Visited}
use Rattle.pv_live.proofs.Tables.{done_more, fewer_more, swept}
use Rattle.pv_live.proofs.table.sweep.Goals as goal

pub loop-place-preserved : goal.loop-place-preserved
loop-place-preserved c =
    let place = c.loop-place.place in
    let one : place ≡ suc (place - 1) = omega (arith, c.loop-place-test.true) in
    let same : Visited c.args.program.now (place - 1) c.loop-place.rows.items c.mark_at.new.rows.items false =
    subst (Visited c.args.program.now (place - 1) c.loop-place.rows.items c.mark_at.new.rows.items) c.if-branch.false c.in_ok-mark_at.ensures.visited in
    let less = fewer_more c.args.program.now (place - 1) c.loop-place.rows.items c.mark_at.new.rows.items false same in
    record {
      low = omega (arith, c.loop-place.invariant.low);
      table = c.in_ok-mark_at.ensures.table;
      fewer = omega (arith, less, c.loop-place.invariant.fewer);
      done = λ e. done_more c.args.program.now c.loop-place.rows.items c.mark_at.new.rows.items place (place - 1) one same (c.loop-place.invariant.done e);
    }

pub returns-clause-swept : goal.returns-clause-swept
returns-clause-swept c =
    let zero : c.loop-place.place ≡ 0 = omega (arith, c.loop-place-test.false) in
    swept c.args.program.now c.args.rows.now.items c.loop-place.rows.items c.loop-place.marked c.loop-place.invariant.fewer (λ e. subst (IsDone c.args.program.now c.loop-place.rows.items) zero (c.loop-place.invariant.done e))
