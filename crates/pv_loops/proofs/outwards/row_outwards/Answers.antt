use Rattle.std.proofs.Common.{ℕ, ◌+◌, List, length, refl, sym, subst}
use Rattle.pv_loops.proofs.Words.{slice_get_past, slice_get_read}
use Rattle.pv_loops.proofs.Leading.{Walked, starts, ends_none, ends_past, ends_deep, goes}
use Rattle.pv_loops.proofs.outwards.row_outwards.Goals as goal

pub loop-init : goal.loop-init
loop-init c = subst (λ (row : List ℕ). Walked c.args.loops.now c.args.home 0 row c.args.home) (sym c.new-row.ensures.items) (starts c.args.loops.now c.args.home)

pub returns-in_default : goal.returns-in_default
returns-in_default c = ends_none c.args.loops.now c.args.home c.loop.counter c.loop.row.items c.loop.at c.loop.invariant c.in_default.is

pub returns-in_default-get : goal.returns-in_default-get
returns-in_default-get c =
    ends_past c.args.loops.now c.args.home c.loop.counter c.loop.row.items c.loop.at c.loop.invariant c.in-Some.i c.in-Some.is (slice_get_past c.args.loops.now c.in-Some.i c.in_default-get.ensures.lookup.3)

pub loop-preserved : goal.loop-preserved
loop-preserved c =
    subst (λ (row : List ℕ). Walked c.args.loops.now c.args.home (c.loop.counter + 1) row c.in-Some-get.next.now.parent) (sym c.in_ok-push.ensures.items)
    (goes c.args.loops.now c.args.home c.loop.counter c.loop.row.items c.loop.at c.loop.invariant c.in-Some.i c.in-Some-get.next.now c.loop-test.true c.in-Some.is (let found = c.in-Some-get.ensures.lookup in slice_get_read c.args.loops.now (length c.args.loops.now) c.in-Some.i c.in-Some-get.next.now refl found.3.0 found.1))

pub returns : goal.returns
returns c = ends_deep c.args.loops.now c.args.home c.loop.counter c.loop.row.items c.loop.at c.loop.invariant c.loop-test.false
