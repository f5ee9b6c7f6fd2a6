use Rattle.std.proofs.Common.{◌+◌, List, get_or, sym, subst}
use Rattle.std.proofs.lemmas.Option.{slice_get-get_or}
use Rattle.pv_build.specs.declared.method.Closed.{Closed}
use Rattle.pv_build.proofs.Climbing.{Climbed, home_done, begins, at_end, at_region, closed_there, climbs, same_at, other_at}
use Rattle.pv_build.proofs.giving.closed_from.Goals as goal

pub around-row-requires : goal.around-row-requires
around-row-requires c = home_done c.args.method.now c.requires.method c.args.made.now c.args.at c.requires.region c.args.b c.requires.stage.0 c.requires.stage.1 c.requires.done

pub loop-i-init : goal.loop-i-init
loop-i-init c = subst (λ (xs : List Closed). Climbed c.args.method.now c.args.made.now c.args.at c.args.b 0 xs) (sym c.new-left.ensures.items) (begins c.args.method.now c.requires.method c.args.made.now c.args.at c.requires.region c.args.b c.requires.inside)

pub returns-then-eq : goal.returns-then-eq
returns-then-eq c = at_region c.args.method.now c.requires.method c.args.made.now c.args.at c.requires.region c.args.b c.around-row.result.now c.around-row.ensures.headers c.around-row.ensures.within c.loop-i.i-index c.loop-i.left.items c.loop-i.invariant
    (get_or c.around-row.result.now c.loop-i.i-index 0) (slice_get-get_or c.around-row.result.now c.loop-i.i-index 0 c.loop-i-test.true) (same_at c.args.at (get_or c.around-row.result.now c.loop-i.i-index 0) (sym c.if-eq.ensures))

pub closed_at-requires : goal.closed_at-requires
closed_at-requires c = closed_there c.args.method.now c.requires.method c.args.made.now c.args.at c.requires.region c.args.b c.around-row.result.now c.around-row.ensures.headers c.around-row.ensures.within c.loop-i.i-index c.loop-i.left.items c.loop-i.invariant
    (get_or c.around-row.result.now c.loop-i.i-index 0) (slice_get-get_or c.around-row.result.now c.loop-i.i-index 0 c.loop-i-test.true) (other_at c.args.at (get_or c.around-row.result.now c.loop-i.i-index 0) (sym c.if-eq.ensures)) c.requires.stage.0 c.requires.stage.1 c.requires.done

pub loop-i-preserved : goal.loop-i-preserved
loop-i-preserved c =
    subst (λ (xs : List Closed). Climbed c.args.method.now c.args.made.now c.args.at c.args.b (c.loop-i.i-index + 1) xs) (sym c.in_ok-push.ensures.items)
    (climbs c.args.method.now c.requires.method c.args.made.now c.args.at c.requires.region c.args.b c.around-row.result.now c.around-row.ensures.headers c.around-row.ensures.within c.loop-i.i-index c.loop-i.left.items c.loop-i.invariant
    (get_or c.around-row.result.now c.loop-i.i-index 0) (slice_get-get_or c.around-row.result.now c.loop-i.i-index 0 c.loop-i-test.true) (other_at c.args.at (get_or c.around-row.result.now c.loop-i.i-index 0) (sym c.if-eq.ensures)) c.closed_at.result c.closed_at.ensures)

pub returns : goal.returns
returns c = at_end c.args.method.now c.requires.method c.args.made.now c.args.at c.requires.region c.args.b c.around-row.result.now c.around-row.ensures.headers c.around-row.ensures.within c.loop-i.i-index c.loop-i.left.items c.loop-i.invariant c.loop-i-test.false
