use Rattle.std.proofs.Common.{List, length, sym, subst}
use Rattle.pv_build.proofs.Words.{Closed, loops_at, AreClosedFrom, AreSortedLoops, AreDeeper, ReadsOutOfAll}
use Rattle.pv_build.proofs.Regions.{are_sorted, are_deeper}
use Rattle.pv_build.proofs.Sourced.{has_left, left_for, leaf_for}
use Rattle.pv_build.proofs.giving.exit_leaf.Goals as goal

pub left_at-requires : goal.left_at-requires
left_at-requires c = has_left c.args.walk.now.method.now c.requires.walk.method c.args.g.now c.args.walk.now.made.now c.args.walk.now.at c.requires.walk.stage c.args.b c.args.e c.requires.done c.requires.exit

pub exit_outs-requires-clause-closed : goal.exit_outs-requires-clause-closed
exit_outs-requires-clause-closed c =
    let closed : AreClosedFrom c.args.walk.now.method.now c.args.g.now c.args.walk.now.made.now c.args.walk.now.at c.args.b c.in_ok-left.left.items = c.in_ok-left.ensures c.args.g.now c.requires.walk.stage in
    subst (AreSortedLoops c.args.g.now) (sym c.deref.ensures.value)
    (are_sorted c.args.walk.now.method.now c.requires.walk.method c.args.g.now c.args.walk.now.made.now c.args.walk.now.at c.requires.walk.stage c.requires.walk.region c.args.b c.requires.exit.0 c.in_ok-left.left.items closed)

pub exit_outs-requires-clause-sorted : goal.exit_outs-requires-clause-sorted
exit_outs-requires-clause-sorted c =
    (left_for c.args.walk.now.method.now c.requires.walk.method c.args.g.now c.args.walk.now.made.now c.args.walk.now.at c.requires.walk.stage c.args.b c.args.e c.left_at.result.now c.left_at.ensures c.requires.exit).sorted

pub returns-in_err-out-clause-grows : goal.returns-in_err-out-clause-grows
returns-in_err-out-clause-grows c =
    let closed : AreClosedFrom c.args.walk.now.method.now c.args.g.now c.args.walk.now.made.now c.args.walk.now.at c.args.b c.in_ok-left.left.items = c.in_ok-left.ensures c.args.g.now c.requires.walk.stage in
    c.exit_outs.ensures.grows (length (loops_at c.args.walk.now.method.now c.args.walk.now.at))
    (subst (AreDeeper (length (loops_at c.args.walk.now.method.now c.args.walk.now.at))) (sym c.deref.ensures.value)
    (are_deeper c.args.walk.now.method.now c.requires.walk.method c.args.g.now c.args.walk.now.made.now c.args.walk.now.at c.requires.walk.stage c.requires.walk.region c.args.b c.requires.exit.0 c.in_ok-left.left.items closed))

pub returns-clause-leaf : goal.returns-clause-leaf
returns-clause-leaf c =
    let closed : AreClosedFrom c.args.walk.now.method.now c.args.g.now c.args.walk.now.made.now c.args.walk.now.at c.args.b c.in_ok-left.left.items = c.in_ok-left.ensures c.args.g.now c.requires.walk.stage in
    let left = left_for c.args.walk.now.method.now c.requires.walk.method c.args.g.now c.args.walk.now.made.now c.args.walk.now.at c.requires.walk.stage c.args.b c.args.e c.left_at.result.now c.left_at.ensures c.requires.exit in
    leaf_for c.args.walk.now.method.now c.requires.walk.method c.args.g.now c.args.walk.now.made.now c.args.walk.now.at c.requires.walk.stage c.requires.walk.region c.args.b c.requires.exit.0 c.in_ok-left.left.items closed c.exit_outs.new.g
    c.args.e c.left_at.result.now c.in_ok-out.out left
    (subst (λ (xs : List Closed). ReadsOutOfAll c.args.g.now xs c.left_at.result.now c.exit_outs.new.g c.in_ok-out.out) c.deref.ensures.value c.in_ok-out.ensures.reads)
    c.in_ok-out.ensures.sorted c.in_ok-out.ensures.dest c.args.walk.now.target c.requires.aimed c.requires.other

pub returns-clause-grows : goal.returns-clause-grows
returns-clause-grows c =
    let closed : AreClosedFrom c.args.walk.now.method.now c.args.g.now c.args.walk.now.made.now c.args.walk.now.at c.args.b c.in_ok-left.left.items = c.in_ok-left.ensures c.args.g.now c.requires.walk.stage in
    c.exit_outs.ensures.grows (length (loops_at c.args.walk.now.method.now c.args.walk.now.at))
    (subst (AreDeeper (length (loops_at c.args.walk.now.method.now c.args.walk.now.at))) (sym c.deref.ensures.value)
    (are_deeper c.args.walk.now.method.now c.requires.walk.method c.args.g.now c.args.walk.now.made.now c.args.walk.now.at c.requires.walk.stage c.requires.walk.region c.args.b c.requires.exit.0 c.in_ok-left.left.items closed))
