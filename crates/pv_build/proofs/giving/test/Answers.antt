use Rattle.std.proofs.Common.{List, length, sym, subst}
use Rattle.pv_build.proofs.Words.{Closed, loops_at, AreClosedFrom, AreSortedLoops, AreDeeper, ReadsValueOut}
use Rattle.pv_build.proofs.Regions.{are_sorted, are_deeper}
use Rattle.pv_build.proofs.Sourced.{has_tested, tested_for, int_for}
use Rattle.pv_build.proofs.giving.test.Goals as goal

pub tested_at-requires : goal.tested_at-requires
tested_at-requires c = has_tested c.args.walk.now.method.now c.requires.walk.method c.args.g.now c.args.walk.now.made.now c.args.walk.now.at c.requires.walk.stage c.args.b c.args.t c.requires.done c.requires.test

pub value_outs-requires-clause-closed : goal.value_outs-requires-clause-closed
value_outs-requires-clause-closed c =
    let closed : AreClosedFrom c.args.walk.now.method.now c.args.g.now c.args.walk.now.made.now c.args.walk.now.at c.args.b c.in_ok-left.left.items = c.in_ok-left.ensures c.args.g.now c.requires.walk.stage in
    subst (AreSortedLoops c.args.g.now) (sym c.deref.ensures.value)
    (are_sorted c.args.walk.now.method.now c.requires.walk.method c.args.g.now c.args.walk.now.made.now c.args.walk.now.at c.requires.walk.stage c.requires.walk.region c.args.b c.requires.test.0 c.in_ok-left.left.items closed)

pub value_outs-requires-clause-value : goal.value_outs-requires-clause-value
value_outs-requires-clause-value c =
    (tested_for c.args.walk.now.method.now c.requires.walk.method c.args.g.now c.args.walk.now.made.now c.args.walk.now.at c.requires.walk.stage c.args.b c.args.t c.tested_at.result c.tested_at.ensures c.requires.test).sorted

pub returns-in_err-out-clause-grows : goal.returns-in_err-out-clause-grows
returns-in_err-out-clause-grows c =
    let closed : AreClosedFrom c.args.walk.now.method.now c.args.g.now c.args.walk.now.made.now c.args.walk.now.at c.args.b c.in_ok-left.left.items = c.in_ok-left.ensures c.args.g.now c.requires.walk.stage in
    c.value_outs.ensures.grows (length (loops_at c.args.walk.now.method.now c.args.walk.now.at))
    (subst (AreDeeper (length (loops_at c.args.walk.now.method.now c.args.walk.now.at))) (sym c.deref.ensures.value)
    (are_deeper c.args.walk.now.method.now c.requires.walk.method c.args.g.now c.args.walk.now.made.now c.args.walk.now.at c.requires.walk.stage c.requires.walk.region c.args.b c.requires.test.0 c.in_ok-left.left.items closed))

pub returns-clause-test : goal.returns-clause-test
returns-clause-test c =
    let closed : AreClosedFrom c.args.walk.now.method.now c.args.g.now c.args.walk.now.made.now c.args.walk.now.at c.args.b c.in_ok-left.left.items = c.in_ok-left.ensures c.args.g.now c.requires.walk.stage in
    let tested = tested_for c.args.walk.now.method.now c.requires.walk.method c.args.g.now c.args.walk.now.made.now c.args.walk.now.at c.requires.walk.stage c.args.b c.args.t c.tested_at.result c.tested_at.ensures c.requires.test in
    int_for c.args.walk.now.method.now c.requires.walk.method c.args.g.now c.args.walk.now.made.now c.args.walk.now.at c.requires.walk.stage c.requires.walk.region c.args.b c.requires.test.0 c.in_ok-left.left.items closed c.value_outs.new.g
    c.args.t c.tested_at.result c.in_ok-out.out tested
    (subst (λ (left : List Closed). ReadsValueOut c.args.g.now left c.tested_at.result c.value_outs.new.g c.in_ok-out.out) c.deref.ensures.value c.in_ok-out.ensures.reads)
    c.in_ok-out.ensures.sort

pub returns-clause-grows : goal.returns-clause-grows
returns-clause-grows c =
    let closed : AreClosedFrom c.args.walk.now.method.now c.args.g.now c.args.walk.now.made.now c.args.walk.now.at c.args.b c.in_ok-left.left.items = c.in_ok-left.ensures c.args.g.now c.requires.walk.stage in
    c.value_outs.ensures.grows (length (loops_at c.args.walk.now.method.now c.args.walk.now.at))
    (subst (AreDeeper (length (loops_at c.args.walk.now.method.now c.args.walk.now.at))) (sym c.deref.ensures.value)
    (are_deeper c.args.walk.now.method.now c.requires.walk.method c.args.g.now c.args.walk.now.made.now c.args.walk.now.at c.requires.walk.stage c.requires.walk.region c.args.b c.requires.test.0 c.in_ok-left.left.items closed))
