use Rattle.std.proofs.Common.{arith, false, get_or, true}
use Rattle.std.proofs.lemmas.Option.{slice_get-get_or, slice_get_within}
use Rattle.pv_explain.proofs.Marking.{more_trans, tops_next}
use Rattle.pv_explain.proofs.needed.mark_all_up.Goals as goal

pub mark_up-requires-clause-linked : goal.mark_up-requires-clause-linked
mark_up-requires-clause-linked c =
    let tops = c.args.tops.now in
    let n = c.loop-n.n in
    let there = slice_get-get_or tops n 0 (omega (arith, c.loop-n-test.true, c.requires.tops.long)) in
    record { first = omega (arith, c.loop-n-test.true, c.requires.count); second = c.requires.tops.low n (get_or tops n 0) there; path = c.requires.tops.linked n (get_or tops n 0) there }

pub loop-n-preserved : goal.loop-n-preserved
loop-n-preserved c =
    let nodes = c.args.nodes.now in
    let tops = c.args.tops.now in
    let old = c.loop-n.needed.items in
    let new = c.mark_up.new.needed.items in
    let n = c.loop-n.n in
    let more = c.in_ok-mark_up.ensures.more in
    record {
      more = more_trans c.args.before c.args.needed.now.items old new c.loop-n.invariant.more more;
      linked =
          tops_next c.args.forest.now old new nodes tops c.args.before n (get_or tops n 0) (get_or nodes n false) more (slice_get-get_or nodes n false (omega (arith, c.loop-n-test.true, c.requires.nodes)))
          (slice_get-get_or tops n 0 (omega (arith, c.loop-n-test.true, c.requires.tops.long))) c.in_ok-mark_up.ensures.linked c.loop-n.invariant.linked;
    }

pub returns-clause-linked : goal.returns-clause-linked
returns-clause-linked c = λ n r on at. c.loop-n.invariant.linked n r (let low = slice_get_within c.args.nodes.now n true on in omega (arith, low, c.requires.nodes, c.loop-n-test.false)) on at
