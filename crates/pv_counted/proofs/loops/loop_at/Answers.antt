use Rattle.std.proofs.Common.{rules, ℕ, List, subst, arith, slice_index_or}
use Rattle.pv_graph.specs.declared.node.Op.TheVariants as op
use Rattle.pv_counted.specs.Recognized.{IsOver}
use Rattle.pv_counted.proofs.Recognizing.{loop_through, match_same, one_kid}
use Rattle.pv_counted.proofs.Shapes.{kid_low}
use Rattle.pv_counted.proofs.loops.loop_at.Goals as goal

pub start_and_bound-requires-clause-there : goal.start_and_bound-requires-clause-there
start_and_bound-requires-clause-there c = kid_low c.args.g.now c.args.p 0 (op.Pass c.args.depth) c.in-Some-len1.field-0.now c.requires.graph (search rules) (search rules)

pub returns-in-Some-len1 : goal.returns-in-Some-len1
returns-in-Some-len1 c =
    let ks = c.in-Some-len1.field-0.now in
    let whole : IsOver c.args.g.now c.args.p (op.Pass c.args.depth) ks = search rules in
    let e = subst (λ (zs : List ℕ). IsOver c.args.g.now c.args.p (op.Pass c.args.depth) zs) (one_kid ks (omega (arith, c.in-Some-len1.len_at_least, c.in-Some-len1.len_below))) whole in
    match_same c.start_and_bound.result _ _ _ _ c.start_and_bound.ensures
    (λ none start bound l. none start bound (loop_through c.args.g.now c.args.p c.args.depth start bound (slice_index_or ks 0 0) e l))
    (λ r t. (slice_index_or ks 0 0, e, t))
