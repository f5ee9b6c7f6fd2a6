use Rattle.std.proofs.Common.{ℕ, List, [], Option, ap, subst, ◌∙◌}
use Rattle.pv_build.proofs.Words.{I, HasSort, Over, NoExp, dest_of, leaving, Named, Reads, header_list}
use Rattle.pv_build.proofs.Sourced.{has_exit, leave_for}
use Rattle.pv_build.proofs.giving.leave_leaf.Goals as goal

pub exit_of-requires : goal.exit_of-requires
exit_of-requires c = has_exit c.args.walk.now.method.now c.requires.walk.method c.args.walk.now.at c.args.b c.args.e c.requires.exit

pub over-requires-clause-graph : goal.over-requires-clause-graph
over-requires-clause-graph c = c.requires.walk.stage.well.graph

pub over-requires-clause-fits : goal.over-requires-clause-fits
over-requires-clause-fits c = (I, record { sorts = []; kids_have = tt; over = c.left_op-op.ensures.int })

pub returns-clause-leaf : goal.returns-clause-leaf
returns-clause-leaf c =
    let sorted : HasSort c.args.g.now.sorts c.left_op-op.result [] I = record { sorts = []; kids_have = tt; over = c.left_op-op.ensures.int } in
    let over : (names : List Named) → Reads c.over.new.g.nodes names c.in_ok-n.n (Over c.left_op-op.result NoExp) = λ names. c.in_ok-n.ensures.reads names NoExp tt in
    leave_for c.args.walk.now.method.now c.requires.walk.method c.args.walk.now.at c.requires.walk.region c.over.new.g c.args.b c.args.e c.exit_of.result c.in_ok-n.n c.exit_of.ensures
    (c.in_ok-n.ensures.sort I sorted)
    (λ names. subst (Reads c.over.new.g.nodes names c.in_ok-n.n)
    (c.left_op-op.ensures.reads ∙ ap (λ (h : Option ℕ). leaving (dest_of c.exit_of.result) (header_list h)) c.header_of.ensures)
    (over names))
