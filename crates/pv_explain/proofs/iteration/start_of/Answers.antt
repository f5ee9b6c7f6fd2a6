use Rattle.pv_steps.specs.Steps.{assumed_in}
use Rattle.pv_writer.specs.Written.{inside}
use Rattle.pv_writer.proofs.Pushing.{goes_trans}
use Rattle.pv_explain.proofs.Iterating.{first_eval, first_zero_nodes, start_instance, start_is, theta_eval, theta_later, theta_zero_nodes, zero_later}
use Rattle.pv_explain.proofs.iteration.start_of.Goals as goal

pub eval_node-requires-clause-kids : goal.eval_node-requires-clause-kids
eval_node-requires-clause-kids c = theta_zero_nodes c.args.writer.now c.args.depth c.args.x c.args.a c.args.b c.args.zero c.requires.theta c.requires.zero

pub eval_node-requires-clause-fits : goal.eval_node-requires-clause-fits
eval_node-requires-clause-fits c = theta_eval c.args.writer.now c.args.depth c.args.x c.args.a c.args.b c.args.zero c.requires.theta c.requires.zero

pub eval_node-requires-2-clause-kids : goal.eval_node-requires-2-clause-kids
eval_node-requires-2-clause-kids c =
    let later = c.in_ok-left.ensures.goes.later in
    first_zero_nodes c.eval_node.new.writer c.args.depth c.args.x c.args.a c.args.b c.args.zero (theta_later c.args.writer.now c.eval_node.new.writer c.args.depth c.args.x c.args.a c.args.b later c.requires.theta)
    (zero_later c.args.writer.now c.eval_node.new.writer c.args.zero later c.requires.zero)

pub eval_node-requires-2-clause-fits : goal.eval_node-requires-2-clause-fits
eval_node-requires-2-clause-fits c =
    let later = c.in_ok-left.ensures.goes.later in
    first_eval c.eval_node.new.writer c.args.depth c.args.x c.args.a c.args.b c.args.zero (theta_later c.args.writer.now c.eval_node.new.writer c.args.depth c.args.x c.args.a c.args.b later c.requires.theta)
    (zero_later c.args.writer.now c.eval_node.new.writer c.args.zero later c.requires.zero)

pub axiom_over-requires : goal.axiom_over-requires
axiom_over-requires c =
    start_instance c.args.writer.now c.eval_node.new.writer c.eval_node-2.new.writer (assumed_in (inside c.eval_node-2.new.writer)) c.args.depth c.args.zero c.args.x c.args.a c.args.b c.in_ok-left.left c.in_ok-right.right c.requires.theta c.requires.zero
    c.in_ok-left.ensures c.in_ok-right.ensures

pub returns-clause-start : goal.returns-clause-start
returns-clause-start c =
    start_is c.args.writer.now c.eval_node.new.writer c.eval_node-2.new.writer c.axiom_over.new.writer c.args.depth c.args.zero c.args.x c.args.a c.in_ok-left.left c.in_ok-right.right c.in_ok-fact.fact c.requires.zero c.in_ok-left.ensures c.in_ok-right.ensures
    c.in_ok-fact.ensures

pub returns-clause-goes : goal.returns-clause-goes
returns-clause-goes c =
    goes_trans c.args.writer.now c.eval_node-2.new.writer c.axiom_over.new.writer (goes_trans c.args.writer.now c.eval_node.new.writer c.eval_node-2.new.writer c.in_ok-left.ensures.goes c.in_ok-right.ensures.goes) c.in_ok-fact.ensures.goes
