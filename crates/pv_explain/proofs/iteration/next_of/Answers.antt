use Rattle.pv_steps.specs.Steps.{assumed_in}
use Rattle.pv_writer.specs.Written.{inside}
use Rattle.pv_writer.proofs.Pushing.{goes_trans}
use Rattle.pv_explain.proofs.Iterating.{later_instance, next_is, theta_nodes, theta_shift}
use Rattle.pv_explain.proofs.iteration.next_of.Goals as goal

pub shift_node-requires-clause-kids : goal.shift_node-requires-clause-kids
shift_node-requires-clause-kids c = theta_nodes c.args.writer.now c.args.depth c.args.x c.args.a c.args.b c.requires

pub shift_node-requires-clause-fits : goal.shift_node-requires-clause-fits
shift_node-requires-clause-fits c = theta_shift c.args.writer.now c.args.depth c.args.x c.args.a c.args.b c.requires

pub axiom_over-requires : goal.axiom_over-requires
axiom_over-requires c = later_instance c.args.writer.now c.shift_node.new.writer (assumed_in (inside c.shift_node.new.writer)) c.args.depth c.args.x c.args.a c.args.b c.in_ok-left.left c.requires c.in_ok-left.ensures

pub returns-clause-next : goal.returns-clause-next
returns-clause-next c = next_is c.args.writer.now c.shift_node.new.writer c.axiom_over.new.writer c.args.depth c.args.x c.args.b c.in_ok-left.left c.in_ok-fact.fact c.in_ok-left.ensures c.in_ok-fact.ensures

pub returns-clause-goes : goal.returns-clause-goes
returns-clause-goes c = goes_trans c.args.writer.now c.shift_node.new.writer c.axiom_over.new.writer c.in_ok-left.ensures.goes c.in_ok-fact.ensures.goes
