use Rattle.pv_loops.proofs.Bodies.{outermost_bodies, inner_bodies}
use Rattle.pv_loops.proofs.law_bodies.Goals as goal

pub returns-clause-outermost : goal.returns-clause-outermost
returns-clause-outermost c = outermost_bodies

pub returns-clause-inner : goal.returns-clause-inner
returns-clause-inner c = inner_bodies
