use Rattle.std.proofs.Common.{refl}
use Rattle.pv_writer.proofs.Pushing.{fact_goes, goes_trans}
use Rattle.pv_explain.proofs.induction.next_facts.Goals as goal

pub kid_reason-requires-clause-linked : goal.kid_reason-requires-clause-linked
kid_reason-requires-clause-linked c = c.requires.pair.linked

pub meet-requires-clause-left : goal.meet-requires-clause-left
meet-requires-clause-left c = let e = c.args.b.now.left.next in fact_goes c.args.writer.now c.kid_reason.new.writer e.fact e.left e.right c.in_ok-why.ensures.goes c.requires.pair.left_known

pub meet-requires-clause-right : goal.meet-requires-clause-right
meet-requires-clause-right c = let e = c.args.b.now.right.next in fact_goes c.args.writer.now c.kid_reason.new.writer e.fact e.left e.right c.in_ok-why.ensures.goes c.requires.pair.right_known

pub meet-requires-clause-why : goal.meet-requires-clause-why
meet-requires-clause-why c = c.in_ok-why.ensures.reason c.args.b.now.left.next.right c.args.b.now.right.next.right c.requires.pair.left c.requires.pair.right

pub returns-clause-facts : goal.returns-clause-facts
returns-clause-facts c = (refl, c.in_ok-fact.ensures.fact)

pub returns-clause-goes : goal.returns-clause-goes
returns-clause-goes c = goes_trans c.args.writer.now c.kid_reason.new.writer c.meet.new.writer c.in_ok-why.ensures.goes c.in_ok-fact.ensures.goes

pub kid_reason-requires-clause-copy : goal.kid_reason-requires-clause-copy
kid_reason-requires-clause-copy c = (c.args.b.now.left.next.right, c.requires.pair.left)
