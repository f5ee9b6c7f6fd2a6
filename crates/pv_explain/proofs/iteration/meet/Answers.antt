use Rattle.pv_writer.proofs.Pushing.{fact_goes, goes_trans}
use Rattle.pv_explain.proofs.iteration.meet.Goals as goal

pub flip-requires : goal.flip-requires
flip-requires c = fact_goes c.args.writer.now c.gone_to.new.writer c.args.right.fact c.args.right.left c.args.right.right c.in_ok-there.ensures.goes c.requires.right

pub chain-requires : goal.chain-requires
chain-requires c = (c.args.right.right, fact_goes c.gone_to.new.writer c.flip.new.self c.in_ok-there.there c.args.left.left c.args.right.right c.in_ok-back.ensures.goes c.in_ok-there.ensures.fact, c.in_ok-back.ensures.shows)

pub returns-clause-fact : goal.returns-clause-fact
returns-clause-fact c = c.in_ok-fact.ensures.shows

pub returns-clause-goes : goal.returns-clause-goes
returns-clause-goes c = goes_trans c.args.writer.now c.flip.new.self c.chain.new.self (goes_trans c.args.writer.now c.gone_to.new.writer c.flip.new.self c.in_ok-there.ensures.goes c.in_ok-back.ensures.goes) c.in_ok-fact.ensures.goes
