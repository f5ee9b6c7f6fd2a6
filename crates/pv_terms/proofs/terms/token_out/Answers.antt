use Rattle.pv_terms.proofs.Words.{IfOk-weaker, IsFlatOrOut}
use Rattle.pv_terms.proofs.Growing.{grows_by_then, flat_or_out}
use Rattle.pv_terms.proofs.Made.{token_reads}
use Rattle.pv_terms.proofs.terms.token_out.Goals as goal

pub returns-clause-reads : goal.returns-clause-reads
returns-clause-reads c = IfOk-weaker c.both.result _ _ (λ r both. token_reads c.args.g.now c.last.new.g c.both.new.g c.args.depth c.args.entering c.args.ending c.args.n c.in_ok-left.left r c.in_ok-left.ensures.grows c.in_ok-left.ensures.reads both) c.both.ensures.reads

pub returns-clause-grows : goal.returns-clause-grows
returns-clause-grows c = grows_by_then (IsFlatOrOut c.args.depth) c.args.g.now c.last.new.g c.both.new.g c.in_ok-left.ensures.grows (flat_or_out c.args.depth c.last.new.g c.both.new.g c.both.ensures.grows)
