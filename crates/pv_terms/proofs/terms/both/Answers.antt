use Rattle.pv_terms.proofs.Words.{IfOk-weaker}
use Rattle.pv_graph.specs.declared.node.OpSort.TheVariants as sort
use Rattle.pv_terms.proofs.Growing.{both_has}
use Rattle.pv_terms.proofs.Made.{both_unit, both_other}
use Rattle.pv_terms.proofs.terms.both.Goals as goal
use Rattle.pv_terms.proofs.terms.both.Goals.{in-Unit, in_default}

pub returns-then-matches-clause-reads : goal.returns-then-matches-clause-reads
returns-then-matches-clause-reads c = elim c.match-matches.branch [
  | in-Unit w ↦ both_unit c.args.g.now c.args.a c.args.b c.node.result.now c.requires.graph c.requires.first c.node.ensures w.in-Unit.is
  | in_default w ↦ absurd (let t = c.if-matches.true in let e = w.matches-is in cc)
]

pub over-requires-clause-fits : goal.over-requires-clause-fits
over-requires-clause-fits c = (sort.T, both_has c.args.g.now c.args.a c.args.b c.requires.first c.requires.second)

pub returns-clause-reads : goal.returns-clause-reads
returns-clause-reads c = elim c.match-matches.branch [
  | in-Unit w ↦ absurd (let t = c.if-matches.false in let e = w.matches-is in cc)
  | in_default w ↦ IfOk-weaker c.over.result _ _ (λ n reads. both_other c.args.g.now c.over.new.g c.args.a c.args.b n c.node.result.now c.node.ensures w.in_default.not-Unit reads) c.over.ensures.reads
]

pub returns-clause-sort : goal.returns-clause-sort
returns-clause-sort c = IfOk-weaker c.over.result _ _ (λ n has. has sort.T (both_has c.args.g.now c.args.a c.args.b c.requires.first c.requires.second)) c.over.ensures.sort
