use Rattle.pv_terms.proofs.Words.{IfOk-weaker, IsFlatOrOut, IsOfSort}
use Rattle.pv_graph.specs.declared.node.OpSort.TheVariants as sort
use Rattle.pv_terms.proofs.Growing.{grows_by_then, pass_has, eval_has, eval_keeps}
use Rattle.pv_terms.proofs.Made.{last_reads}
use Rattle.pv_terms.proofs.terms.last.Goals as goal

pub over_out-requires-clause-fits : goal.over_out-requires-clause-fits
over_out-requires-clause-fits c = (sort.N, pass_has c.args.g.now c.args.depth c.args.ending c.requires.depth c.requires.ending)

pub over_out-requires-2-clause-fits : goal.over_out-requires-2-clause-fits
over_out-requires-2-clause-fits c =
    let value = c.requires.value in
    let pass : IsOfSort c.over_out.new.g c.in_ok-pass.pass sort.N = c.in_ok-pass.ensures.sort sort.N (pass_has c.args.g.now c.args.depth c.args.ending c.requires.depth c.requires.ending) in
    (value.0, eval_has c.over_out.new.g c.args.depth c.args.n c.in_ok-pass.pass value.0 c.requires.depth value.2 (c.in_ok-pass.ensures.grows.extends.sorts c.args.n value.0 value.1) pass)

pub returns-clause-reads : goal.returns-clause-reads
returns-clause-reads c = IfOk-weaker c.over_out-2.result _ _ (λ r reads. last_reads c.args.g.now c.over_out.new.g c.over_out-2.new.g c.args.depth c.args.ending c.args.n c.in_ok-pass.pass r c.in_ok-pass.ensures.grows c.in_ok-pass.ensures.reads reads) c.over_out-2.ensures.reads

pub returns-clause-sort : goal.returns-clause-sort
returns-clause-sort c =
    let pass : IsOfSort c.over_out.new.g c.in_ok-pass.pass sort.N = c.in_ok-pass.ensures.sort sort.N (pass_has c.args.g.now c.args.depth c.args.ending c.requires.depth c.requires.ending) in
    IfOk-weaker c.over_out-2.result _ _ (λ r has. eval_keeps c.args.g.now c.over_out.new.g c.over_out-2.new.g c.args.depth c.args.n c.in_ok-pass.pass r c.requires.depth c.requires.value c.in_ok-pass.ensures.grows pass has) c.over_out-2.ensures.sort

pub returns-clause-grows : goal.returns-clause-grows
returns-clause-grows c = grows_by_then (IsFlatOrOut c.args.depth) c.args.g.now c.over_out.new.g c.over_out-2.new.g c.in_ok-pass.ensures.grows c.over_out-2.ensures.grows
