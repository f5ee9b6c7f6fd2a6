use Rattle.std.proofs.Common.{refl, sym, subst}
use Rattle.pv_build.proofs.Words.{Sort, T, IsOfSort, op_sort}
use Rattle.pv_graph.specs.declared.node.Op.TheVariants as op
use Rattle.pv_build.proofs.Kept.{has_no_kids}
use Rattle.pv_build.proofs.Started.{known_of}
use Rattle.pv_build.proofs.entering.cell.Goals as goal

pub over-requires-clause-fits : goal.over-requires-clause-fits
over-requires-clause-fits c = (T, has_no_kids c.args.g.now op.Unit T refl)

pub returns-in_ok-unit-in-Unknown-clause-reads : goal.returns-in_ok-unit-in-Unknown-clause-reads
returns-in_ok-unit-in-Unknown-clause-reads c known = absurd (known c.in-Unknown.is)

pub returns-in_ok-unit-in-Unknown-clause-sort : goal.returns-in_ok-unit-in-Unknown-clause-sort
returns-in_ok-unit-in-Unknown-clause-sort c =
    (refl, subst (λ (t : Sort). IsOfSort c.over.new.g c.in_ok-unit-in-Unknown.unit (op_sort t)) (sym c.in-Unknown.is) (c.in_ok-unit-in-Unknown.ensures.sort T (has_no_kids c.args.g.now op.Unit T refl)))

pub node_of-requires-clause-gives : goal.node_of-requires-clause-gives
node_of-requires-clause-gives c = (op_sort c.args.sort, c.requires.gives (known_of c.args.sort c.in-Int.is))

pub node_of-requires-clause-some : goal.node_of-requires-clause-some
node_of-requires-clause-some c = c.requires.some (known_of c.args.sort c.in-Int.is)

pub returns-in_ok-node-in-Int-clause-reads : goal.returns-in_ok-node-in-Int-clause-reads
returns-in_ok-node-in-Int-clause-reads c known names e f = c.in_ok-node-in-Int.ensures.reads names e f

pub returns-in_ok-node-in-Int-clause-sort : goal.returns-in_ok-node-in-Int-clause-sort
returns-in_ok-node-in-Int-clause-sort c = (refl, c.in_ok-node-in-Int.ensures.sort (op_sort c.args.sort) (c.requires.gives (known_of c.args.sort c.in-Int.is)))
