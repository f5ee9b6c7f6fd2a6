use Rattle.std.proofs.Common.{sym, subst}
use Rattle.pv_terms.proofs.Words.{IfOk-weaker, Graph, IsGraph, GrowsBy, IsFlatOrOut, IsOfSort, IsValue, KeepsSort, ReadsLast, ReadsOut}
use Rattle.pv_graph.specs.declared.node.OpSort.TheVariants as sort
use Rattle.pv_terms.proofs.Growing.{grows_by_same}
use Rattle.pv_terms.proofs.Made.{out_same, out_last}
use Rattle.pv_terms.proofs.terms.out.Goals as goal

pub returns-in_err-free_growing-clause-grows : goal.returns-in_err-free_growing-clause-grows
returns-in_err-free_growing-clause-grows c = subst (λ (g : Graph). GrowsBy (IsFlatOrOut c.args.depth) c.args.g.now g) (sym c.free_growing.ensures.same) (grows_by_same (IsFlatOrOut c.args.depth) c.args.g.now c.requires.graph)

pub returns-then-not-branch-clause-reads : goal.returns-then-not-branch-clause-reads
returns-then-not-branch-clause-reads c =
    subst (λ (g : Graph). ReadsOut c.args.g.now c.args.depth c.args.ending c.args.n g c.args.n) (sym c.free_growing.ensures.same)
    (out_same c.args.g.now c.args.depth c.args.ending c.args.n (λ free. absurd (let yes' = c.in_ok-free_growing.ensures.yes.1 free in let no' = c.if-not-branch.true in cc)))

pub returns-then-not-branch-clause-sort : goal.returns-then-not-branch-clause-sort
returns-then-not-branch-clause-sort c = subst (λ (g : Graph). KeepsSort c.args.g.now c.args.n g c.args.n) (sym c.free_growing.ensures.same) (λ s is. is)

pub returns-then-not-branch-clause-grows : goal.returns-then-not-branch-clause-grows
returns-then-not-branch-clause-grows c = subst (λ (g : Graph). GrowsBy (IsFlatOrOut c.args.depth) c.args.g.now g) (sym c.free_growing.ensures.same) (grows_by_same (IsFlatOrOut c.args.depth) c.args.g.now c.requires.graph)

pub last-requires-clause-graph : goal.last-requires-clause-graph
last-requires-clause-graph c = subst IsGraph (sym c.free_growing.ensures.same) c.requires.graph

pub last-requires-clause-ending : goal.last-requires-clause-ending
last-requires-clause-ending c = subst (λ (g : Graph). IsOfSort g c.args.ending sort.I) (sym c.free_growing.ensures.same) c.requires.ending

pub last-requires-clause-value : goal.last-requires-clause-value
last-requires-clause-value c = subst (λ (g : Graph). IsValue g c.args.n) (sym c.free_growing.ensures.same) c.requires.value

pub returns-clause-reads : goal.returns-clause-reads
returns-clause-reads c =
    IfOk-weaker c.last.result _ _ (λ r last. out_last c.args.g.now c.last.new.g c.args.depth c.args.ending c.args.n r (c.in_ok-free_growing.ensures.yes.0 (let yes' = c.if-not-branch.false in cc))
    (subst (λ (g : Graph). ReadsLast g c.args.depth c.args.ending c.args.n c.last.new.g r) c.free_growing.ensures.same last)) c.last.ensures.reads

pub returns-clause-sort : goal.returns-clause-sort
returns-clause-sort c = IfOk-weaker c.last.result _ _ (λ r keeps. subst (λ (g : Graph). KeepsSort g c.args.n c.last.new.g r) c.free_growing.ensures.same keeps) c.last.ensures.sort

pub returns-clause-grows : goal.returns-clause-grows
returns-clause-grows c = subst (λ (g : Graph). GrowsBy (IsFlatOrOut c.args.depth) g c.last.new.g) c.free_growing.ensures.same c.last.ensures.grows
