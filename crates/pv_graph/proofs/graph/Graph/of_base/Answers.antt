use Rattle.std.proofs.Common.{◌≡◌, ℕ, List, Vec, MatchOption, Option, false, length, None, refl, sym, ◌∙◌, subst, arith}
use Rattle.std.specs.declared.alloc.Global.{Global}
use Rattle.pv_graph.specs.declared.node.Node.{Node}
use Rattle.pv_graph.specs.declared.node.OpSort.{OpSort}
use Rattle.pv_graph.specs.Graphs.{IsGraph}
use Rattle.pv_graph.specs.Base.{AreRanged, HaveNoSorts}
use Rattle.pv_graph.specs.Calls.{AreSorts}
use Rattle.pv_graph.specs.Index.{IsIndex}
use Rattle.pv_graph.specs.Kept.{graph_of}
use Rattle.pv_graph.proofs.Basing.{base_graph}
use Rattle.pv_graph.proofs.Knowing.{known_none}
use Rattle.pv_graph.proofs.graph.Graph.of_base.Goals as goal

module _ (c : goal.After-new) where
  long : c.len-2.result ≡ length c.args.nodes.items
  long = c.len-2.ensures ∙ c.args.nodes.ok.0

  fit : AreSorts c.deref.result.now c.in-Some.sorts.items
  fit = subst (λ (found : Option (Vec OpSort Global)). MatchOption found (HaveNoSorts c.deref.result.now) (λ sorts. AreSorts c.deref.result.now sorts.items)) c.in-Some.is c.in_ok-sorts.ensures

  made : IsGraph (graph_of c.args.nodes.items c.in-Some.sorts.items false c.len-2.result None)
  made =
      subst (λ (n : ℕ). IsGraph (graph_of c.args.nodes.items c.in-Some.sorts.items false n None)) (sym long)
      (base_graph c.args.nodes.items c.in-Some.sorts.items
      (subst (λ (nodes : List Node). AreSorts nodes c.in-Some.sorts.items) c.deref.ensures.value fit)
      (subst AreRanged c.deref-2.ensures.value c.see_ranges.ensures))

pub invariant_of-result : goal.invariant_of-result
invariant_of-result c = record {
  kept = record { graph = made c; few = omega (arith, c.if-len-gt-MOST_NODES.false, c.len.ensures, c.args.nodes.ok.0); index = subst (λ (nodes : List Node). IsIndex nodes c.in_ok-index.index.numbers) c.deref-3.ensures.value c.in_ok-index.ensures; tables = λ p e. absurd (let z = e in cc) };
  free = known_none c.args.nodes.items c.new.result c.new.ensures.marks c.new.ensures.shut;
}

pub returns-clause-ok : goal.returns-clause-ok
returns-clause-ok c = record { nodes_ = refl; sealed = refl; base = long c; graph = made c }
