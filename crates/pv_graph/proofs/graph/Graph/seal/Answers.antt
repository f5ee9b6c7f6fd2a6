use Rattle.std.proofs.Common.{true≢false, subst, sym, ap, ◌∙◌}
use Rattle.pv_graph.specs.Graphs.{Graph}
use Rattle.pv_graph.specs.Nodes.{AreTied}
use Rattle.pv_graph.proofs.Tying.{finished_tied}
use Rattle.pv_graph.proofs.graph.Graph.seal.Goals as goal

pub returns-then-not-are_tied-clause-no : goal.returns-then-not-are_tied-clause-no
returns-then-not-are_tied-clause-no c finished =
    true≢false (sym (c.if-not-are_tied.ensures.1 (subst AreTied (ap (λ (g : Graph). g.nodes) (sym c.self.view_is) ∙ sym c.deref.ensures.value) (finished_tied c.args.self.now finished))))
