use Rattle.std.proofs.Common.{Bool, [], true, ap, ◌∙◌, ◌&&◌, sym}
use Rattle.pv_graph.specs.contracts.node.OpEq.TheImpl.Laws.{laws-law}
use Rattle.pv_graph.specs.contracts.node.OpPartialEq.TheImpl.{eq-value as op_eq}
use Rattle.pv_graph.specs.declared.node.Node.{Node}
use Rattle.pv_graph.specs.Nodes.{node_of}
use Rattle.pv_graph.proofs.Cited.{same_nodes}
use Rattle.pv_lemmas.proofs.under.is_same_op.Goals as goal

pub returns : goal.returns
returns c = (
  λ yes. ap (λ (node : Node). node.op) (same_nodes (node_of c.args.a.now []) (node_of c.args.b.now []) (ap (λ (t : Bool). t && true) (sym c.eq.ensures ∙ yes))),
  λ same. c.eq.ensures ∙ ap (op_eq.it c.args.a.now) (sym same) ∙ laws-law.refl c.args.a.now,
)
