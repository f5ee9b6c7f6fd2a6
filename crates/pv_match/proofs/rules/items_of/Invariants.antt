use Rattle.std.proofs.Common.{◌≡◌, ◌<◌, ℕ, List, Some, slice_get}
use Rattle.pv_graph.specs.declared.node.Node.{Node}
use Rattle.pv_graph.specs.Walks.{In}
use Rattle.pv_pattern.specs.Numbers.{op_number}
use Rattle.pv_classes.specs.Calls.{Knows}
use Rattle.pv_match.specs.Bindings.{with_number}
use Rattle.pv_match.specs.Kept.{IsKept}
use Rattle.pv_match.proofs.rules.items_of.Given as goal

abbrev pub invariant-loop-number : goal.invariant-loop-number
invariant-loop-number l = (nodes : List Node) → Knows nodes l.classes → (n i : ℕ) (node : Node) → slice_get nodes n ≡ Some node → IsKept l.kept n → op_number node.op < l.number → In (with_number l.rules (op_number node.op)) i → In l.items.items n
