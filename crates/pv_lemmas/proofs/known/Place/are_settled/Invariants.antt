use Rattle.std.proofs.Common.{◌≡◌, ◌<◌, ℕ, Some, slice_get}
use Rattle.pv_graph.specs.Graphs.{form_at}
use Rattle.pv_graph.specs.Walks.{IsSettled}
use Rattle.pv_lemmas.proofs.known.Place.are_settled.Given as goal

abbrev pub invariant-loop-j : goal.invariant-loop-j
invariant-loop-j l = (i j : ℕ) → i < l.j-index → slice_get l.j-items i ≡ Some j → (n : ℕ) → slice_get l.self.nodes.now j ≡ Some n → IsSettled (form_at l.self.graph.now.nodes) l.self.assumed.now n
