-- What tests of nodes by their numbers find. The later kids of a theta are all but its first.
use Rattle.std.specs.Prelude.{◌≡◌, ◌⊎◌, ℕ, ◌<◌, ◌≤◌, List, Some, slice_get}
use Rattle.pv_graph.specs.declared.node.Op.{Op}
use Rattle.pv_graph.specs.declared.node.Node.{Node}
use Rattle.pv_graph.specs.Ops.{shape}
use Rattle.pv_graph.specs.Walks.{down, jump, move_to}

-- the kid at this place is a later one of a theta
abbrev pub IsLater : Op → ℕ → Type 0
IsLater o p = (d : ℕ) × (move_to (shape o) p ≡ down d)

-- each kid is smaller than n, but for the later kids of a theta
abbrev pub Falls : ℕ → Node → Type 0
Falls n node = (p k : ℕ) → slice_get node.kids p ≡ Some k → (k < n) ⊎ IsLater node.op p

-- each kid is larger than n, but for the later kids of a theta
abbrev pub Rises : ℕ → Node → Type 0
Rises n node = (p k : ℕ) → slice_get node.kids p ≡ Some k → (n < k) ⊎ IsLater node.op p

-- the kid at this place is smaller than n, where it is a later one of a theta of depth e or more
abbrev pub KidStaysBelow : ℕ → ℕ → Op → ℕ → ℕ → Type 0
KidStaysBelow n e o p k = (d : ℕ) → move_to (shape o) p ≡ down d → n ≤ k → d < e

-- so are all kids
abbrev pub StaysBelow : ℕ → ℕ → Node → Type 0
StaysBelow n e node = (p k : ℕ) → slice_get node.kids p ≡ Some k → KidStaysBelow n e node.op p k

-- so for the nodes below n
abbrev pub AllStayBelow : List Node → ℕ → ℕ → Type 0
AllStayBelow nodes n e = (t : ℕ) (node : Node) → t < n → slice_get nodes t ≡ Some node → StaysBelow n e node

-- so for the depth of the node, if it is an eval, a pass or a shift
abbrev pub IsUncrossed : List Node → ℕ → Node → Type 0
IsUncrossed nodes n node = (p e : ℕ) → move_to (shape node.op) p ≡ jump e → AllStayBelow nodes n e
