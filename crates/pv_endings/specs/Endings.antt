-- The nodes that a root waits for.
use Rattle.std.specs.Prelude.{◌≡◌, ◌↔◌, ℕ, ◌<◌, List, [], ◌∷◌, Some, slice_get}
use Rattle.pv_graph.specs.declared.node.Op.TheVariants as op
use Rattle.pv_graph.specs.Graphs.{Graph}
use Rattle.pv_graph.specs.Walks.{In}
use Rattle.pv_steps.specs.Right.{Is, MayBeAssumed, RootKids}
use Rattle.pv_endings.specs.declared.root.RootParts.{RootParts}

-- node p is a root over these kids
abbrev pub IsRootOver : Graph → ℕ → RootParts → Type 0
IsRootOver g p r = Is g p op.Root (r.token ∷ r.fault ∷ r.result ∷ r.heap ∷ [])

-- node p is a root, and node n a closed pass or callend on the spine of its token
abbrev pub IsEnding : Graph → ℕ → ℕ → Type 0
IsEnding g p n = (root : RootKids g p) × MayBeAssumed g root.token n

-- each number is greater than those before it
abbrev pub IsAscending : List ℕ → Type 0
IsAscending ns = (i j m n : ℕ) → i < j → slice_get ns i ≡ Some m → slice_get ns j ≡ Some n → m < n

-- exactly these nodes of p, in order; so there are none where p is no root
pub record AreEndingsOf (g : Graph) (p : ℕ) (ends : List ℕ) : Type 0 where
  pub are : (n : ℕ) → In ends n ↔ IsEnding g p n
  pub ordered : IsAscending ends

-- node p is a root, and each of these nodes is such a node of it
pub record WaitsFor (g : Graph) (p : ℕ) (nodes : List ℕ) : Type 0 where
  pub root : RootKids g p
  pub each : (n : ℕ) → In nodes n → MayBeAssumed g root.token n
