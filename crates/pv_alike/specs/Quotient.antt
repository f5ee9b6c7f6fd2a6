-- A node for each number: a node that has it, and that node over the numbers of its kids.
use Rattle.std.specs.Prelude.{◌≡◌, ℕ, ◌<◌, List, length, Some, slice_get}
use Rattle.std.specs.List.{AllZip}
use Rattle.pv_graph.specs.declared.node.Node.{Node}
use Rattle.pv_alike.specs.Keys.{number_at, over_numbers}

-- a node that has each number below count
pub record AreOrigins (g : List Node) (number : ℕ → ℕ) (count : ℕ) (origins : List ℕ) : Type 0 where
  pub long : length origins ≡ count
  pub each : (m : ℕ) → m < count → (number_at origins m < length g) × (number (number_at origins m) ≡ m)

-- node n over the numbers of its kids
abbrev pub IsOver : List Node → (ℕ → ℕ) → ℕ → Node → Type 0
IsOver g number n over = (node : Node) × (slice_get g n ≡ Some node) × (over ≡ over_numbers number node)

abbrev pub AreOver : List Node → (ℕ → ℕ) → List ℕ → List Node → Type 0
AreOver g number origins nodes = AllZip (IsOver g number) origins nodes
