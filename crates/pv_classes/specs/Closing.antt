-- How the waiting nodes are visited until none is left.
use Rattle.std.specs.Prelude.{◌≡◌, ◌⊎◌, ℕ, ◌<◌, List, [], ◌∷◌, ◌++◌, length}
use Rattle.std.specs.List.{Contains}
use Rattle.pv_graph.specs.declared.node.Node.{Node}
use Rattle.pv_classes.specs.declared.join.Join.{Join}
use Rattle.pv_classes.specs.Partition.{AreOne}
use Rattle.pv_classes.specs.Closest.{Closest, AreOfKids}
use Rattle.pv_classes.specs.Index.{Index, IsIndex, IsTracked, IsOutsideAt}

-- some passes, with these nodes held, whose operations are of a fixed depth: each node is tracked or held
pub record IsClosing (nodes : List Node) (fixed : List ℕ) (old new : Index) (holds : List ℕ) (before after : List Join) : Type 0 where
  pub index : IsIndex nodes new
  pub coarser : (a b : ℕ) → a < length nodes → b < length nodes → AreOne old.parts.labels a b → AreOne new.parts.labels a b
  pub sound : (a b : ℕ) → a < length nodes → b < length nodes → AreOne new.parts.labels a b → Closest nodes fixed (AreOne old.parts.labels) a b
  pub more : List Join
  pub joins : after ≡ before ++ more
  pub of_kids : AreOfKids nodes fixed before more
  pub tracked : (m : ℕ) → m < length nodes → IsTracked nodes new m ⊎ Contains holds m
  pub held : (m : ℕ) → Contains holds m → (m < length nodes) × (IsOutsideAt nodes fixed m → ⊥)

-- the parts are the least congruence over the old ones, outside the fixed depths
pub record Closed (nodes : List Node) (fixed : List ℕ) (old new : Index) (before after : List Join) : Type 0 where
  pub index : IsIndex nodes new
  pub tracked : (m : ℕ) → m < length nodes → IsTracked nodes new m
  pub sound : (a b : ℕ) → a < length nodes → b < length nodes → AreOne new.parts.labels a b → Closest nodes fixed (AreOne old.parts.labels) a b
  pub full : (a b : ℕ) → Closest nodes fixed (AreOne old.parts.labels) a b → AreOne new.parts.labels a b
  pub more : List Join
  pub joins : after ≡ before ++ more
  pub of_kids : AreOfKids nodes fixed before more

-- whether a node waits, as a number
abbrev pub waits : List ℕ → ℕ
waits [] = 0
waits (n ∷ ns) = 1
