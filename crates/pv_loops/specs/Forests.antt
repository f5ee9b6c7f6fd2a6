-- The forest of the loops of a shape.
use Rattle.std.specs.Prelude.{◌≡◌, ◌≢◌, ℕ, ◌<◌, ◌≤◌, List, [], ◌∷◌, length, slice_get, Option, Some, None, ◌↔◌}
use Rattle.std.specs.List.{Contains}
use Rattle.std.specs.List.Sorted.{IsStrictlyIncreasing}
use Rattle.pv_loops.specs.declared.forest.Loop.{Loop}
use Rattle.pv_loops.specs.declared.forest.Forest.{Forest}
use Rattle.pv_loops.specs.Loops.{IsLoop}

-- the headers of the loops around a listed one: of its parent, of the parent of that one, and so on to the outermost
pub data AreAround (loops : List Loop) : Loop → List ℕ → Type 0 where
  outermost : (l : Loop) → l.parent ≡ None → AreAround loops l []
  inner : (l outer : Loop) (p : ℕ) (around : List ℕ) → l.parent ≡ Some p → slice_get loops p ≡ Some outer → AreAround loops outer around → AreAround loops l (outer.header ∷ around)

-- a listed loop is a loop of the shape, and has its depth and, ascending, its nodes
pub record IsListed (s : List (List ℕ)) (loops : List Loop) (l : Loop) : Type 0 where
  pub around : List ℕ
  pub outer : AreAround loops l around
  pub is : IsLoop s (l.header ∷ around) l.members.items
  pub depth : l.depth ≡ length (l.header ∷ around)
  pub ascend : IsStrictlyIncreasing l.members.items

-- a loop of the shape is in the list, with the same headers and the same nodes
pub record HasLoop (loops : List Loop) (headers members : List ℕ) : Type 0 where
  pub place : ℕ
  pub listed : Loop
  pub at : slice_get loops place ≡ Some listed
  pub around : List ℕ
  pub outer : AreAround loops listed around
  pub same_headers : listed.header ∷ around ≡ headers
  pub same_nodes : (x : ℕ) → Contains listed.members.items x ↔ Contains members x

-- a node in no loop has no home. Else its home is the deepest loop that has it
abbrev pub IsHome : List Loop → ℕ → Option ℕ → Type 0
IsHome loops x None = (i : ℕ) (l : Loop) → slice_get loops i ≡ Some l → Contains l.members.items x → ⊥
IsHome loops x (Some i) = (l : Loop) × (slice_get loops i ≡ Some l) × Contains l.members.items x × ((j : ℕ) (k : Loop) → slice_get loops j ≡ Some k → Contains k.members.items x → j ≢ i → k.depth < l.depth)

-- the loops of the shape, each once, by ascending header, and the home of each node
pub record IsForest (s : List (List ℕ)) (f : Forest) : Type 0 where
  pub loops : (i : ℕ) (l : Loop) → slice_get f.loops.items i ≡ Some l → IsListed s f.loops.items l
  pub all : (headers members : List ℕ) → IsLoop s headers members → HasLoop f.loops.items headers members
  pub ascend : (i j : ℕ) (k l : Loop) → i < j → slice_get f.loops.items i ≡ Some k → slice_get f.loops.items j ≡ Some l → k.header < l.header
  pub homes : length f.home.items ≡ length s
  pub home : (x : ℕ) (h : Option ℕ) → slice_get f.home.items x ≡ Some h → IsHome f.loops.items x h

-- no loop of the shape has more headers around it, its own included
abbrev pub NestsUpTo : List (List ℕ) → ℕ → Type 0
NestsUpTo s most = (headers members : List ℕ) → IsLoop s headers members → length headers ≤ most

-- a loop of the shape has this many headers around it, its own included
abbrev pub HasDepth : List (List ℕ) → ℕ → Type 0
HasDepth s d = (headers : List ℕ) × (members : List ℕ) × IsLoop s headers members × (length headers ≡ d)

-- one loop with one place in the list
pub record IsSameLoop (k l : Loop) : Type 0 where
  pub header : k.header ≡ l.header
  pub depth : k.depth ≡ l.depth
  pub parent : k.parent ≡ l.parent
  pub members : k.members.items ≡ l.members.items

-- the same loops in the same places, and the same homes
pub record IsSameForest (f g : Forest) : Type 0 where
  pub size : length f.loops.items ≡ length g.loops.items
  pub loops : (i : ℕ) (k l : Loop) → slice_get f.loops.items i ≡ Some k → slice_get g.loops.items i ≡ Some l → IsSameLoop k l
  pub home : f.home.items ≡ g.home.items
