-- How the marks of classes are found: what a node yields over the marks of its kids' classes, which nodes
-- have a kid in a class, and what follows from the marks of the base.
use Rattle.std.specs.Prelude.{◌≡◌, ◌≢◌, ◌⊎◌, ◌↔◌, ℕ, ◌+◌, ◌-◌, ◌^◌, ◌<◌, ◌≤◌, max, List, [], ◌∷◌, length, map, Some, slice_get, slice_set, slice_index, Vec, Bool, IsTrue, bit_or}
use Rattle.std.specs.declared.alloc.Global.{Global}
use Rattle.std.specs.Int.{bit_at}
use Rattle.pv_graph.specs.declared.node.Op.{Op}
use Rattle.pv_graph.specs.Forms.{form}
use Rattle.pv_graph.specs.Walks.{In}
use Rattle.pv_graph.specs.Graphs.{Graph, form_at}
use Rattle.pv_marks.specs.Classes.{class_of, HasForm, Passes, counted, NodeHas, settled}
use Rattle.pv_marks.specs.Marks.{trait_of, HasBit}
use Rattle.pv_marks.specs.Parents.{NodeLists}

-- the mark has a bit where each of these classes has it
abbrev pub AllHave : List ℕ → List ℕ → ℕ → Type 0
AllHave marks over mark = (q : ℕ) → q ≤ 16 → (bit_at mark q ≡ 1) ↔ ((k : ℕ) → In over k → HasBit marks q k)

-- the operation has what the bit stands for, by its kids' classes
abbrev pub Follows : List ℕ → ℕ → Op → List ℕ → Type 0
Follows marks q o over = Passes (trait_of q) o × ((k : ℕ) → In (counted (trait_of q) o over) k → HasBit marks q k)

abbrev pub Yields : List ℕ → Op → List ℕ → ℕ → Type 0
Yields marks o over mark = (q : ℕ) → q ≤ 16 → (bit_at mark q ≡ 1) ↔ Follows marks q o over

-- the number is that of a depth
abbrev pub IsDepth : ℕ → Type 0
IsDepth q = (1 ≤ q) × (q ≤ 16)

-- the length of the longest list
abbrev pub longest : NodeLists → ℕ
longest [] = 0
longest (v ∷ lists) = max (length v.items) (longest lists)

-- ---- what follows

-- the class has the bit, by the marks of the first nodes
pub data Derived (g : Graph) (numbers first : List ℕ) (q : ℕ) : ℕ → Type 0 where
  by_node : (c n : ℕ) → n < length first → class_of numbers n ≡ c → HasBit first q n → Derived g numbers first q c
  by_kids : (c : ℕ) (o : Op) (over : List ℕ) → HasForm g numbers c o over → Passes (trait_of q) o → ((k : ℕ) → In (counted (trait_of q) o over) k → Derived g numbers first q k) → Derived g numbers first q c

-- the marks are sound, and full but for the nodes that are still to be looked at
pub record AreMarking (g : Graph) (numbers first marks work : List ℕ) : Type 0 where
  pub long : length marks ≡ length g.nodes
  pub sound : (q c : ℕ) → q ≤ 16 → HasBit marks q c → Derived g numbers first q c
  pub begun : (q n : ℕ) → q ≤ 16 → n < length first → HasBit first q n → HasBit marks q (class_of numbers n)
  pub closed : (q n : ℕ) (o : Op) (ks : List ℕ) → q ≤ 16 → form_at g.nodes n ≡ Some (form o ks) → Follows marks q o (map (class_of numbers) ks)
      → In work n ⊎ HasBit marks q (class_of numbers n)
  pub within : (n : ℕ) → In work n → n < length g.nodes

-- how far the marks are from full
abbrev pub room : List ℕ → ℕ
room [] = 0
room (m ∷ marks) = (2 ^ 32 - m) + room marks

-- a mark gained these bits, and whether it changed
pub record Raised (old new : List ℕ) (c more : ℕ) (changed : Bool) : Type 0 where
  pub sets : new ≡ slice_set old c (bit_or (slice_index old c) more)
  pub says : IsTrue changed ↔ (slice_index new c ≢ slice_index old c)
  pub small : slice_index new c < 2 ^ 32

-- exactly what the first nodes give
pub record IsBegun (g : Graph) (numbers first marks : List ℕ) : Type 0 where
  pub long : length marks ≡ length g.nodes
  pub only : (q c : ℕ) → q ≤ 16 → HasBit marks q c → Derived g numbers first q c
  pub has : (q n : ℕ) → q ≤ 16 → n < length first → HasBit first q n → HasBit marks q (class_of numbers n)

-- the nodes below the bound, and no other
pub record AreAll (bound : ℕ) (work : List ℕ) : Type 0 where
  pub has : (n : ℕ) → n < bound → In work n
  pub only : (n : ℕ) → In work n → n < bound

-- ---- the marks of nodes

-- the mark has exactly the bits below a bound of what the node has
abbrev pub IsMarkBelow : Graph → List ℕ → ℕ → ℕ → ℕ → Type 0
IsMarkBelow g assumed bound n mark = (q : ℕ) → q ≤ 16 → (bit_at mark q ≡ 1) ↔ ((q < bound) × NodeHas g assumed (trait_of q) n)

-- the mark of a node which says alone whether it is settled
abbrev pub BeginsMark : Bool → ℕ → Type 0
BeginsMark is_settled mark = (g : Graph) (assumed : List ℕ) (n : ℕ) → IsTrue is_settled ↔ NodeHas g assumed settled n → IsMarkBelow g assumed 1 n mark

-- a mark for each node
pub record AreMarksBelow (g : Graph) (assumed : List ℕ) (bound : ℕ) (marks : List ℕ) : Type 0 where
  pub long : length marks ≡ length g.nodes
  pub each : (n : ℕ) → n < length g.nodes → IsMarkBelow g assumed bound n (slice_index marks n)

-- the depth is marked after the lesser ones, for all assumed nodes alike
abbrev pub MarksDepth : Graph → ℕ → List ℕ → List ℕ → Type 0
MarksDepth g d old new = (assumed : List ℕ) → AreMarksBelow g assumed d old → AreMarksBelow g assumed (d + 1) new
