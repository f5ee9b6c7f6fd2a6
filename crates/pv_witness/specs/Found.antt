-- What is kept while supports are found: the supports so far, and which classes they cover.
use Rattle.std.specs.Prelude.{◌≡◌, ◌⊎◌, ◌↔◌, ℕ, ◌+◌, ◌<◌, ◌≤◌, Bool, true, false, List, [], ◌∷◌, ◌++◌, length, take, Some, slice_get, slice_set}
use Rattle.pv_graph.specs.Walks.{In}
use Rattle.pv_graph.specs.Reach.{IsMarked, unmarked}
use Rattle.pv_graph.specs.Graphs.{Graph}
use Rattle.pv_graph.specs.declared.node.Node.{Node}
use Rattle.pv_witness.specs.declared.condition.Condition.{Condition}
use Rattle.pv_marks.specs.Classes.{class_of}
use Rattle.pv_witness.specs.Supports.{HandsOn, counted, Covers, IsReady, IsSupport, AreSupports}

-- exactly the classes of the listed nodes are marked, one for each
pub record IsFound (g : Graph) (numbers : List ℕ) (list : List ℕ) (has : List Bool) : Type 0 where
  pub long : length has ≡ length g.nodes
  pub says : (c : ℕ) → IsMarked has c ↔ Covers numbers list c
  pub room : length list + unmarked has ≡ length has

-- each node that is ready by the first ones has its class listed
abbrev pub IsClosedBy : Graph → List ℕ → Condition → List ℕ → List ℕ → Type 0
IsClosedBy g numbers k first list = (n : ℕ) → IsReady g numbers k first n → Covers numbers list (class_of numbers n)

-- the operation hands the condition on, and the classes of all kids that count are marked
abbrev pub IsReadyBy : List ℕ → Condition → List Bool → Node → Type 0
IsReadyBy numbers k has node = HandsOn k node.op × ((j : ℕ) → In (counted k node.op node.kids) j → IsMarked has (class_of numbers j))

-- node n is listed, where its class was not covered
pub record Lists (numbers : List ℕ) (n : ℕ) (old new : List ℕ) (old_has new_has : List Bool) : Type 0 where
  pub cases : (IsMarked old_has (class_of numbers n) × (new ≡ old) × (new_has ≡ old_has))
      ⊎ ((slice_get old_has (class_of numbers n) ≡ Some false) × (new ≡ old ++ n ∷ []) × (new_has ≡ slice_set old_has (class_of numbers n) true))

-- these nodes were looked at, and those that are ready are listed
pub record Spreads (g : Graph) (numbers : List ℕ) (k : Condition) (nodes old new : List ℕ) (has : List Bool) : Type 0 where
  pub found : IsFound g numbers new has
  pub supports : (starts : List Bool) → AreSupports g numbers k starts old → AreSupports g numbers k starts new
  pub later : List ℕ
  pub are : new ≡ old ++ later
  pub within : (n : ℕ) → In later n → n < length g.nodes
  pub done : (n : ℕ) → In nodes n → IsReady g numbers k old n → Covers numbers new (class_of numbers n)

-- the nodes below the bound were looked at, and the supports among them are listed
pub record Begins (g : Graph) (numbers : List ℕ) (k : Condition) (starts : List Bool) (bound : ℕ) (list : List ℕ) (has : List Bool) : Type 0 where
  pub found : IsFound g numbers list has
  pub supports : AreSupports g numbers k starts list
  pub within : (n : ℕ) → In list n → n < length g.nodes
  pub done : (n : ℕ) → n < bound → IsSupport g numbers k starts [] n → Covers numbers list (class_of numbers n)

-- what stands while the parents of the classes are looked at: the first ones were
pub record IsSwept (g : Graph) (numbers : List ℕ) (k : Condition) (starts : List Bool) (next : ℕ) (list : List ℕ) (has : List Bool) : Type 0 where
  pub found_ : IsFound g numbers list has
  pub supports : AreSupports g numbers k starts list
  pub within : (n : ℕ) → In list n → n < length g.nodes
  pub started : (n : ℕ) → n < length g.nodes → IsMarked starts n → Covers numbers list (class_of numbers n)
  pub low : next ≤ length list
  pub closed : IsClosedBy g numbers k (take next list) list
