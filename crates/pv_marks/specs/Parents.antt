-- The first nodes that have a kid in a class. The graph may have grown since these nodes got class numbers.
use Rattle.std.specs.Prelude.{◌≡◌, ◌⊎◌, ℕ, ◌<◌, ◌≤◌, List, length, map, Some, slice_get, Vec}
use Rattle.std.specs.declared.alloc.Global.{Global}
use Rattle.pv_graph.specs.declared.node.Op.{Op}
use Rattle.pv_graph.specs.declared.node.Node.{Node}
use Rattle.pv_graph.specs.Forms.{form}
use Rattle.pv_graph.specs.Walks.{In}
use Rattle.pv_graph.specs.Graphs.{Graph, form_at}
use Rattle.pv_marks.specs.Classes.{class_of}

-- for each class a list of nodes
abbrev pub NodeLists : Type 0
NodeLists = List (Vec ℕ Global)

abbrev pub IsListed : NodeLists → ℕ → ℕ → Type 0
IsListed lists c n = (v : Vec ℕ Global) × (slice_get lists c ≡ Some v) × In v.items n

-- what was listed stays, and node n is listed at each of these classes
pub record Enlists (old new : NodeLists) (n : ℕ) (over : List ℕ) : Type 0 where
  pub kept : (c m : ℕ) → IsListed old c m → IsListed new c m
  pub there : (c : ℕ) → In over c → IsListed new c n
  pub only : (c m : ℕ) → IsListed new c m → IsListed old c m ⊎ (m ≡ n)

-- each of the first nodes has a class number, which is that of one of them, and so have its kids
pub record AreFirstNumbered (g : Graph) (numbers : List ℕ) : Type 0 where
  pub few : length numbers ≤ length g.nodes
  pub within : (n : ℕ) → n < length numbers → class_of numbers n < length numbers
  pub kids : (n k : ℕ) (node : Node) → n < length numbers → slice_get g.nodes n ≡ Some node → In node.kids k → k < length numbers

-- each node below the bound is listed at each class of its kids, and no other node is listed
pub record AreParents (g : Graph) (numbers : List ℕ) (bound : ℕ) (lists : NodeLists) : Type 0 where
  pub has : (n : ℕ) (o : Op) (ks : List ℕ) → n < bound → form_at g.nodes n ≡ Some (form o ks) → (c : ℕ) → In (map (class_of numbers) ks) c → IsListed lists c n
  pub within : (c n : ℕ) → IsListed lists c n → n < bound
