-- The forms of nodes: operations over the classes of kids.
use Rattle.std.specs.Prelude.{◌≡◌, ◌↔◌, ◌⊎◌, ℕ, ◌<◌, Bool, false, List, length, Option, Some, None, slice_get, slice_index_or, IsTrue}
use Rattle.std.specs.List.{Contains, AllZip}
use Rattle.pv_graph.specs.declared.node.Op.{Op}
use Rattle.pv_graph.specs.declared.node.Node.{Node}
use Rattle.pv_classes.specs.Partition.{at, AreOne}
use Rattle.pv_classes.specs.Closest.{Is}

-- node n is this operation over kids that are place by place in the classes of these nodes
pub record HasForm (nodes : List Node) (numbers : List ℕ) (o : Op) (over : List ℕ) (n : ℕ) : Type 0 where
  pub kids : List ℕ
  pub is : Is nodes n o kids
  pub one : AllZip (AreOne numbers) kids over

-- the number of a class with a node of this form, or that no node has it
abbrev pub IsClassWith : List Node → List ℕ → Op → List ℕ → Option ℕ → Type 0
IsClassWith nodes numbers o over (Some c) = (n : ℕ) × HasForm nodes numbers o over n × (at numbers n ≡ c)
IsClassWith nodes numbers o over None = (n : ℕ) → HasForm nodes numbers o over n → ⊥

-- no node of its class before n has the form of n
abbrev pub IsFirst : List Node → List ℕ → ℕ → Type 0
IsFirst nodes numbers n = (m : ℕ) (node : Node) → m < n → slice_get nodes n ≡ Some node → AreOne numbers m n → HasForm nodes numbers node.op node.kids m → ⊥

-- for each node whether it is the first of its form in its class
pub record AreFirst (nodes : List Node) (numbers : List ℕ) (firsts : List Bool) : Type 0 where
  pub long : length firsts ≡ length nodes
  pub each : (n : ℕ) → n < length nodes → IsTrue (slice_index_or firsts n false) ↔ IsFirst nodes numbers n

-- the nodes of the class of n: one of them, and the others
pub record AreMembers (numbers : List ℕ) (n one : ℕ) (others : List ℕ) : Type 0 where
  pub each : (k : ℕ) → ((one ≡ k) ⊎ Contains others k) ↔ ((k < length numbers) × AreOne numbers k n)
  pub apart : Contains others one → ⊥
