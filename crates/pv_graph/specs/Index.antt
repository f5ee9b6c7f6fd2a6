-- The numbers of nodes, found by the node.
use Rattle.std.specs.Prelude.{◌≡◌, ◌≢◌, ℕ, min, List, Option, Some, None}
use Rattle.std.specs.HashMap.{HashMap, get}
use Rattle.std.specs.declared.hash.FoldHasher.{FoldHasher}
use Rattle.std.specs.declared.hash.BuildHasherDefault.{BuildHasherDefault}
use Rattle.pv_graph.specs.declared.node.Node.{Node}
use Rattle.pv_graph.specs.contracts.node.NodePartialEq.TheImpl.{eq-value as node_eq}
use Rattle.pv_graph.specs.Nodes.{IsOpen, IsFirst, IsAbsent}

-- a map from nodes to numbers
abbrev pub Numbers : Type 0
Numbers = HashMap Node ℕ (BuildHasherDefault FoldHasher)

-- the number of a node
abbrev pub number_in : Numbers → Node → Option ℕ
number_in numbers node = get node_eq.it numbers node

-- the smaller of a number, if there is one, and n
abbrev pub least_of : Option ℕ → ℕ → ℕ
least_of None n = n
least_of (Some m) n = min m n

-- a node has this number, and each other the one that it had
pub record Renumbers (old new : Numbers) (node : Node) (n : ℕ) : Type 0 where
  pub here : number_in new node ≡ Some n
  pub others : (other : Node) → other ≢ node → number_in new other ≡ number_in old other

-- each node but a theta that is not tied has its least number, and no other node has one
pub record IsIndex (nodes : List Node) (numbers : Numbers) : Type 0 where
  pub first : (node : Node) (n : ℕ) → number_in numbers node ≡ Some n → IsFirst nodes node n
  pub tied : (node : Node) → IsOpen node → number_in numbers node ≡ None
  pub all : (node : Node) → number_in numbers node ≡ None → (IsOpen node → ⊥) → IsAbsent nodes node
