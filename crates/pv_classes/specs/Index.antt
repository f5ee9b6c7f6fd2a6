-- What a closing looks up, so that it visits few nodes.
use Rattle.std.specs.Prelude.{◌≡◌, ◌≢◌, ◌⊎◌, ◌↔◌, ℕ, ◌<◌, List, [], ◌∷◌, ◌++◌, length, Option, Some, None, slice_get, slice_index_or}
use Rattle.std.specs.List.{Contains, AllZip}
use Rattle.std.specs.Map.{lookup}
use Rattle.pv_graph.specs.declared.node.Node.{Node}
use Rattle.pv_graph.specs.contracts.node.NodePartialEq.TheImpl.{eq-value as node_eq}
use Rattle.pv_graph.specs.Nodes.{node_of}
use Rattle.pv_classes.specs.declared.join.Join.{Join}
use Rattle.pv_classes.specs.Partition.{Parts, IsPartition, at, AreOne, Merges, total}
use Rattle.pv_classes.specs.Linked.{Linked}
use Rattle.pv_classes.specs.Closest.{Is, IsOutside, Closest, AreOfKids}
use Rattle.pv_classes.specs.Numbered.{nodes_with}
use Rattle.pv_pattern.specs.Numbers.{op_numbers}

-- the parts of the nodes; for each node the nodes with it as a kid; for each number of an operation its nodes; tables of nodes by
-- their keys, one that copies share and one of these classes alone; the nodes that wait for the next closing; and those whose keys were put
-- into the own table, or found there
pub record Index : Type 0 where
  pub parts : Parts
  pub parents : List (List ℕ)
  pub by_number : List (List ℕ)
  pub shared : List (Node × ℕ)
  pub own : List (Node × ℕ)
  pub waiting : List ℕ
  pub by_own : List ℕ

-- ---- tables

-- what a table has for a node
abbrev pub found_in : List (Node × ℕ) → Node → Option ℕ
found_in table key = lookup (node_eq.it key) table

abbrev pub first_of : Option ℕ → Option ℕ → Option ℕ
first_of (Some e) f = Some e
first_of None f = f

-- .. and what the two tables have
abbrev pub found_by : Index → Node → Option ℕ
found_by i key = first_of (found_in i.own key) (found_in i.shared key)

-- a node has this number, and each other the one that it had
pub record Enters (old new : List (Node × ℕ)) (key : Node) (n : ℕ) : Type 0 where
  pub here : found_in new key ≡ Some n
  pub others : (other : Node) → other ≢ key → found_in new other ≡ found_in old other

-- the labels of these nodes
abbrev pub labels_of : List ℕ → List ℕ → List ℕ
labels_of labels [] = []
labels_of labels (k ∷ ks) = at labels k ∷ labels_of labels ks

-- the key of a node: its operation over the labels of its kids
abbrev pub key_of : List ℕ → Node → Node
key_of labels node = node_of node.op (labels_of labels node.kids)

-- node e has the operation of the key, over kids that are joined with those of the key
pub record IsEntry (nodes : List Node) (labels : List ℕ) (key : Node) (e : ℕ) : Type 0 where
  pub kids : List ℕ
  pub is : Is nodes e key.op kids
  pub below : (k : ℕ) → Contains key.kids k → k < length nodes
  pub one : AllZip (AreOne labels) kids key.kids

abbrev pub IsTable : List Node → List ℕ → List (Node × ℕ) → Type 0
IsTable nodes labels table = (key : Node) (e : ℕ) → found_in table key ≡ Some e → IsEntry nodes labels key e

-- ---- the index is that of these nodes

pub record IsIndex (nodes : List Node) (i : Index) : Type 0 where
  pub long : length i.parts.labels ≡ length nodes
  pub parts : IsPartition i.parts
  pub kids : (n k : ℕ) (node : Node) → slice_get nodes n ≡ Some node → Contains node.kids k → k < length nodes
  pub parents_long : length i.parents ≡ length nodes
  pub parents : (n k : ℕ) (node : Node) → slice_get nodes n ≡ Some node → Contains node.kids k → Contains (slice_index_or i.parents k []) n
  pub parents_in : (n k : ℕ) → Contains (slice_index_or i.parents k []) n → n < length nodes
  pub numbers_long : length i.by_number ≡ op_numbers
  pub numbered : (number : ℕ) → slice_index_or i.by_number number [] ≡ nodes_with number nodes
  pub shared : IsTable nodes i.parts.labels i.shared
  pub own : IsTable nodes i.parts.labels i.own
  pub waiting_in : (n : ℕ) → Contains i.waiting n → n < length nodes
  pub by_own_in : (n : ℕ) → Contains i.by_own n → n < length nodes

-- under the key of n the tables have a node that is joined with n; where the own one has it, n is noted
pub record IsFound (nodes : List Node) (i : Index) (n : ℕ) : Type 0 where
  pub node : Node
  pub e : ℕ
  pub is : slice_get nodes n ≡ Some node
  pub finds : found_by i (key_of i.parts.labels node) ≡ Some e
  pub one : AreOne i.parts.labels e n
  pub noted : (found_in i.own (key_of i.parts.labels node) ≡ None) ⊎ Contains i.by_own n

-- the node waits for the next closing, or is found
abbrev pub IsTracked : List Node → Index → ℕ → Type 0
IsTracked nodes i n = Contains i.waiting n ⊎ IsFound nodes i n

-- ---- joins

-- the parts are those that the joins make
pub record AreJoined (p : Parts) (joins : List Join) : Type 0 where
  pub parts : IsPartition p
  pub within : (j : Join) → Contains joins j → (j.first < length p.labels) × (j.second < length p.labels)
  pub linked : (a b : ℕ) → a < length p.labels → b < length p.labels → AreOne p.labels a b ↔ Linked (length p.labels) joins a b

-- two nodes are joined, and the parents of the nodes with a new label wait
pub record JoinsNodes (old new : Index) (before after : List Join) (j : Join) : Type 0 where
  pub moved : List ℕ
  pub merges : Merges old.parts new.parts j.first j.second moved
  pub woken : (n : ℕ) → Contains new.waiting n ↔ (Contains old.waiting n ⊎ ((k : ℕ) × Contains moved k × Contains (slice_index_or old.parents k []) n))
  pub rest : new ≡ record old { parts = new.parts; waiting = new.waiting }
  pub joins : after ≡ before ++ j ∷ []

-- a step of a closing: nothing is joined, or nodes by their kids
pub record Advances (nodes : List Node) (fixed : List ℕ) (old new : Index) (before after : List Join) : Type 0 where
  pub index : IsIndex nodes new
  pub coarser : (a b : ℕ) → a < length nodes → b < length nodes → AreOne old.parts.labels a b → AreOne new.parts.labels a b
  pub sound : (a b : ℕ) → a < length nodes → b < length nodes → AreOne new.parts.labels a b → Closest nodes fixed (AreOne old.parts.labels) a b
  pub more : List Join
  pub joins : after ≡ before ++ more
  pub of_kids : AreOfKids nodes fixed before more
  pub tracked : (m : ℕ) → m < length nodes → IsTracked nodes old m → IsTracked nodes new m
  pub less : (total new.parts.numbers < total old.parts.numbers) ⊎ ((new.parts ≡ old.parts) × (new.waiting ≡ old.waiting))

-- node n has an operation outside the fixed depths
abbrev pub IsOutsideAt : List Node → List ℕ → ℕ → Type 0
IsOutsideAt nodes fixed n = (node : Node) → slice_get nodes n ≡ Some node → IsOutside fixed node.op

-- node n is noted, where the own table has the key
pub record Notes (own : List (Node × ℕ)) (key : Node) (n : ℕ) (old new : List ℕ) : Type 0 where
  pub keeps : (m : ℕ) → Contains old m → Contains new m
  pub only : (m : ℕ) → Contains new m → Contains old m ⊎ (n ≡ m)
  pub noted : (found_in own key ≡ None) ⊎ Contains new n

-- a new key has the number n, in one of the tables
pub record Inserts (old new : Index) (key : Node) (n : ℕ) : Type 0 where
  pub rest : new ≡ record old { shared = new.shared; own = new.own; by_own = new.by_own }
  pub shared : (other : Node) (e : ℕ) → found_in new.shared other ≡ Some e → (found_in old.shared other ≡ Some e) ⊎ ((other ≡ key) × (n ≡ e))
  pub own : (other : Node) (e : ℕ) → found_in new.own other ≡ Some e → (found_in old.own other ≡ Some e) ⊎ ((other ≡ key) × (n ≡ e))
  pub here : found_by new key ≡ Some n
  pub others : (other : Node) → other ≢ key → found_by new other ≡ found_by old other
  pub own_others : (other : Node) → other ≢ key → found_in new.own other ≡ found_in old.own other
  pub noted : (found_in new.own key ≡ None) ⊎ Contains new.by_own n
  pub keeps : (m : ℕ) → Contains old.by_own m → Contains new.by_own m
  pub only : (m : ℕ) → Contains new.by_own m → Contains old.by_own m ⊎ (n ≡ m)

-- equal parts with the shared table alone; nodes whose keys may be in the own one wait
pub record IsCopy (old new : Index) : Type 0 where
  pub rest : new ≡ record old { own = []; waiting = new.waiting; by_own = [] }
  pub waits : (n : ℕ) → Contains new.waiting n ↔ (Contains old.waiting n ⊎ Contains old.by_own n)
