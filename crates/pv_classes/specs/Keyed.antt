-- Keys of nodes, as a look at all nodes sees them.
use Rattle.std.specs.Prelude.{◌≡◌, ◌≢◌, ◌⊎◌, ◌↔◌, ℕ, ◌<◌, Bool, true, false, List, ◌∷◌, length, Option, Some, None, slice_get, slice_index_or, IsTrue}
use Rattle.std.specs.List.{Contains}
use Rattle.pv_graph.specs.declared.node.Op.{Op}
use Rattle.pv_graph.specs.declared.node.Node.{Node}
use Rattle.pv_graph.specs.Nodes.{node_of}
use Rattle.pv_classes.specs.Partition.{AreOne}
use Rattle.pv_classes.specs.Forms.{HasForm}
use Rattle.pv_classes.specs.Index.{found_in, key_of, labels_of}

-- node n has this key
abbrev pub HasKey : List Node → List ℕ → Node → ℕ → Type 0
HasKey nodes labels key n = (node : Node) × (slice_get nodes n ≡ Some node) × (key_of labels node ≡ key)

-- a node of a list with this key, or that it has none
abbrev pub IsKeyedIn : List Node → List ℕ → List ℕ → Node → Option ℕ → Type 0
IsKeyedIn nodes labels list key (Some n) = HasKey nodes labels key n
IsKeyedIn nodes labels list key None = (n : ℕ) → Contains list n → HasKey nodes labels key n → ⊥

-- a node of this form, or that no node has it
abbrev pub IsNodeWith : List Node → List ℕ → Op → List ℕ → Option ℕ → Type 0
IsNodeWith nodes labels o over (Some n) = HasForm nodes labels o over n
IsNodeWith nodes labels o over None = (n : ℕ) → HasForm nodes labels o over n → ⊥

-- a key was put in, where the table lacked it
pub record Keeps (old new : List (Node × ℕ)) (key : Node) (is_new : Bool) : Type 0 where
  pub says : IsTrue is_new ↔ (found_in old key ≡ None)
  pub lacks : (other : Node) → (found_in new other ≡ None) ↔ ((found_in old other ≡ None) × (key ≢ other))

-- the key of node n within its class: its operation over the label of its class and those of its kids
abbrev pub class_key : List ℕ → ℕ → Node → Node
class_key labels n node = node_of node.op (labels_of labels (n ∷ node.kids))

-- node n has this key within its class
abbrev pub HasClassKey : List Node → List ℕ → Node → ℕ → Type 0
HasClassKey nodes labels key n = (node : Node) × (slice_get nodes n ≡ Some node) × (class_key labels n node ≡ key)

-- no other node has the label of n
abbrev pub IsAlone : List ℕ → ℕ → Type 0
IsAlone labels n = (m : ℕ) → m < length labels → AreOne labels m n → m ≡ n

-- node n is noted in a table of keys: nothing has to be where it is alone in its class; else its key within its class is put in where the table lacked it
abbrev pub Notes : List Node → List ℕ → ℕ → List (Node × ℕ) → List (Node × ℕ) → Bool → Type 0
Notes nodes labels n old new is_first =
    (IsAlone labels n × (new ≡ old) × (is_first ≡ true)) ⊎ ((node : Node) × (slice_get nodes n ≡ Some node) × Keeps old new (class_key labels n node) is_first)

-- no node before n has the key of n within its class
abbrev pub IsFirstKey : List Node → List ℕ → ℕ → Type 0
IsFirstKey nodes labels n = (m : ℕ) (node : Node) → m < n → slice_get nodes n ≡ Some node → HasClassKey nodes labels (class_key labels n node) m → ⊥

-- for each node whether it is the first with its key within its class
pub record AreFirstKeys (nodes : List Node) (labels : List ℕ) (firsts : List Bool) : Type 0 where
  pub long : length firsts ≡ length nodes
  pub each : (k : ℕ) → k < length nodes → IsTrue (slice_index_or firsts k false) ↔ IsFirstKey nodes labels k

-- for each of the first n nodes whether it is that, where the table has the keys of these nodes, but perhaps not of those that are alone in their classes
pub record AreFirstTo (n : ℕ) (nodes : List Node) (labels : List ℕ) (seen : List (Node × ℕ)) (firsts : List Bool) : Type 0 where
  pub long : length firsts ≡ n
  pub alone : (key : Node) → found_in seen key ≡ None → (m : ℕ) → m < n → HasClassKey nodes labels key m → IsAlone labels m
  pub lacks : (key : Node) → ((m : ℕ) → m < n → HasClassKey nodes labels key m → ⊥) → found_in seen key ≡ None
  pub each : (k : ℕ) → k < n → IsTrue (slice_index_or firsts k false) ↔ IsFirstKey nodes labels k
