-- Two systems with the same classes: terms over a least graph, and the nodes of a graph that grew from it. The proofs compare the two.
use Rattle.std.specs.Prelude.{◌≡◌, ◌⊎◌, ℕ, List, map, length, Some, slice_get}
use Rattle.std.specs.List.{AllZip}
use Rattle.pv_graph.specs.declared.node.Op.{Op}
use Rattle.pv_graph.specs.Forms.{form}
use Rattle.pv_graph.specs.Walks.{In}
use Rattle.pv_steps.specs.Facts.{View}
use Rattle.pv_heights.specs.Systems.{System, Subset, Relation}
use Rattle.pv_heights.specs.Heights.{IsBase}

-- x is no node of the least graph
abbrev pub IsNew : View → (S : System) → S.Thing → Type 0
IsNew view S x = (n : ℕ) → IsBase view n → x ≡ S.node n → ⊥

-- what a system keeps to: a thing has one operation and one list of kids; each node of the least graph is a thing of its own, with the
-- operation and kids of the node; and it is decided whether a thing is such a node
pub record IsSystem (view : View) (S : System) : Type 0 where
  pub once : (x : S.Thing) (o p : Op) (ks ls : List S.Thing) → S.Has x o ks → S.Has x p ls → (o ≡ p) × (ks ≡ ls)
  pub node_once : (m n : ℕ) → S.node m ≡ S.node n → m ≡ n
  pub has : (n : ℕ) (o : Op) (ks : List ℕ) → view n ≡ Some (form o ks) → S.Has (S.node n) o (map S.node ks)
  pub sorted : (x : S.Thing) → IsNew view S x ⊎ ((n : ℕ) × IsBase view n × (x ≡ S.node n))

-- the kids of members are members
abbrev pub AreClosed : (S : System) → Subset S → Type 0
AreClosed S Member = (a : S.Thing) (o : Op) (ks : List S.Thing) (k : S.Thing) → Member a → S.Has a o ks → In ks k → Member k

-- each node is a member, and Joins is an equivalence and a congruence on the members
pub record IsCongruence (view : View) (S : System) (Member : Subset S) (Joins : Relation S) : Type 0 where
  pub nodes : (n : ℕ) → IsBase view n → Member (S.node n)
  pub same : (a : S.Thing) → Member a → Joins a a
  pub flip : (a b : S.Thing) → Joins b a → Joins a b
  pub chain : (a b c : S.Thing) → Joins a b → Joins b c → Joins a c
  pub kids : (a b : S.Thing) (o : Op) (ks ls : List S.Thing) → Member a → Member b → S.Has a o ks → S.Has b o ls → AllZip Joins ks ls → Joins a b

-- y, a thing of T, stands for x, a thing of S: both are one node of the least graph; or x is new, and y is a member with its operation
-- over kids that are joined to things that stand for the kids of x
pub data StandsFor (view : View) (S T : System) (Member : Subset T) (Joins : Relation T) : S.Thing → T.Thing → Type 0 where
  node : (n : ℕ) (x : S.Thing) (y : T.Thing) → IsBase view n → x ≡ S.node n → y ≡ T.node n → StandsFor view S T Member Joins x y
  made : (x : S.Thing) (y : T.Thing) (o : Op) (ks : List S.Thing) (ls ws : List T.Thing) → IsNew view S x → S.Has x o ks → Member y → T.Has y o ls → AllZip Joins ws ls → length ks ≡ length ws
      → ((j : ℕ) (k : S.Thing) (w : T.Thing) → slice_get ks j ≡ Some k → slice_get ws j ≡ Some w → StandsFor view S T Member Joins k w) → StandsFor view S T Member Joins x y

-- y is joined to a thing that stands for x
pub record Near (view : View) (S T : System) (Member : Subset T) (Joins : Relation T) (x : S.Thing) (y : T.Thing) : Type 0 where
  pub thing : T.Thing
  pub stands : StandsFor view S T Member Joins x thing
  pub joins : Joins thing y

-- the classes are the same: for each member of one side something of the other stands, and what stands for joined things is joined
pub record SameClasses (view : View) (S T : System) (C : Subset S) (D : Subset T) (J : Relation S) (E : Relation T) : Type 0 where
  pub there : (a : S.Thing) → C a → (y : T.Thing) × StandsFor view S T D E a y
  pub back : (y : T.Thing) → D y → (a : S.Thing) × StandsFor view T S C J y a
  pub joins : (a b : S.Thing) (y z : T.Thing) → J a b → StandsFor view S T D E a y → StandsFor view S T D E b z → E y z
  pub joins_back : (y z : T.Thing) (a b : S.Thing) → E y z → StandsFor view T S C J y a → StandsFor view T S C J z b → J a b
