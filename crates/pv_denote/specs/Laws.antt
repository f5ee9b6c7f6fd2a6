-- The laws of what nodes mean.
use Rattle.std.specs.Prelude.{◌≡◌, ◌↔◌, ℕ, ◌<◌, ◌≤◌, false, List, [], length, Some, slice_get}
use Rattle.pv_value.specs.Worlds.{IsWorld}
use Rattle.pv_value.specs.Inputs.{IsInput}
use Rattle.pv_value.specs.declared.world.World.{World}
use Rattle.pv_value.specs.declared.outcome.Input.{Input}
use Rattle.pv_value.specs.declared.outcome.Val.{Val}
use Rattle.pv_value.specs.declared.outcome.Val.TheVariants as val
use Rattle.pv_graph.specs.declared.node.Op.{Op}
use Rattle.pv_graph.specs.declared.node.OpSort.{OpSort}
use Rattle.pv_graph.specs.Ops.{shape}
use Rattle.pv_graph.specs.Forms.{form}
use Rattle.pv_denote.specs.Denote.{Index, at_depth, den}
use Rattle.pv_denote.specs.Means.{Means}
use Rattle.pv_denote.specs.Typed.{IsOf}
use Rattle.pv_graph.specs.Unfold.{Tree, Trees, over, UnfoldsAs}
use Rattle.pv_graph.specs.Finite.{IsTree}
use Rattle.pv_graph.specs.Walks.{In, Reaches, Free, IsClosed, IsSettled, Spine}
use Rattle.pv_graph.specs.Graphs.{Graph, form_at, IsGraph, IsWellMade, Extends}
use Rattle.pv_graph.specs.Calls.{Tied}
use Rattle.pv_denote.specs.Meaning.{Value}
use Rattle.pv_denote.specs.TreeValues.{list_of, TreeValue}

-- more fuel keeps a value
abbrev pub MoreFuel : Type 0
MoreFuel = (g : Graph) (w : World) (x : Input) (fuel later n : ℕ) (i : Index) (v : Val) → fuel ≤ later → den (form_at g.nodes) w x fuel n i ≡ Some v → den (form_at g.nodes) w x later n i ≡ Some v

-- a node has at most one value at an index
abbrev pub ValueOnce : Type 0
ValueOnce = (g : Graph) (w : World) (x : Input) (n : ℕ) (i : Index) (u v : Val) → Value g w x n i u → Value g w x n i v → u ≡ v

-- the values of a node are exactly those that its operation means over the values of its kids
abbrev pub ValueMeans : Type 0
ValueMeans = (g : Graph) (w : World) (x : Input) (n : ℕ) (i : Index) (v : Val) (o : Op) (ks : List ℕ) → form_at g.nodes n ≡ Some (form o ks) → Value g w x n i v ↔ Means w x (Value g w x) (shape o) o ks i v

-- nodes that unfold equally, also in two graphs, have the same values
abbrev pub UnfoldsMeans : Type 0
UnfoldsMeans = (g h : Graph) (w : World) (x : Input) (a b : ℕ) (i : Index) (v : Val) → UnfoldsAs (form_at g.nodes) (form_at h.nodes) a b → Value g w x a i v ↔ Value h w x b i v

-- a graph that keeps its nodes keeps their values
abbrev pub GrowthKeeps : Type 0
GrowthKeeps = (old new : Graph) → IsGraph old → Extends old new → (n : ℕ) → n < length old.nodes
    → (w : World) (x : Input) (i : Index) (v : Val) → Value new w x n i v ↔ Value old w x n i v

-- a graph whose theta is tied keeps the unfoldings and the values of the nodes that don't reach the theta
pub record TieKeeps : Type 0 where
  pub unfoldings : (old new : Graph) (theta first second n : ℕ) → Tied old new theta first second → (Reaches (form_at old.nodes) [] n theta → ⊥) → UnfoldsAs (form_at new.nodes) (form_at old.nodes) n n
  pub values : (old new : Graph) (theta first second n : ℕ) → Tied old new theta first second → (Reaches (form_at old.nodes) [] n theta → ⊥)
      → (w : World) (x : Input) (i : Index) (v : Val) → Value new w x n i v ↔ Value old w x n i v

-- where a depth isn't free, the iteration at that depth doesn't matter
abbrev pub NotFree : Type 0
NotFree = (g : Graph) (w : World) (x : Input) (n : ℕ) (i : Index) (d k : ℕ) (v : Val) → (Free (form_at g.nodes) d n → ⊥) → Value g w x n i v ↔ Value g w x n (at_depth i d k) v

-- a closed node with a value has it at every index
abbrev pub ClosedValue : Type 0
ClosedValue = (g : Graph) (w : World) (x : Input) (n : ℕ) (i j : Index) (v : Val) → IsClosed (form_at g.nodes) n → Value g w x n i v → Value g w x n j v

-- what is on the spine of a token with a value has a value
abbrev pub SpineValue : Type 0
SpineValue = (g : Graph) (w : World) (x : Input) (t n : ℕ) (i : Index) (v : Val) → Spine (form_at g.nodes) t n → Value g w x t i v → (u : Val) × Value g w x n i u

-- a value of a node is one of its sort, in range
abbrev pub ValueSort : Type 0
ValueSort = (g : Graph) (w : World) (x : Input) (n : ℕ) (s : OpSort) (i : Index) (v : Val) → IsGraph g → g.is_open ≡ false → IsWorld w → IsInput x → slice_get g.sorts n ≡ Some s → Value g w x n i v → IsOf s v

-- a settled node of a well-made graph has a value at every index, in each world and input in which the assumed nodes have one
abbrev pub SettledValue : Type 0
SettledValue = (g : Graph) (w : World) (x : Input) (assumed : List ℕ) (n : ℕ) (i : Index) → IsWellMade g → g.is_open ≡ false → IsWorld w → IsInput x
    → ((e : ℕ) (j : Index) → In assumed e → (v : Val) × Value g w x e j v) → n < length g.nodes → IsSettled (form_at g.nodes) assumed n → (v : Val) × Value g w x n i v

-- a count is less than the fuel that gives it
abbrev pub CountLow : Type 0
CountLow = (g : Graph) (w : World) (x : Input) (fuel n : ℕ) (i : Index) (k : ℕ) → den (form_at g.nodes) w x fuel n i ≡ Some (val.Count k) → k < fuel

-- a node that has a tree has exactly the values of the tree; a tree has exactly those that its operation means over the
-- values of the trees under it, and at most one
pub record TreesMean : Type 0 where
  pub node : (g : Graph) (w : World) (x : Input) (n : ℕ) (t : Tree) (i : Index) (v : Val) → IsTree (form_at g.nodes) n t → Value g w x n i v ↔ TreeValue w x t i v
  pub means : (w : World) (x : Input) (o : Op) (ts : Trees) (i : Index) (v : Val) → TreeValue w x (over o ts) i v ↔ Means w x (TreeValue w x) (shape o) o (list_of ts) i v
  pub once : (w : World) (x : Input) (t : Tree) (i : Index) (u v : Val) → TreeValue w x t i u → TreeValue w x t i v → u ≡ v
