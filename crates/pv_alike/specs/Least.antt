-- The least graph of two nodes of a graph.
use Rattle.std.specs.Prelude.{◌≡◌, ◌↔◌, ℕ, ◌<◌, List, [], ◌∷◌, false, length}
use Rattle.std.specs.List.{range_with_len}
use Rattle.pv_value.specs.declared.world.World.{World}
use Rattle.pv_value.specs.declared.outcome.Input.{Input}
use Rattle.pv_value.specs.declared.outcome.Val.{Val}
use Rattle.pv_graph.specs.declared.node.Node.{Node}
use Rattle.pv_denote.specs.Denote.{Index}
use Rattle.pv_denote.specs.Denote as denote
use Rattle.pv_graph.specs.Unfold as trees
use Rattle.pv_graph.specs.Graphs.{Graph, form_at, IsWellMade}
use Rattle.pv_alike.specs.Visits.{Visits}

-- a graph, and two of its nodes as roots
pub record Rooted : Type 0 where
  pub graph : Graph
  pub first : ℕ
  pub second : ℕ

-- nodes unfold equally
abbrev pub UnfoldEqually : List Node → ℕ → ℕ → Type 0
UnfoldEqually g a b = trees.UnfoldEqually (form_at g) a b

-- a node of one graph unfolds as a node of another
abbrev pub UnfoldsAs : List Node → ℕ → List Node → ℕ → Type 0
UnfoldsAs h r g a = trees.UnfoldsAs (form_at h) (form_at g) r a

-- a node of one graph has exactly the values of a node of another
abbrev pub MeansAs : List Node → ℕ → List Node → ℕ → Type 0
MeansAs h r g a = (w : World) (x : Input) (i : Index) (v : Val) → denote.Value (form_at h) w x r i v ↔ denote.Value (form_at g) w x a i v

-- h, with r and s, are the nodes of the least graph of the nodes a and b of g: the roots unfold as these nodes, no two
-- nodes unfold equally, and the nodes are exactly those that are reached, numbered by their first visits, from the
-- first root and then from the second, a node before its kids and kids from left to right
pub record IsLeast (g : List Node) (a b : ℕ) (h : List Node) (r s : ℕ) : Type 0 where
  pub first_root : UnfoldsAs h r g a
  pub second_root : UnfoldsAs h s g b
  pub distinct : (m n : ℕ) → m < length h → n < length h → UnfoldEqually h m n → m ≡ n
  pub numbered : Visits h (range_with_len 0 (length h)) [] (r ∷ s ∷ [])

-- a sealed and well-made graph, of which all nodes are the base, with the roots: the least graph of the nodes a and b of g
pub record IsLeastOf (g : Graph) (a b : ℕ) (l : Rooted) : Type 0 where
  pub least : IsLeast g.nodes a b l.graph.nodes l.first l.second
  pub sealed : l.graph.is_open ≡ false
  pub base : l.graph.base ≡ length l.graph.nodes
  pub made : IsWellMade l.graph
