-- What is given for the nodes of a tree, and what the tree makes of that; private to this crate.
use Rattle.std.specs.Prelude.{◌≡◌, ◌≢◌, ℕ, ◌-◌, ◌<◌, List, length, map, Option, Some, None, unwrap_or, slice_get, ⊤}
use Rattle.pv_graph.specs.declared.node.OpSort.{OpSort}
use Rattle.pv_graph.specs.declared.node.OpSort.TheVariants.{I, R}
use Rattle.pv_graph.specs.declared.node.Node.{Node}
use Rattle.pv_graph.specs.Graphs.{Graph}
use Rattle.pv_equations.specs.Exp.{Exp}
use Rattle.pv_decide.specs.declared.tree.TreeNode.{TreeNode}
use Rattle.pv_decide.specs.declared.tree.TreeNode.TheVariants as node
use Rattle.pv_decide.specs.Folds.{Folds}
use Rattle.pv_terms.specs.declared.names.Named.{Named}
use Rattle.pv_terms.specs.Reads.{Reads, AreNames}
use Rattle.pv_terms.specs.Terms.{IsOfSort}
use Rattle.pv_fold.specs.Fold.{IsOrdered, IsMaybeOf, ReadsMaybe}
use Rattle.pv_block.specs.Ran.{slot_at}
use Rattle.pv_build.specs.declared.source.Given.{Given}
use Rattle.pv_build.specs.declared.source.Source.{Source}
use Rattle.pv_build.specs.declared.source.Source.TheVariants as source

-- ---- the nodes that are given

-- the node that is given where the slot s is asked for
abbrev pub given_by : Source → ℕ → Option ℕ
given_by source.Nothing s = None
given_by (source.Value n) s = Some n
given_by (source.Exit x) s = slot_at x s

-- for each node of a tree; any number where nothing is
abbrev pub given_nodes : List Source → ℕ → List ℕ
given_nodes sources s = map (λ x. unwrap_or (given_by x s) 0) sources

-- there is a root, and the sides of a test are earlier nodes
pub record IsTree (nodes : List TreeNode) : Type 0 where
  pub root : 0 < length nodes
  pub ordered : IsOrdered nodes

-- ---- sorts

abbrev pub HasNodeOf : Graph → Option ℕ → OpSort → Type 0
HasNodeOf g given t = (n : ℕ) × (given ≡ Some n) × IsOfSort g n t

-- what is given for a leaf is of this sort, and a test is an int
abbrev pub GivesAt : Graph → Source → ℕ → OpSort → TreeNode → Type 0
GivesAt g k s t (node.Leaf b e) = HasNodeOf g (given_by k s) t
GivesAt g k s t (node.Test b e y m) = HasNodeOf g (given_by k s) I
GivesAt g k s t node.Nothing = ⊤
GivesAt g k s t node.Dead = ⊤

-- so it is for each node of the tree; the sort isn't a root's, and what dead nodes give is of the sort too
pub record Gives (g : Graph) (x : Given) (s : ℕ) (dead : Option ℕ) (t : OpSort) : Type 0 where
  pub value : t ≢ R
  pub size : length x.sources.items ≡ length x.nodes.items
  pub each : (n : ℕ) (y : TreeNode) (k : Source) → slice_get x.nodes.items n ≡ Some y → slice_get x.sources.items n ≡ Some k → GivesAt g k s t y
  pub dead_is : IsMaybeOf g t dead

-- .. of some sort
abbrev pub GivesOne : Graph → Given → ℕ → Option ℕ → Type 0
GivesOne g x s dead = (t : OpSort) × Gives g x s dead t

-- ---- what the nodes stand for

abbrev pub HasNodeFor : List Node → List Named → Option ℕ → Exp → Type 0
HasNodeFor nodes names given e = (n : ℕ) × (given ≡ Some n) × Reads nodes names n e

abbrev pub ReadsAt : List Node → List Named → Source → ℕ → (ℕ → ℕ → Exp) → (ℕ → ℕ → Exp) → TreeNode → Type 0
ReadsAt nodes names k s leaf test (node.Leaf b e) = HasNodeFor nodes names (given_by k s) (leaf b e)
ReadsAt nodes names k s leaf test (node.Test b t y m) = HasNodeFor nodes names (given_by k s) (test b t)
ReadsAt nodes names k s leaf test node.Nothing = ⊤
ReadsAt nodes names k s leaf test node.Dead = ⊤

-- with what is given nodes stand for, the tree gives q
pub record FoldsTo (nodes : List Node) (names : List Named) (x : Given) (s : ℕ) (dead : Option ℕ) (q : Option Exp) : Type 0 where
  pub depth : ℕ → ℕ
  pub are_names : AreNames depth nodes names
  pub size : length x.sources.items ≡ length x.nodes.items
  pub leaf : ℕ → ℕ → Exp
  pub test : ℕ → ℕ → Exp
  pub ended : Option Exp
  pub each : (n : ℕ) (y : TreeNode) (k : Source) → slice_get x.nodes.items n ≡ Some y → slice_get x.sources.items n ≡ Some k → ReadsAt nodes names k s leaf test y
  pub dead_gives : ReadsMaybe nodes names dead ended
  pub folds : Folds x.nodes.items leaf test ended (length x.nodes.items - 1) q

-- .. an expression
abbrev pub FoldsToOne : List Node → Given → ℕ → Option ℕ → Type 0
FoldsToOne nodes x s dead = (names : List Named) × (e : Exp) × FoldsTo nodes names x s dead (Some e)

-- ---- the node that a fold makes

-- of the sort of what is given
abbrev pub MaybeSorted : Graph → Given → ℕ → Option ℕ → Graph → Option ℕ → Type 0
MaybeSorted old x s dead new r = (t : OpSort) → Gives old x s dead t → IsMaybeOf new t r

abbrev pub IsSortedFold : Graph → Given → ℕ → Option ℕ → Graph → ℕ → Type 0
IsSortedFold old x s dead new n = (t : OpSort) → Gives old x s dead t → IsOfSort new n t

-- and it stands for what the tree gives
abbrev pub MaybeReads : Graph → Given → ℕ → Option ℕ → Graph → Option ℕ → Type 0
MaybeReads old x s dead new r = (names : List Named) (q : Option Exp) → FoldsTo old.nodes names x s dead q → ReadsMaybe new.nodes names r q

abbrev pub IsReadFold : Graph → Given → ℕ → Option ℕ → Graph → ℕ → Type 0
IsReadFold old x s dead new n = (names : List Named) (e : Exp) → FoldsTo old.nodes names x s dead (Some e) → Reads new.nodes names n e
