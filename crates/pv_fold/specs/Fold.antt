-- The fold of a decision tree into a graph.
use Rattle.std.specs.Prelude.{◌≡◌, ◌≢◌, ℕ, ◌<◌, List, Option, Some, None, slice_get, slice_index, ⊤}
use Rattle.std.specs.List.{All}
use Rattle.pv_graph.specs.declared.node.OpSort.{OpSort}
use Rattle.pv_graph.specs.declared.node.OpSort.TheVariants.{I, R}
use Rattle.pv_graph.specs.declared.node.Node.{Node}
use Rattle.pv_graph.specs.Graphs.{Graph}
use Rattle.pv_equations.specs.Exp.{Exp}
use Rattle.pv_equations.specs.Equations.{Joins}
use Rattle.pv_decide.specs.declared.tree.TreeNode.{TreeNode}
use Rattle.pv_decide.specs.declared.tree.TreeNode.TheVariants as node
use Rattle.pv_decide.specs.Folds.{Folds}
use Rattle.pv_terms.specs.declared.names.Named.{Named}
use Rattle.pv_terms.specs.Reads.{Reads, AreNames}
use Rattle.pv_terms.specs.Terms.{IsOfSort}

-- the sides of a test are earlier nodes
abbrev pub IsOrdered : List TreeNode → Type 0
IsOrdered tree = (n b t yes' no' : ℕ) → slice_get tree n ≡ Some (node.Test b t yes' no') → (yes' < n) × (no' < n)

-- ---- sorts

-- the node is of the sort, where there is one
abbrev pub IsMaybeOf : Graph → OpSort → Option ℕ → Type 0
IsMaybeOf g s None = ⊤
IsMaybeOf g s (Some n) = IsOfSort g n s

abbrev pub AreMaybeOf : Graph → OpSort → List (Option ℕ) → Type 0
AreMaybeOf g s made = All (IsMaybeOf g s) made

-- both sides of a test are of one sort, which isn't a root's
pub record AreAlike (g : Graph) (yes' no' : Option ℕ) : Type 0 where
  pub sort_ : OpSort
  pub value : sort_ ≢ R
  pub yes_is : IsMaybeOf g sort_ yes'
  pub no_is : IsMaybeOf g sort_ no'

-- what is given for leaves, and for dead nodes, is of the sort s, which isn't a root's; a test is an int
pub record GivenSort (g : Graph) (tree : List TreeNode) (given : List ℕ) (dead : Option ℕ) (s : OpSort) : Type 0 where
  pub value : s ≢ R
  pub leaves : (n b e : ℕ) → slice_get tree n ≡ Some (node.Leaf b e) → IsOfSort g (slice_index given n) s
  pub tests : (n b t yes' no' : ℕ) → slice_get tree n ≡ Some (node.Test b t yes' no') → IsOfSort g (slice_index given n) I
  pub dead_is : IsMaybeOf g s dead

abbrev pub HaveOneSort : Graph → List TreeNode → List ℕ → Option ℕ → Type 0
HaveOneSort g tree given dead = (s : OpSort) × GivenSort g tree given dead s

-- .. and the nodes made so far too
abbrev pub HaveOneSortWith : Graph → List TreeNode → List ℕ → Option ℕ → List (Option ℕ) → Type 0
HaveOneSortWith g tree given dead made = (s : OpSort) × GivenSort g tree given dead s × AreMaybeOf g s made

-- ---- what the nodes stand for

-- both are nothing, or a node and what it stands for
abbrev pub ReadsMaybe : List Node → List Named → Option ℕ → Option Exp → Type 0
ReadsMaybe nodes names None r = r ≡ None
ReadsMaybe nodes names (Some n) r = (e : Exp) × Reads nodes names n e × (r ≡ Some e)

-- r stands for what a test with these sides gives
abbrev pub ReadsJoin : Graph → ℕ → Option ℕ → Option ℕ → Graph → Option ℕ → Type 0
ReadsJoin old test yes' no' new r = (depth : ℕ → ℕ) (names : List Named) (c : Exp) (u v q : Option Exp) → AreNames depth old.nodes names
    → Reads old.nodes names test c → ReadsMaybe old.nodes names yes' u → ReadsMaybe old.nodes names no' v → Joins c u v q → ReadsMaybe new.nodes names r q

-- what is given stands for what leaves give, for tests, and for what dead nodes give
pub record AreGiven (nodes : List Node) (names : List Named) (tree : List TreeNode) (given : List ℕ) (dead : Option ℕ) (leaf test : ℕ → ℕ → Exp) (d : Option Exp) : Type 0 where
  pub leaves : (n b e : ℕ) → slice_get tree n ≡ Some (node.Leaf b e) → Reads nodes names (slice_index given n) (leaf b e)
  pub tests : (n b t yes' no' : ℕ) → slice_get tree n ≡ Some (node.Test b t yes' no') → Reads nodes names (slice_index given n) (test b t)
  pub dead_gives : ReadsMaybe nodes names dead d

-- the nodes made stand for what the first nodes of the tree give
abbrev pub AreMade : List Node → List Named → List TreeNode → (ℕ → ℕ → Exp) → (ℕ → ℕ → Exp) → Option Exp → List (Option ℕ) → Type 0
AreMade nodes names tree leaf test d made = (n : ℕ) (r : Option Exp) (one : Option ℕ) → slice_get made n ≡ Some one → Folds tree leaf test d n r → ReadsMaybe nodes names one r

-- `one` stands for what the node i of the tree gives, where those before it are made
abbrev pub ReadsOne : Graph → List TreeNode → List ℕ → Option ℕ → List (Option ℕ) → ℕ → Graph → Option ℕ → Type 0
ReadsOne old tree given dead made i new one = (depth : ℕ → ℕ) (names : List Named) (leaf test : ℕ → ℕ → Exp) (d : Option Exp) → AreNames depth old.nodes names
    → AreGiven old.nodes names tree given dead leaf test d → AreMade old.nodes names tree leaf test d made → (r : Option Exp) → Folds tree leaf test d i r → ReadsMaybe new.nodes names one r

-- whatever is given, the nodes made stand for what the first nodes of the tree give
abbrev pub ReadsFold : Graph → List TreeNode → List ℕ → Option ℕ → Graph → List (Option ℕ) → Type 0
ReadsFold old tree given dead new made = (depth : ℕ → ℕ) (names : List Named) (leaf test : ℕ → ℕ → Exp) (d : Option Exp) → AreNames depth old.nodes names
    → AreGiven old.nodes names tree given dead leaf test d → AreMade new.nodes names tree leaf test d made

-- the nodes made are of the sort of what was given
abbrev pub FoldKeepsSort : Graph → List TreeNode → List ℕ → Option ℕ → Graph → List (Option ℕ) → Type 0
FoldKeepsSort old tree given dead new made = (s : OpSort) → GivenSort old tree given dead s → AreMaybeOf new s made

abbrev pub JoinKeepsSort : Graph → Option ℕ → Option ℕ → Graph → Option ℕ → Type 0
JoinKeepsSort old yes' no' new r = (s : OpSort) → s ≢ R → IsMaybeOf old s yes' → IsMaybeOf old s no' → IsMaybeOf new s r

abbrev pub OneKeepsSort : Graph → List TreeNode → List ℕ → Option ℕ → List (Option ℕ) → Graph → Option ℕ → Type 0
OneKeepsSort old tree given dead made new r = (s : OpSort) → GivenSort old tree given dead s → AreMaybeOf old s made → IsMaybeOf new s r
