-- The laws of nodes that stand for expressions.
use Rattle.std.specs.Prelude.{◌≡◌, ◌↔◌, ◌⊎◌, ℕ, ◌<◌, List, [], ◌∷◌, length, Some, slice_get}
use Rattle.pv_graph.specs.declared.node.Op.TheVariants as op
use Rattle.pv_graph.specs.declared.node.Node.{Node}
use Rattle.pv_graph.specs.Nodes.{node_of}
use Rattle.pv_graph.specs.Unfold.{UnfoldsAs}
use Rattle.pv_graph.specs.Walks.{In, Free}
use Rattle.pv_graph.specs.Graphs.{Graph, form_at, Extends}
use Rattle.pv_graph.specs.Calls.{Tied}
use Rattle.pv_equations.specs.Exp.{Exp}
use Rattle.pv_equations.specs.Flow.{Flow, Shape}
use Rattle.pv_equations.specs.Equations.{Values, AreEquations, FreeIn, first_kid, form_of}
use Rattle.pv_terms.specs.declared.names.Named.{Named}
use Rattle.pv_terms.specs.Reads.{named, Reads, AreNames, Stand, Within}

-- a node stands for one expression, and an expression is read by one node: so two nodes are one number exactly where their
-- expressions are equal as written
pub record ReadOnce : Type 0 where
  pub expressions : (depth : ℕ → ℕ) (nodes : List Node) (names : List Named) (n : ℕ) (a b : Exp) → AreNames depth nodes names → Reads nodes names n a → Reads nodes names n b → a ≡ b
  pub nodes : (depth : ℕ → ℕ) (nodes : List Node) (names : List Named) (n m : ℕ) (a : Exp) → AreNames depth nodes names → Reads nodes names n a → Reads nodes names m a → n ≡ m

-- nodes that stand keep what they stand for, also with more names; the names stay names
pub record StandingReads : Type 0 where
  pub reads : (old new : List Node) (names more : List Named) (n : ℕ) (e : Exp) → Stand old new → Within names more → Reads old names n e → Reads new more n e
  pub names : (depth : ℕ → ℕ) (old new : List Node) (names : List Named) → Stand old new → AreNames depth old names → AreNames depth new names

-- the nodes of a graph stand where nodes are added, and where a theta is tied
pub record GrowthStands : Type 0 where
  pub extends : (old new : Graph) → Extends old new → Stand old.nodes new.nodes
  pub tied : (old new : Graph) (n first second : ℕ) → Tied old new n first second → Stand old.nodes new.nodes
  pub then : (a b c : List Node) → Stand a b → Stand b c → Stand a c

-- the depths of headers in a flow
abbrev pub depths : Flow → ℕ → ℕ
depths f h = length (f.around h)

-- the theta of the name has no kids yet
abbrev pub IsUnfinishedName : Flow → List Node → ℕ → ℕ → Type 0
IsUnfinishedName f nodes h n = slice_get nodes n ≡ Some (node_of (op.Theta (depths f h)) [])

-- the theta of the name has the kids that the equations give it
pub record IsTiedName (f : Flow) (v : Values) (nodes : List Node) (names : List Named) (h s n : ℕ) : Type 0 where
  pub first : ℕ
  pub second : ℕ
  pub theta_ : slice_get nodes n ≡ Some (node_of (op.Theta (depths f h)) (first ∷ second ∷ []))
  pub enters : Reads nodes names first (first_kid v h s)
  pub begins : Reads nodes names second (v.again h s)

-- once each name has its kids, a node unfolds as the expression that it stands for
abbrev pub TyingUnfolds : Type 0
TyingUnfolds = (f : Flow) (v : Values) (nodes : List Node) (names : List Named) → ((h s n : ℕ) → In names (named h s n) → IsTiedName f v nodes names h s n)
    → (n : ℕ) (e : Exp) → Reads nodes names n e → UnfoldsAs (form_at nodes) (form_of f v) n e

-- while a loop of depth d is made: each name has its kids or is unfinished, and those of deeper loops have them
pub record AreTiedBelow (f : Flow) (v : Values) (nodes : List Node) (names : List Named) (d : ℕ) : Type 0 where
  pub each : (h s n : ℕ) → In names (named h s n) → IsUnfinishedName f nodes h n ⊎ IsTiedName f v nodes names h s n
  pub deeper : (h s n : ℕ) → In names (named h s n) → d < depths f h → IsTiedName f v nodes names h s n

-- the nodes and names so far of a flow whose equations v solves, while a loop of depth d is made
pub record Making (f : Flow) (v : Values) (nodes : List Node) (names : List Named) (d : ℕ) : Type 0 where
  pub rank : ℕ → ℕ
  pub top : ℕ
  pub shape : Shape f rank
  pub ranks : (b : ℕ) → rank b < top
  pub equations : AreEquations f v
  pub are_names : AreNames (depths f) nodes names
  pub tied : AreTiedBelow f v nodes names d

-- then the depth d is free in a node exactly where it is free in the expression that the node stands for
abbrev pub FreeReads : Type 0
FreeReads = (f : Flow) (v : Values) (nodes : List Node) (names : List Named) (d : ℕ) → Making f v nodes names d → (n : ℕ) (e : Exp) → Reads nodes names n e → Free (form_at nodes) d n ↔ FreeIn f v d e
