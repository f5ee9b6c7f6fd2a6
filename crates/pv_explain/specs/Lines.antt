-- Lines: pairs of nodes of a search, with the facts of a certificate that state that their copies are equal; and paths through lines.
use Rattle.std.specs.Prelude.{◌≡◌, ℕ, ◌<◌, false, List, [], ◌∷◌, length, Some, slice_get, Option}
use Rattle.std.specs.List.{AllZip}
use Rattle.pv_graph.specs.declared.node.Op.{Op}
use Rattle.pv_graph.specs.Ops.{shape}
use Rattle.pv_graph.specs.Nodes.{node_of}
use Rattle.pv_graph.specs.Graphs.{IsGraph}
use Rattle.pv_graph.specs.Walks.{In}
use Rattle.pv_steps.specs.declared.step.Reason.{Reason}
use Rattle.pv_steps.specs.Steps.{blocks, assumed_in}
use Rattle.pv_steps.specs.Right.{Gives, IsFresh, looks_at}
use Rattle.pv_axioms.specs.Entries.{Instance}
use Rattle.pv_paths.specs.declared.forest.Way.{Way}
use Rattle.pv_paths.specs.declared.forest.Way.TheVariants.{Forth, Back}
use Rattle.pv_paths.specs.Paths.{AreLinked}
use Rattle.pv_writer.specs.Written.{Written, IsFact, inside}
use Rattle.pv_explain.specs.declared.source.Source.{Source}
use Rattle.pv_explain.specs.declared.follow.Line.{Line}
use Rattle.pv_explain.specs.declared.follow.Reached.{Reached}
use Rattle.pv_explain.specs.declared.level.Level.{Level}
use Rattle.pv_explain.specs.Copies.{IsCopied, HasCopy, AreCopies}

-- ---- copies

-- a sealed graph, and copies of its nodes in the certificate's graph
pub record IsSource (w : Written) (s : Source) : Type 0 where
  pub made : IsGraph s.graph.now
  pub sealed : s.graph.now.is_open ≡ false
  pub copies : AreCopies s.graph.now w.graph s.map.now

-- each of these nodes has a copy
abbrev pub HaveCopies : List (Option ℕ) → List ℕ → Type 0
HaveCopies map [] = Unit {0}
HaveCopies map (k ∷ ks) = HasCopy map k × HaveCopies map ks

-- ---- lines

-- the line's left and right node are the copies of its first and second, and its fact, which is visible, states that they are equal
pub record IsStated (w : Written) (map : List (Option ℕ)) (l : Line) : Type 0 where
  pub left : IsCopied map l.first l.left
  pub right : IsCopied map l.second l.right
  pub known : IsFact w l.fact l.left l.right

-- .. of each of these lines
abbrev pub AreStated : Written → List (Option ℕ) → List Line → Type 0
AreStated w map lines = (j : ℕ) (l : Line) → slice_get lines j ≡ Some l → IsStated w map l

-- each line's fact states that its left and right nodes are equal
abbrev pub AreFacts : Written → List Line → Type 0
AreFacts w lines = (j : ℕ) (l : Line) → slice_get lines j ≡ Some l → IsFact w l.fact l.left l.right

-- the two nodes of each line
abbrev pub sides : List Line → List (ℕ × ℕ)
sides [] = []
sides (l ∷ lines) = (l.first, l.second) ∷ sides lines

-- the line is one of a and b
pub record IsLineOf (w : Written) (map : List (Option ℕ)) (a b : ℕ) (l : Line) : Type 0 where
  pub first : l.first ≡ a
  pub second : l.second ≡ b
  pub stated : IsStated w map l

-- ---- paths

-- the line of a way leads from x to y
abbrev pub LineOf : List Line → Way → ℕ → ℕ → Type 0
LineOf lines (Forth j) x y = (l : Line) × (slice_get lines j ≡ Some l) × (l.left ≡ x) × (l.right ≡ y)
LineOf lines (Back j) x y = (l : Line) × (slice_get lines j ≡ Some l) × (l.right ≡ x) × (l.left ≡ y)

abbrev pub HasLine : List Line → Way → Type 0
HasLine lines w = (x : ℕ) × (y : ℕ) × LineOf lines w x y

-- the lines of a path lead from x to y
abbrev pub ReachBy : List Line → List Way → ℕ → ℕ → Type 0
ReachBy lines [] x y = x ≡ y
ReachBy lines (w ∷ ws) x y = (z : ℕ) × LineOf lines w x z × ReachBy lines ws z y

-- the reason says that the first node is equal to the one that is reached
abbrev pub IsReached : Written → ℕ → Reached → Type 0
IsReached w first r = Gives w.before (inside w) [] r.why first r.node

-- ---- what lines explain

-- each line of the level is stated, and its forest is of the nodes of the graph and joins the two nodes of each line
pub record IsLevel (w : Written) (s : Source) (l : Level) : Type 0 where
  pub nodes_ : l.forest.nodes ≡ length s.graph.now.nodes
  pub ends : l.forest.ends ≡ sides l.lines.items
  pub stated : AreStated w s.map.now l.lines.items

-- the lines link a and b, which are nodes
pub record LinkedBy (nodes : ℕ) (l : Level) (a b : ℕ) : Type 0 where
  pub first : a < nodes
  pub second : b < nodes
  pub path : AreLinked (sides l.lines.items) (length l.lines.items) a b

-- the reason says that the copies of k and l are equal
abbrev pub GivesCopies : Written → List (Option ℕ) → Reason → ℕ → ℕ → Type 0
GivesCopies w map r k l = (m n : ℕ) → IsCopied map k m → IsCopied map l n → Gives w.before (inside w) [] r m n

-- the reasons say so of the copies of kids, one by one
abbrev pub GiveAllCopies : Written → List (Option ℕ) → List Reason → List ℕ → List ℕ → Type 0
GiveAllCopies w map [] [] [] = Unit {0}
GiveAllCopies w map (r ∷ rs) (k ∷ ks) (l ∷ ls) = GivesCopies w map r k l × GiveAllCopies w map rs ks ls
GiveAllCopies w map rs ks ls = ⊥

-- the nodes have copies, and are one operation over kids that the lines link; no open block has the depth at whose other iterations it looks
pub record AreKidsLinked (w : Written) (s : Source) (level : Level) (a b : ℕ) : Type 0 where
  pub o : Op
  pub lefts : List ℕ
  pub rights : List ℕ
  pub left_is : slice_get s.graph.now.nodes a ≡ Some (node_of o lefts)
  pub right_is : slice_get s.graph.now.nodes b ≡ Some (node_of o rights)
  pub linked : AllZip (LinkedBy (length s.graph.now.nodes) level) lefts rights
  pub fresh : (d : ℕ) → looks_at (shape o) ≡ Some d → IsFresh d (blocks (inside w))
  pub first : HasCopy s.map.now a
  pub second : HasCopy s.map.now b

-- a and b are the sides of an instance over nodes; the nodes that it assumes to end are those of the open block, and lie in the base
pub record IsInstanceAt (w : Written) (s : Source) (n : ℕ) (nodes : List ℕ) (a b : ℕ) : Type 0 where
  pub instance_ : Instance s.graph.now (assumed_in (inside w)) n nodes a b
  pub low : (e : ℕ) → In (assumed_in (inside w)) e → e < s.graph.now.base
  pub copies : HaveCopies s.map.now nodes
  pub first : HasCopy s.map.now a
  pub second : HasCopy s.map.now b
