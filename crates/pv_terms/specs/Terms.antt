-- What is added to a graph: operations over nodes, and names, with what they stand for.
use Rattle.std.specs.Prelude.{◌≡◌, ◌≢◌, ◌⊎◌, ℕ, Bool, true, false, List, ◌∷◌, length, Some, slice_get, ⊤}
use Rattle.pv_graph.specs.declared.node.Op.{Op}
use Rattle.pv_graph.specs.declared.node.Op.TheVariants as op
use Rattle.pv_graph.specs.declared.node.Node.{Node}
use Rattle.pv_graph.specs.declared.node.OpSort.{OpSort}
use Rattle.pv_graph.specs.declared.node.OpSort.TheVariants.{R}
use Rattle.pv_graph.specs.Ops.{HasSort}
use Rattle.pv_graph.specs.Walks.{In}
use Rattle.pv_graph.specs.Graphs.{Graph, IsGraph, IsWellMade, Extends}
use Rattle.pv_graph.specs.Calls.{IsOpenTheta}
use Rattle.pv_equations.specs.Exp.{Exp, Exps, Over, one, two, made}
use Rattle.pv_equations.specs.Flow.{Flow}
use Rattle.pv_equations.specs.Equations.{Values, token_out}
use Rattle.pv_terms.specs.declared.names.Named.{Named}
use Rattle.pv_terms.specs.Reads.{named, Reads, ReadAll, AreNames}
use Rattle.pv_terms.specs.Laws.{depths, Making}

-- the operation is a theta, or looks at other iterations of a loop
abbrev pub has_depth : Op → Bool
has_depth (op.Theta d) = true
has_depth (op.Eval d) = true
has_depth (op.Pass d) = true
has_depth (op.Shift d) = true
has_depth o = false

abbrev pub IsFlat : Op → Type 0
IsFlat o = has_depth o ≡ false

-- .. or it takes a value out of a loop of this depth
abbrev pub IsFlatOrOut : ℕ → Op → Type 0
IsFlatOrOut d o = IsFlat o ⊎ (o ≡ op.Eval d) ⊎ (o ≡ op.Pass d)

-- nodes of such operations were added: the old ones stay with their sorts, the graph is as open as it was, and well made if it was; and
-- no theta more is left to be tied
pub record GrowsBy (P : Op → Type 0) (old new : Graph) : Type 0 where
  pub graph : IsGraph new
  pub made : IsWellMade old → IsWellMade new
  pub extends : Extends old new
  pub open_ : new.is_open ≡ old.is_open
  pub left : (n : ℕ) → IsOpenTheta new n → IsOpenTheta old n
  pub added : (n : ℕ) (x : Node) → slice_get new.nodes n ≡ Some x → (slice_get old.nodes n ≡ Some x) ⊎ P x.op

-- .. whatever operations
abbrev pub Any : Op → Type 0
Any o = ⊤

abbrev pub Enlarges : Graph → Graph → Type 0
Enlarges old new = GrowsBy Any old new

-- nodes without a depth were added
abbrev pub Grows : Graph → Graph → Type 0
Grows old new = GrowsBy IsFlat old new

-- one theta was begun, and is left to be tied
pub record Opens (old new : Graph) (begun : ℕ) : Type 0 where
  pub graph : IsGraph new
  pub made : IsWellMade old → IsWellMade new
  pub extends : Extends old new
  pub open_ : new.is_open ≡ old.is_open
  pub left : (n : ℕ) → IsOpenTheta new n → IsOpenTheta old n ⊎ (n ≡ begun)
  pub after : begun ≡ length old.nodes
  pub added : (n : ℕ) (x : Node) → slice_get new.nodes n ≡ Some x → (slice_get old.nodes n ≡ Some x) ⊎ (n ≡ begun)

-- the old nodes stay, whatever else was begun
pub record Keeps (old new : Graph) : Type 0 where
  pub graph : IsGraph new
  pub extends : Extends old new

-- ---- sorts

abbrev pub IsOfSort : Graph → ℕ → OpSort → Type 0
IsOfSort g n s = slice_get g.sorts n ≡ Some s

-- a node of any sort but a root's
abbrev pub IsValue : Graph → ℕ → Type 0
IsValue g n = (s : OpSort) × IsOfSort g n s × (s ≢ R)

-- the node has the sort that the operation gives over these kids
abbrev pub HasItsSort : Graph → Op → List ℕ → Graph → ℕ → Type 0
HasItsSort old o kids new n = (s : OpSort) → HasSort old.sorts o kids s → IsOfSort new n s

-- the node r has the sort that n had
abbrev pub KeepsSort : Graph → ℕ → Graph → ℕ → Type 0
KeepsSort old n new r = (s : OpSort) → IsOfSort old n s → IsOfSort new r s

-- ---- what the nodes stand for

-- whatever the kids stand for, the node stands for the operation over that
abbrev pub ReadsOver : Graph → Op → List ℕ → Graph → ℕ → Type 0
ReadsOver old o kids new n = (names : List Named) (es : Exps) → ReadAll old.nodes names kids es → Reads new.nodes names n (Over o es)

-- the node stands for both of what a and b stand for, where both(unit, t) is t
abbrev pub ReadsBoth : Graph → ℕ → ℕ → Graph → ℕ → Type 0
ReadsBoth old a b new n = (depth : ℕ → ℕ) (names : List Named) (x y : Exp) → AreNames depth old.nodes names → Reads old.nodes names a x → Reads old.nodes names b y → Reads new.nodes names n (made op.Both (two x y))

-- an expression in the iteration in which a loop of depth d is left, where `ending` says whether it is left
abbrev pub last_of : ℕ → Exp → Exp → Exp
last_of d ending x = Over (op.Eval d) (two x (Over (op.Pass d) (one ending)))

abbrev pub ReadsLast : Graph → ℕ → ℕ → ℕ → Graph → ℕ → Type 0
ReadsLast old d ending n new r = (names : List Named) (x y : Exp) → Reads old.nodes names n x → Reads old.nodes names ending y → Reads new.nodes names r (last_of d y x)

-- r stands for what n stands for, taken out of the loop of a header of depth d with this ending
abbrev pub ReadsOut : Graph → ℕ → ℕ → ℕ → Graph → ℕ → Type 0
ReadsOut old d ending n new r = (f : Flow) (v : Values) (names : List Named) (h : ℕ) (B : List ℕ) (x : Exp) → f.around h ≡ h ∷ B → depths f h ≡ d
    → Making f v old.nodes names d → Reads old.nodes names ending (v.ending h) → Reads old.nodes names n x → Reads new.nodes names r (v.out h x)

-- .. and so with a token, where `entering` is the token with which the loop is entered
abbrev pub ReadsTokenOut : Graph → ℕ → ℕ → ℕ → ℕ → Graph → ℕ → Type 0
ReadsTokenOut old d entering ending n new r = (f : Flow) (v : Values) (names : List Named) (h : ℕ) (x : Exp) → depths f h ≡ d → AreNames (depths f) old.nodes names
    → Reads old.nodes names entering (v.entering h 0) → Reads old.nodes names ending (v.ending h) → Reads old.nodes names n x → Reads new.nodes names r (token_out v f h x)

-- ---- names

-- no node has the name of the slot at the header
abbrev pub IsUnnamed : List Named → ℕ → ℕ → Type 0
IsUnnamed names h s = (n : ℕ) → In names (named h s n) → ⊥

-- names stay names, where the loop of the header has this depth
abbrev pub StayNames : Graph → List Named → ℕ → ℕ → Graph → List Named → Type 0
StayNames old names h d new more = (depth : ℕ → ℕ) → depth h ≡ d → AreNames depth old.nodes names → AreNames depth new.nodes more
