-- The laws of verdicts and of searches.
use Rattle.std.specs.Prelude.{◌≡◌, ◌↔◌, ℕ, suc, ◌<◌, ◌≤◌, List, [], ◌∷◌, length}
use Rattle.pv_graph.specs.Walks.{In}
use Rattle.pv_graph.specs.Graphs.{Graph, form_at, IsGraph, Extends}
use Rattle.pv_pattern.specs.Patterns.{Axiom}
use Rattle.pv_pattern.specs.Binding.{BindsItsNames}
pub use Rattle.pv_axioms.specs.Entries.{core_axioms, axioms}
use Rattle.pv_heights.specs.Systems.{Joined}
use Rattle.pv_steps.specs.Facts.{View}
use Rattle.pv_heights.specs.Sides.{Match}
use Rattle.pv_heights.specs.Searches.{BothStand, AreAllAt, AtLeastAt, IsSaturatedAt, nodes, IsNode, OneClass, Joining, AreJoined, IsRound, Reached, Answers}
use Rattle.pv_heights.specs.Terms.{Term, terms}
use Rattle.pv_heights.specs.Heights.{height}
use Rattle.pv_heights.specs.Closing.{With, IsInduction, IsClosedUnder}
use Rattle.pv_heights.specs.Verdicts.{Question, Verdict, equivalent, AreEndings, IsVerdict}

-- ---- the verdict

-- what two searches on nodes answer is the verdict over terms
abbrev pub AnswersAreVerdicts : Type 0
AnswersAreVerdicts = (q : Question) (ends : List ℕ) (v : Verdict)
    → IsGraph q.graph → q.first < length q.graph.nodes → q.second < length q.graph.nodes → AreEndings q ends
    → Answers q ends v → IsVerdict q v

-- a question has one verdict
abbrev pub VerdictOnce : Type 0
VerdictOnce = (q : Question) (v w : Verdict) → IsVerdict q v → IsVerdict q w → v ≡ w

-- where the roots are one node, the verdict is that they are equal, under all limits
abbrev pub OneRootEqual : Type 0
OneRootEqual = (q : Question) (ends : List ℕ) → AreEndings q ends → q.first < length q.graph.nodes → q.first ≡ q.second → IsVerdict q equivalent

-- ---- rounds

-- a round takes a search that has made k rounds to one that has made k + 1. Its pairs are joined, and perhaps more that follows from
-- them (`between`), and then a closing joins all that congruence and inductions join
abbrev pub RoundReaches : Type 0
RoundReaches = (g : Graph) (assumed : List ℕ) (table : List Axiom) (k : ℕ) (h i : Graph) (numbers between after : List ℕ) (pairs : List (ℕ × ℕ))
    → IsGraph g → IsGraph i → Extends h i → ((e : Axiom) → In table e → BindsItsNames e)
    → Reached g assumed table k h numbers
    → IsRound (form_at g.nodes) assumed table h i numbers pairs
    → ((a b : ℕ) → Joining numbers pairs a b → OneClass between a b)
    → ((a b : ℕ) → OneClass between a b → Joined (nodes i) (IsNode i) [] (Joining numbers pairs) [] a b)
    → AreJoined i (OneClass between) after
    → Reached g assumed table (suc k) i after

-- a search in which no match joins more has, as it is, what a further round would give
abbrev pub SaturatedStays : Type 0
SaturatedStays = (g : Graph) (assumed : List ℕ) (table : List Axiom) (k : ℕ) (h : Graph) (numbers : List ℕ)
    → IsGraph g → Reached g assumed table k h numbers
    → IsSaturatedAt (form_at g.nodes) assumed table h numbers
    → Reached g assumed table (suc k) h numbers

-- ---- matches

-- a list of all matches on classes of nodes, each once, is as long as there are matches
abbrev pub ListCounts : Type 0
ListCounts = (view : View) (assumed : List ℕ) (table : List Axiom) (h : Graph) (numbers : List ℕ) (list : List (Match ℕ))
    → AreAllAt view assumed table h numbers list
    → (n : ℕ) → AtLeastAt view assumed table h numbers n ↔ (n ≤ length list)

-- in a search no match joins more exactly where both sides of each listed match stand in one class
abbrev pub SaturatedByList : Type 0
SaturatedByList = (g : Graph) (assumed : List ℕ) (table : List Axiom) (k : ℕ) (h : Graph) (numbers : List ℕ) (list : List (Match ℕ))
    → IsGraph g → ((e : Axiom) → In table e → BindsItsNames e)
    → Reached g assumed table k h numbers
    → AreAllAt (form_at g.nodes) assumed table h numbers list
    → IsSaturatedAt (form_at g.nodes) assumed table h numbers ↔ ((m : Match ℕ) → In list m → BothStand (nodes h) (IsNode h) (OneClass numbers) m)

-- the left side of each axiom of the tables binds all that the axiom names
abbrev pub TableBinds : Type 0
TableBinds = (e : Axiom) → In axioms e → BindsItsNames e

-- ---- heights

-- what is joined at height k is an equivalence and a congruence on its terms; it holds the pairs of each induction whose first kids
-- are joined, and whose second kids are joined inside it, with its depth fixed; and height k + 1 has these terms, and joins what is
-- joined here
pub record HeightHolds (view : View) (assumed : List ℕ) (table : List Axiom) (k : ℕ) : Type 0 where
  pub closed : IsClosedUnder (terms view) (height view assumed table k).Member [] (height view assumed table k).Joins (height view assumed table k).Joins
  pub induction : (d : ℕ) (pairs : List (Term × Term))
      → IsInduction (terms view) (height view assumed table k).Member [] d pairs (height view assumed table k).Joins
      (Joined (terms view) (height view assumed table k).Member (d ∷ []) (With (height view assumed table k).Joins pairs) [])
      → (a b : Term) → In pairs (a, b) → (height view assumed table k).Joins a b
  pub terms_ : (t : Term) → (height view assumed table k).Member t → (height view assumed table (suc k)).Member t
  pub joins : (a b : Term) → (height view assumed table k).Joins a b → (height view assumed table (suc k)).Joins a b

abbrev pub HeightsHold : Type 0
HeightsHold = (view : View) (assumed : List ℕ) (table : List Axiom) (k : ℕ) → HeightHolds view assumed table k
