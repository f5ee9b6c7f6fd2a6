-- The verdict on two roots in a least graph, by a table of axioms and limits on rounds and matches.
use Rattle.std.specs.Prelude.{◌≡◌, ◌⊎◌, ◌↔◌, ℕ, suc, ◌<◌, ◌≤◌, List, [], Some, slice_get}
use Rattle.pv_graph.specs.Walks.{In}
use Rattle.pv_graph.specs.Graphs.{Graph, form_at}
use Rattle.pv_pattern.specs.Patterns.{Axiom}
use Rattle.pv_steps.specs.Facts.{View}
use Rattle.pv_steps.specs.Right.{MayBeAssumed, RootKids}
use Rattle.pv_heights.specs.Matches.{AtLeast, IsSaturated}
use Rattle.pv_heights.specs.Terms.{base, terms}
use Rattle.pv_heights.specs.Heights.{Height, height}

-- two roots in a least graph, a table of axioms, the number of rounds that may be made, and the number of matches that a round
-- may have. The table is part of the question, so another table is another question
pub record Question : Type 0 where
  pub graph : Graph
  pub first : ℕ
  pub second : ℕ
  pub table : List Axiom
  pub rounds : ℕ
  pub budget : ℕ

abbrev pub view_of : Question → View
view_of q = form_at q.graph.nodes

-- the nodes that count as ending, in order: each closed pass and callend on the spine of the first root's token
pub record AreEndings (q : Question) (ends : List ℕ) : Type 0 where
  pub are : (n : ℕ) → In ends n ↔ ((root : RootKids q.graph q.first) × MayBeAssumed q.graph root.token n)
  pub ordered : (i j m n : ℕ) → i < j → slice_get ends i ≡ Some m → slice_get ends j ≡ Some n → m < n

-- height k, where no node counts as ending
abbrev pub plain : Question → ℕ → Height
plain q k = height (view_of q) [] q.table k

-- height k, where these nodes count as ending
abbrev pub ending : Question → List ℕ → ℕ → Height
ending q ends k = height (view_of q) ends q.table k

-- there are more matches than the budget, at either height; each is counted by itself
abbrev pub IsOverBudget : Question → List ℕ → ℕ → Type 0
IsOverBudget q ends k =
    AtLeast (view_of q) [] q.table (terms (view_of q)) (plain q k).Member (plain q k).Joins (suc q.budget)
    ⊎ AtLeast (view_of q) ends q.table (terms (view_of q)) (ending q ends k).Member (ending q ends k).Joins (suc q.budget)

-- the tokens of the roots are joined, and their faults, results and heaps are where these nodes count as ending
pub record KidsMeet (q : Question) (ends : List ℕ) (k : ℕ) : Type 0 where
  pub left : RootKids q.graph q.first
  pub right : RootKids q.graph q.second
  pub tokens : (plain q k).Joins (base left.token) (base right.token)
  pub faults : (ending q ends k).Joins (base left.fault_) (base right.fault_)
  pub results : (ending q ends k).Joins (base left.result) (base right.result)
  pub heaps : (ending q ends k).Joins (base left.heap) (base right.heap)

-- the roots are joined, or their kids are so
abbrev pub Meets : Question → List ℕ → ℕ → Type 0
Meets q ends k = (plain q k).Joins (base q.first) (base q.second) ⊎ KidsMeet q ends k

-- no match joins more, at either height
abbrev pub AreSaturated : Question → List ℕ → ℕ → Type 0
AreSaturated q ends k =
    IsSaturated (view_of q) [] q.table (terms (view_of q)) (plain q k).Member (plain q k).Joins
    × IsSaturated (view_of q) ends q.table (terms (view_of q)) (ending q ends k).Member (ending q ends k).Joins

-- height k decides
abbrev pub Decides : Question → List ℕ → ℕ → Type 0
Decides q ends k = IsOverBudget q ends k ⊎ Meets q ends k ⊎ AreSaturated q ends k

-- k is the least height that decides
pub record DecidesFirst (q : Question) (ends : List ℕ) (k : ℕ) : Type 0 where
  pub within : k ≤ q.rounds
  pub decides : Decides q ends k
  pub least : (j : ℕ) → j < k → Decides q ends j → ⊥

-- what is said of two roots: they are equal; no match joins more; the rounds are at an end; or height k has too many matches
pub data Verdict : Type 0 where
  equivalent : Verdict
  apart : Verdict
  rounds : ℕ → Verdict
  budget : ℕ → Verdict

-- the verdict, where these nodes count as ending: at the first height that decides, `equivalent` where the roots meet, whatever else
-- holds; else `budget` where there are too many matches; else `apart`. Where no height decides within the rounds it is `rounds`
abbrev pub IsVerdictWith : Question → List ℕ → Verdict → Type 0
IsVerdictWith q ends equivalent = (k : ℕ) × DecidesFirst q ends k × Meets q ends k
IsVerdictWith q ends (budget k) = DecidesFirst q ends k × IsOverBudget q ends k × (Meets q ends k → ⊥)
IsVerdictWith q ends apart = (k : ℕ) × DecidesFirst q ends k × (Meets q ends k → ⊥) × (IsOverBudget q ends k → ⊥)
IsVerdictWith q ends (rounds n) = (n ≡ q.rounds) × ((k : ℕ) → k ≤ q.rounds → Decides q ends k → ⊥)

-- the verdict on a question
abbrev pub IsVerdict : Question → Verdict → Type 0
IsVerdict q v = (ends : List ℕ) × AreEndings q ends × IsVerdictWith q ends v
