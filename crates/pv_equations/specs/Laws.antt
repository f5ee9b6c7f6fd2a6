-- The laws of the equations.
use Rattle.std.specs.Prelude.{◌≡◌, ℕ, ◌<◌, ◌≤◌, List, length, Option}
use Rattle.pv_graph.specs.Unfold.{UnfoldsAs}
use Rattle.pv_graph.specs.Walks.{Free}
use Rattle.pv_graph.specs.Graphs.{Graph, form_at}
use Rattle.pv_equations.specs.Exp.{Exp}
use Rattle.pv_equations.specs.Flow.{Flow, Shape, Compact, IsFinite}
use Rattle.pv_equations.specs.Equations.{Target, Values, IsTree, form_of, FreeIn, AreEquations}
use Rattle.pv_equations.specs.Root.{root_of}

-- the equations of a flow with finitely many blocks and slots have a solution
abbrev pub Solvable : Type 0
Solvable = (f : Flow) (rank : ℕ → ℕ) (top deepest blocks slots : ℕ) → Shape f rank → Compact f rank → IsFinite f blocks slots → ((b : ℕ) → rank b < top) → ((b : ℕ) → length (f.around b) ≤ deepest) → (v : Values) × AreEquations f v

-- .. and no second one: what unfolds as the root of one solution unfolds as the root of the other
abbrev pub Unique : Type 0
Unique = (f : Flow) (rank : ℕ → ℕ) (top deepest : ℕ) → Shape f rank → Compact f rank → ((b : ℕ) → rank b < top) → ((b : ℕ) → length (f.around b) ≤ deepest)
    → (v u : Values) → AreEquations f v → AreEquations f u → (g : Graph) (r : ℕ) (d : Exp) → UnfoldsAs (form_at g.nodes) (form_of f v) r (root_of f v d) → UnfoldsAs (form_at g.nodes) (form_of f u) r (root_of f u d)

-- for given values the tree from a block is one: a tree that is computed from them is theirs
abbrev pub TreesOnce : Type 0
TreesOnce = (f : Flow) (v : Values) (R : List ℕ) (t : Target) (s : ℕ) (F : List ℕ) (b : ℕ) (r q : Option Exp) → IsTree f v R t s F b r → IsTree f v R t s F b q → r ≡ q

-- the rule on names finds every free depth: a depth that is free in a node that unfolds as the expression is free in the
-- expression, in which names of deeper loops alone are followed
abbrev pub FreeFound : Type 0
FreeFound = (g : Graph) (f : Flow) (v : Values) (rank : ℕ → ℕ) (top : ℕ) → Shape f rank → ((b : ℕ) → rank b < top) → AreEquations f v
    → (n : ℕ) (e : Exp) (d : ℕ) → UnfoldsAs (form_at g.nodes) (form_of f v) n e → Free (form_at g.nodes) d n → FreeIn f v d e
