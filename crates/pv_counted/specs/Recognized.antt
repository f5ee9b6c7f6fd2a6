-- How a loop that counts up is recognized: the parts that its nodes are made of.
use Rattle.std.specs.Prelude.{◌≡◌, ◌⊎◌, ℕ, pos, List, [], ◌∷◌, Some}
use Rattle.pv_value.specs.declared.operation.ScalarOp.TheVariants.{Ilt}
use Rattle.pv_graph.specs.declared.node.Op.{Op}
use Rattle.pv_graph.specs.declared.node.Op.TheVariants as op
use Rattle.pv_graph.specs.Forms.{form}
use Rattle.pv_graph.specs.Walks.{Free}
use Rattle.pv_graph.specs.Graphs.{Graph, form_at}
use Rattle.pv_counted.specs.Counted.{IsInt, AddsOne}

-- node n is this operation over these kids
abbrev pub IsOver : Graph → ℕ → Op → List ℕ → Type 0
IsOver g n o ks = form_at g.nodes n ≡ Some (form o ks)

-- no kids make it so
abbrev pub IsNotOver : Graph → ℕ → Op → Type 0
IsNotOver g n o = (ks : List ℕ) → IsOver g n o ks → ⊥

-- x begins with start and goes on as y, which is 1 more than x
abbrev pub CountsFrom : Graph → ℕ → ℕ → ℕ → ℕ → Type 0
CountsFrom g depth start x y = IsOver g x (op.Theta depth) (start ∷ y ∷ []) × AddsOne (form_at g.nodes) x y

-- the int counter counts from start in a loop of this depth, as the theta or as the sum
abbrev pub CountsAs : Graph → ℕ → ℕ → ℕ → Type 0
CountsAs g depth start counter = (x : ℕ) × (y : ℕ) × CountsFrom g depth start x y × ((counter ≡ x) ⊎ (counter ≡ y))

-- the test is 0 while the counter is below the bound, and then 1
abbrev pub IsTest : Graph → ℕ → ℕ → ℕ → Type 0
IsTest g test counter bound =
    (less : ℕ) × (no : ℕ) × (yes : ℕ) × IsOver g test op.Phi (less ∷ no ∷ yes ∷ []) × IsInt (form_at g.nodes) (pos 0) no × IsInt (form_at g.nodes) (pos 1) yes × IsOver g less (op.Scalar Ilt) (counter ∷ bound ∷ [])

-- the test of a loop of this depth compares an int that counts from start with the bound
abbrev pub IsTestFrom : Graph → ℕ → ℕ → ℕ → ℕ → Type 0
IsTestFrom g depth test start bound = (counter : ℕ) × IsTest g test counter bound × CountsAs g depth start counter

-- p is the pass of a loop that counts from start up to bound, of which nothing is said about whether the loop changes the bound
abbrev pub IsLoop : Graph → ℕ → ℕ → ℕ → ℕ → Type 0
IsLoop g p depth start bound = (test : ℕ) × IsOver g p (op.Pass depth) (test ∷ []) × IsTestFrom g depth test start bound

-- .. and it doesn't
abbrev pub IsLoopThatStays : Graph → ℕ → ℕ → ℕ → ℕ → Type 0
IsLoopThatStays g p depth start bound = IsLoop g p depth start bound × (Free (form_at g.nodes) depth bound → ⊥)
