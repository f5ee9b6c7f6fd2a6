-- The steps T1 and T2 of interval reduction (Hecht and Ullman), and reducible shapes.
use Rattle.std.specs.Prelude.{◌≡◌, ◌≢◌, ℕ, ◌<◌, List, [], ◌∷◌, length, ◌⊎◌, Bool, true, false}
use Rattle.pv_loops.specs.declared.fault.TStep.{TStep}
use Rattle.pv_loops.specs.declared.fault.TStep.TheVariants.{T1, T2}
use Rattle.pv_loops.specs.Shapes.{Edge}

-- what a shape is while it is reduced: a set of nodes and a set of edges between them
pub record Graph : Type 1 where
  pub Node : ℕ → Type 0
  pub Arrow : ℕ → ℕ → Type 0

-- the graph of a shape
abbrev pub graph_of : List (List ℕ) → Graph
graph_of s = record { Node = λ a. a < length s; Arrow = Edge s }

-- T1 applies to a node with an edge to itself. T2 applies to a node n, other than the entry, with exactly one predecessor p, another node
abbrev pub Applies : Graph → TStep → Type 0
Applies g (T1 n) = g.Arrow n n
Applies g (T2 n p) = (n ≢ 0) × (p ≢ n) × g.Arrow p n × ((q : ℕ) → g.Arrow q n → q ≡ p)

-- T1 drops the edge from n to itself. T2 merges n into p: the edge from p to n is gone, and the edges out of n are edges out of p
abbrev pub after : Graph → TStep → Graph
after g (T1 n) = record { Node = g.Node; Arrow = λ a b. g.Arrow a b × ((a ≡ n) → b ≢ n) }
after g (T2 n p) = record {
  Node = λ a. g.Node a × (a ≢ n);
  Arrow = λ a b. (a ≢ n) × (b ≢ n) × (g.Arrow a b ⊎ (a ≡ p) × g.Arrow n b);
}

-- each step applies where it is taken
abbrev pub AllApply : Graph → List TStep → Type 0
AllApply g [] = Unit {0}
AllApply g (t ∷ ts) = Applies g t × AllApply (after g t) ts

-- where the steps lead
abbrev pub after_all : Graph → List TStep → Graph
after_all g [] = g
after_all g (t ∷ ts) = after_all (after g t) ts

-- two or more nodes, and no step applies
pub record IsStuck (g : Graph) : Type 0 where
  pub nodes : (a : ℕ) × (b : ℕ) × g.Node a × g.Node b × (a ≢ b)
  pub ends : (t : TStep) → Applies g t → ⊥

-- the steps lead from the shape to two or more nodes to which no step applies
abbrev pub Stuck : List (List ℕ) → List TStep → Type 0
Stuck s ts = AllApply (graph_of s) ts × IsStuck (after_all (graph_of s) ts)

-- a shape is reducible where no list of steps is stuck
abbrev pub IsReducible : List (List ℕ) → Type 0
IsReducible s = (ts : List TStep) → Stuck s ts → ⊥

-- the steps lead from the shape to one node, the entry
abbrev pub ReduceToOne : List (List ℕ) → List TStep → Type 0
ReduceToOne s ts = AllApply (graph_of s) ts × ((a : ℕ) → (after_all (graph_of s) ts).Node a → a ≡ 0)

-- the steps that merge n into p: T1 first where n has an edge to itself
abbrev pub merge_steps : Bool → ℕ → ℕ → List TStep
merge_steps true n p = T1 n ∷ T2 n p ∷ []
merge_steps false n p = T2 n p ∷ []
