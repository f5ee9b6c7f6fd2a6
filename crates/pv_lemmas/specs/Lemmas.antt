-- When a lemma is accepted, and what a use of one is.
use Rattle.std.specs.Prelude.{◌≡◌, ℕ, suc, ◌<◌, true, false, List, [], ◌∷◌, length, map, reverse, Some, slice_get, ◌==◌}
use Rattle.std.specs.List.{AllByRecursion}
use Rattle.pv_graph.specs.declared.node.Op.{Op}
use Rattle.pv_graph.specs.declared.node.Op.TheVariants as op
use Rattle.pv_graph.specs.declared.node.OpSort.{OpSort}
use Rattle.pv_graph.specs.declared.node.Node.{Node}
use Rattle.pv_graph.specs.Ops.{is_variable, HaveSorts}
use Rattle.pv_graph.specs.Forms.{form}
use Rattle.pv_graph.specs.Walks.{In, IsSettled}
use Rattle.pv_graph.specs.Nodes.{node_of}
use Rattle.pv_graph.specs.Graphs.{Graph, form_at}
use Rattle.pv_graph.specs.Calls.{IsSame}
use Rattle.pv_steps.specs.declared.step.Var.{Var}
use Rattle.pv_steps.specs.declared.step.Lemma.{Lemma}
use Rattle.pv_steps.specs.declared.step.Step.{Step}
use Rattle.pv_steps.specs.declared.step.Step.TheVariants.{Open, Close, Assume, Finish}
use Rattle.pv_steps.specs.Right.{by_axiom, by_lemma, Instances, GraphAfter}
use Rattle.pv_steps.specs.Accepted.{AllRight, IsConcluded}
use Rattle.pv_axioms.specs.Entries.{Instance, OpenInstance}

-- ---- the graph of a lemma

-- the variables as nodes: variable j, which is node j, and those after it
abbrev pub variables_from : ℕ → List Var → List Node
variables_from j [] = []
variables_from j (v ∷ vs) = node_of (op.Var j v.sort) [] ∷ variables_from (suc j) vs

-- those of them for which only settled nodes may stand
abbrev pub settled_from : ℕ → List Var → List ℕ
settled_from j [] = []
settled_from j (v ∷ vs) = elim v.settled [ true ↦ j ∷ settled_from (suc j) vs | false ↦ settled_from (suc j) vs ]

-- the graph of the variables alone, with which that of a lemma begins
abbrev pub variables_graph : List Var → Graph
variables_graph vs = record { nodes = variables_from 0 vs; sorts = map (λ v. v.sort) vs; is_open = false; base = length vs; is_prepared = false }

-- ---- the rules inside a lemma

-- the axioms whatever stands for the variables, of which these stand for settled nodes alone, and the uses of others by this relation
abbrev pub InLemma : (Graph → List ℕ → ℕ → List ℕ → ℕ → ℕ → Type 0) → List ℕ → Instances
InLemma Uses settled g assumed (by_axiom n) nodes a b = OpenInstance g settled n nodes a b
InLemma Uses settled g assumed (by_lemma n) nodes a b = Uses g settled n nodes a b

-- ---- accepted lemmas

-- a lemma has no step of a block
abbrev pub IsOutsideBlocks : Step → Type 0
IsOutsideBlocks (Open d pairs) = ⊥
IsOutsideBlocks (Close d facts) = ⊥
IsOutsideBlocks (Assume p nodes) = ⊥
IsOutsideBlocks (Finish p q t f r h) = ⊥
IsOutsideBlocks s = Unit {0}

-- the graph after the steps of a lemma
abbrev pub LemmaGraph : Lemma → Graph → Type 0
LemmaGraph lemma g = GraphAfter (variables_graph lemma.vars) (reverse lemma.steps) g

-- the graph after its steps, but for whether it is prepared; it has both sides
pub record IsKnown (lemma : Lemma) (g : Graph) : Type 0 where
  pub after : Graph
  pub is : LemmaGraph lemma after
  pub same : IsSame after g
  pub left_there : lemma.left < length g.nodes
  pub right_there : lemma.right < length g.nodes

-- each step is right, and left and right are one node, or the last step states that they are equal
pub record IsAccepted (Uses : Graph → List ℕ → ℕ → List ℕ → ℕ → ℕ → Type 0) (lemma : Lemma) : Type 0 where
  pub outside : AllByRecursion IsOutsideBlocks lemma.steps
  pub right_ : AllRight (InLemma Uses (settled_from 0 lemma.vars)) (variables_graph lemma.vars) (reverse lemma.steps)
  pub graph : Graph
  pub after : LemmaGraph lemma graph
  pub left_there : lemma.left < length graph.nodes
  pub right_there : lemma.right < length graph.nodes
  pub concluded : IsConcluded (reverse lemma.steps) lemma.left lemma.right

-- ---- uses

-- node n of g is node p of a lemma, with these nodes in the place of its variables
pub data IsUnder (lemma : Graph) (nodes : List ℕ) (g : Graph) : ℕ → ℕ → Type 0 where
  variable : (p n j : ℕ) (s : OpSort) → form_at lemma.nodes p ≡ Some (form (op.Var j s) []) → slice_get nodes j ≡ Some n → IsUnder lemma nodes g p n
  operation : (p n : ℕ) (o : Op) (ps ns : List ℕ) → is_variable o ≡ false → form_at lemma.nodes p ≡ Some (form o ps) → form_at g.nodes n ≡ Some (form o ns) → length ps ≡ length ns
      → ((i k m : ℕ) → slice_get ps i ≡ Some k → slice_get ns i ≡ Some m → IsUnder lemma nodes g k m) → IsUnder lemma nodes g p n

-- a node of its sort for each variable, settled where it has to be, and the two sides under these nodes; these nodes of g are assumed to end
pub record IsUse (lemma : Lemma) (g : Graph) (assumed nodes : List ℕ) (a b : ℕ) : Type 0 where
  pub graph : Graph
  pub after : LemmaGraph lemma graph
  pub sorts : HaveSorts g.sorts nodes (map (λ v. v.sort) lemma.vars)
  pub settled : (j n : ℕ) → In (settled_from 0 lemma.vars) j → slice_get nodes j ≡ Some n → IsSettled (form_at g.nodes) assumed n
  pub left_ : IsUnder graph nodes g lemma.left a
  pub right_ : IsUnder graph nodes g lemma.right b

-- a use of the lemma with a number, counted from 1; of these lemmas the last comes first, and each may use those before it
abbrev pub Uses : List Lemma → Graph → List ℕ → ℕ → List ℕ → ℕ → ℕ → Type 0
Uses [] g assumed n nodes a b = ⊥
Uses (lemma ∷ before) g assumed n nodes a b = elim (n == suc (length before)) [
  | true ↦ IsAccepted (Uses before) lemma × IsUse lemma g assumed nodes a b
  | false ↦ Uses before g assumed n nodes a b
]

-- lemma n of these, in order, is accepted
abbrev pub AcceptsOf : List Lemma → ℕ → Type 0
AcceptsOf [] n = ⊥
AcceptsOf (lemma ∷ before) n = elim (n == suc (length before)) [ true ↦ IsAccepted (Uses before) lemma | false ↦ AcceptsOf before n ]

abbrev pub Accepts : List Lemma → ℕ → Type 0
Accepts lemmas n = AcceptsOf (reverse lemmas) n

-- the axioms and the accepted ones of these lemmas as rules
abbrev pub ByLemmas : List Lemma → Instances
ByLemmas lemmas g assumed (by_axiom n) nodes a b = Instance g assumed n nodes a b
ByLemmas lemmas g assumed (by_lemma n) nodes a b = Uses (reverse lemmas) g assumed n nodes a b
