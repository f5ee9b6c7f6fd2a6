-- The axioms of all tables, by their numbers, and their instances.
use Rattle.std.specs.Prelude.{◌≡◌, ℕ, List, [], ◌∷◌, ◌++◌, Some, slice_get}
use Rattle.pv_graph.specs.Walks.{In}
use Rattle.pv_graph.specs.Graphs.{Graph}
use Rattle.pv_pattern.specs.Patterns.{Axiom}
use Rattle.pv_pattern.specs.Instances.{IsInstance, IsOpenInstance}
use Rattle.pv_scalar.specs.Table.{scalar_axioms}
use Rattle.pv_loopax.specs.Table.{loop_axioms}
use Rattle.pv_heapax.specs.Table.{heap_axioms}
use Rattle.pv_choiceax.specs.Table.{choice_axioms}
use Rattle.pv_steps.specs.Right.{Rule, by_axiom, by_lemma, Instances}

-- the core: the axioms on numbers, choices and tokens, then those on loops, then those on the heap
abbrev pub core_axioms : List Axiom
core_axioms = scalar_axioms ++ (loop_axioms ++ heap_axioms)

-- all axioms: the core, then those on operations over choices, on choices under choices, on truths and on conversions
abbrev pub axioms : List Axiom
axioms = core_axioms ++ choice_axioms

-- the same, table by table
abbrev pub tables : List (List Axiom)
tables = scalar_axioms ∷ loop_axioms ∷ heap_axioms ∷ choice_axioms ∷ []

-- an axiom of a table that has this number
pub record IsEntry (table : List Axiom) (n : ℕ) (a : Axiom) : Type 0 where
  pub entry : In table a
  pub number : a.number ≡ n

abbrev pub HasNone : List Axiom → ℕ → Type 0
HasNone table n = (a : Axiom) → IsEntry table n a → ⊥

-- no number stands twice
abbrev pub NumbersOnce : List Axiom → Type 0
NumbersOnce table = (i j : ℕ) (a b : Axiom) → slice_get table i ≡ Some a → slice_get table j ≡ Some b → a.number ≡ b.number → i ≡ j

-- the table has some of the axioms, and no number twice
pub record AreAxioms (table : List Axiom) : Type 0 where
  pub entries : (a : Axiom) → In table a → In axioms a
  pub once : NumbersOnce table

-- the axioms as steps use them: l and r are the sides of an instance of the axiom with this number
abbrev pub Instance : Graph → List ℕ → ℕ → List ℕ → ℕ → ℕ → Type 0
Instance g assumed n subst l r = (a : Axiom) × IsEntry axioms n a × IsInstance g assumed a subst l r

-- .. whatever stands for the variables of the graph, if only settled nodes may stand for those that are assumed to end
abbrev pub OpenInstance : Graph → List ℕ → ℕ → List ℕ → ℕ → ℕ → Type 0
OpenInstance g assumed n subst l r = (a : Axiom) × IsEntry axioms n a × IsOpenInstance g assumed a subst l r

-- the axioms as rules, with no lemma
abbrev pub ByAxioms : Instances
ByAxioms g assumed (by_axiom n) subst l r = Instance g assumed n subst l r
ByAxioms g assumed (by_lemma n) subst l r = ⊥
