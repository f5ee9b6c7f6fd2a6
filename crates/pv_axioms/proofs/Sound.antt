-- The axioms are sound, and each binds its names.
use Rattle.std.specs.Prelude.{◌≡◌, ℕ, ◌<◌, false, List, [], ◌∷◌, ◌++◌, length, refl}
use Rattle.std.specs.List.{AllByRecursion}
use Rattle.std.proofs.Common.{inl, inr, subst}
use Rattle.pv_value.specs.declared.world.World.{World}
use Rattle.pv_value.specs.declared.outcome.Input.{Input}
use Rattle.pv_value.specs.Worlds.{IsWorld}
use Rattle.pv_value.specs.Inputs.{IsInput}
use Rattle.pv_graph.specs.Walks.{In}
use Rattle.pv_graph.specs.Graphs.{Graph, form_at, IsWellMade}
use Rattle.pv_denote.specs.Denote.{Index, SameAt}
use Rattle.pv_pattern.specs.Patterns.{Axiom}
use Rattle.pv_pattern.specs.Binding.{BindsItsNames}
use Rattle.pv_pattern.specs.Laws.{Law, Laws}
use Rattle.pv_pattern.proofs.Cited.{tested}
use Rattle.pv_scalar.specs.Table.{scalar_axioms}
use Rattle.pv_scalar.proofs.Cited as scalar
use Rattle.pv_loopax.specs.Table.{loop_axioms}
use Rattle.pv_loopax.proofs.Cited as loops
use Rattle.pv_heapax.specs.Table.{heap_axioms}
use Rattle.pv_heapax.proofs.Cited as heap
use Rattle.pv_choiceax.specs.Table.{choice_axioms}
use Rattle.pv_choiceax.proofs.Cited as choices
use Rattle.pv_steps.specs.Facts.{HaveValues}
use Rattle.pv_steps.specs.Right.{Rule, by_axiom, by_lemma}
use Rattle.pv_steps.specs.Laws.{AreSound}
use Rattle.pv_axioms.specs.Entries.{core_axioms, axioms, ByAxioms}
use Rattle.pv_axioms.proofs.Sides.{sides_there}

all_append : (P : Axiom → Type 0) (xs ys : List Axiom) → AllByRecursion P xs → AllByRecursion P ys → AllByRecursion P (xs ++ ys)
all_append P [] ys p q = q
all_append P (x ∷ xs) ys p q = (p.0, all_append P xs ys p.1 q)

all_in : (P : Axiom → Type 0) (xs : List Axiom) → AllByRecursion P xs → (a : Axiom) → In xs a → P a
all_in P [] all a m = absurd m
all_in P (x ∷ xs) all a (inl e) = subst P e all.0
all_in P (x ∷ xs) all a (inr m) = all_in P xs all.1 a m

core_laws : Laws core_axioms
core_laws = all_append Law scalar_axioms (loop_axioms ++ heap_axioms) scalar.all_laws (all_append Law loop_axioms heap_axioms loops.all_laws heap.all_laws)

all_laws : Laws axioms
all_laws = all_append Law core_axioms choice_axioms core_laws choices.all_laws

pub binds_names : (a : Axiom) → In axioms a → BindsItsNames a
binds_names = all_in BindsItsNames axioms (tested axioms refl)

pub sound : AreSound ByAxioms
sound = record { sides = sides; same = same }
  where
    sides : (g : Graph) (assumed : List ℕ) (r : Rule) (nodes : List ℕ) (a b : ℕ) → IsWellMade g → ByAxioms g assumed r nodes a b → (a < length g.nodes) × (b < length g.nodes)
    sides g assumed (by_axiom n) nodes a b made i = sides_there g made.graph assumed i.0 nodes a b i.1.entry i.2
    sides g assumed (by_lemma n) nodes a b made i = absurd i

    same : (g : Graph) (assumed : List ℕ) (r : Rule) (nodes : List ℕ) (a b : ℕ) → IsWellMade g → g.is_open ≡ false → ByAxioms g assumed r nodes a b
        → (w : World) (x : Input) → IsWorld w → IsInput x → HaveValues (form_at g.nodes) w x assumed → (at : Index) → SameAt (form_at g.nodes) w x at a b
    same g assumed (by_axiom n) nodes a b made sealed i w x world input have at =
        all_in Law axioms all_laws i.0 i.1.entry g assumed nodes a b w x (record { made = made; sealed = sealed; world = world; input = input; ended = have }) i.2 at
    same g assumed (by_lemma n) nodes a b made sealed i w x world input have at = absurd i
