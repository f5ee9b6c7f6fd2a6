-- A section that is accepted by rules is accepted by more of them.
use Rattle.std.specs.Prelude.{ℕ, List, [], ◌∷◌, reverse}
use Rattle.pv_graph.specs.Graphs.{Graph}
use Rattle.pv_steps.specs.declared.step.Step.{Step}
use Rattle.pv_steps.specs.declared.step.Step.TheVariants as steps
use Rattle.pv_steps.specs.Steps.{assumed_in, open_after}
use Rattle.pv_steps.specs.Right.{Instances, RightOver, Rule, by_axiom, by_lemma}
use Rattle.pv_steps.specs.Accepted.{AllRight, Derives}
use Rattle.pv_axioms.specs.Entries.{ByAxioms}
use Rattle.pv_lemmas.specs.Lemmas.{ByLemmas}

module _ (R S : Instances) (more : (g : Graph) (assumed : List ℕ) (r : Rule) (nodes : List ℕ) (a b : ℕ) → R g assumed r nodes a b → S g assumed r nodes a b) where
  right_more : (g : Graph) (before : List Step) (s : Step) → RightOver R g before s → RightOver S g before s
  right_more g before (steps.Node n o kids) h = h
  right_more g before (steps.Axiom n a b nodes) h = more g (assumed_in (open_after before)) (by_axiom n) nodes a b h
  right_more g before (steps.Use n a b nodes) h = more g (assumed_in (open_after before)) (by_lemma n) nodes a b h
  right_more g before (steps.Flip a b f) h = h
  right_more g before (steps.Chain a b f k) h = h
  right_more g before (steps.Set cs) h = h
  right_more g before (steps.Open d pairs) h = h
  right_more g before (steps.Close d fs) h = h
  right_more g before (steps.Assume p nodes) h = h
  right_more g before (steps.Finish p q t f r k) h = h

  all_more : (g : Graph) (before : List Step) → AllRight R g before → AllRight S g before
  all_more g [] h = tt
  all_more g (s ∷ before) h = ((h.0.0, h.0.1, right_more h.0.0 before s h.0.2), all_more g before h.1)

  pub derives_more : (g : Graph) (a b : ℕ) (section : List Step) → Derives R g a b section → Derives S g a b section
  derives_more g a b section h = (all_more g (reverse section) h.0, h.1)

-- the axioms are rules where there are no lemmas
axioms_alone : (g : Graph) (assumed : List ℕ) (r : Rule) (nodes : List ℕ) (a b : ℕ) → ByAxioms g assumed r nodes a b → ByLemmas [] g assumed r nodes a b
axioms_alone g assumed (by_axiom n) nodes a b h = h
axioms_alone g assumed (by_lemma n) nodes a b h = absurd h

pub without_lemmas : (g : Graph) (a b : ℕ) (section : List Step) → Derives ByAxioms g a b section → Derives (ByLemmas []) g a b section
without_lemmas = derives_more ByAxioms (ByLemmas []) axioms_alone
