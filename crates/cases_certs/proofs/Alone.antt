-- What is derived by the axioms and no lemma is derived by the axioms.
use Rattle.std.specs.Prelude.{◌≡◌, ℕ, List, []}
use Rattle.std.proofs.Common.{subst}
use Rattle.pv_graph.specs.Graphs.{Graph}
use Rattle.pv_steps.specs.declared.step.Step.{Step}
use Rattle.pv_steps.specs.declared.step.Lemma.{Lemma}
use Rattle.pv_steps.specs.Right.{Rule, by_axiom, by_lemma}
use Rattle.pv_steps.specs.Accepted.{Derives}
use Rattle.pv_axioms.specs.Entries.{ByAxioms}
use Rattle.pv_lemmas.specs.Lemmas.{ByLemmas}
use Rattle.pv_lemmas.proofs.Cited.{derives_more}

alone : (g : Graph) (assumed : List ℕ) (r : Rule) (nodes : List ℕ) (a b : ℕ) → ByLemmas [] g assumed r nodes a b → ByAxioms g assumed r nodes a b
alone g assumed (by_axiom n) nodes a b is = is
alone g assumed (by_lemma n) nodes a b is = is

pub by_axioms : (lemmas : List Lemma) (g : Graph) (a b : ℕ) (section : List Step) → lemmas ≡ [] → Derives (ByLemmas lemmas) g a b section → Derives ByAxioms g a b section
by_axioms lemmas g a b section none derives = derives_more (ByLemmas []) ByAxioms alone g a b section (subst (λ (ls : List Lemma). Derives (ByLemmas ls) g a b section) none derives)
