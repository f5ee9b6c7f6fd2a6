-- What steps derive over a graph they derive over the same graph prepared, or not prepared.
use Rattle.std.specs.Prelude.{ℕ, Bool, List, [], ◌∷◌}
use Rattle.std.proofs.Common.{ap, reverse}
use Rattle.pv_graph.specs.Graphs.{Graph}
use Rattle.pv_steps.specs.declared.step.Lemma.{Lemma}
use Rattle.pv_steps.specs.declared.step.Step.{Step}
use Rattle.pv_steps.specs.declared.step.Step.TheVariants as steps
use Rattle.pv_steps.specs.Right.{Grows, GraphAfter, Right}
use Rattle.pv_steps.specs.Accepted.{AllRight, Derives}
use Rattle.pv_check.proofs.Cited.{adds_same, prepared_as, right_same}
use Rattle.pv_lemmas.specs.Lemmas.{ByLemmas}
use Rattle.pv_lemmas.proofs.Cited.{by_lemmas_prepared}

-- a step makes the same graph, prepared or not
grows_prepared : (s : Step) (old new : Graph) (p : Bool) → Grows s old new → (q : Bool) × Grows s (prepared_as old p) (prepared_as new q)
grows_prepared (steps.Node n o kids) old new p h = (new.is_prepared, adds_same old new p n o kids h)
grows_prepared _ old new p h = (p, ap (λ (g : Graph). prepared_as g p) h)

after_prepared : (g : Graph) (p : Bool) (before : List Step) (now : Graph) → GraphAfter g before now → (q : Bool) × GraphAfter (prepared_as g p) before (prepared_as now q)
after_prepared g p [] now h = (p, ap (λ (x : Graph). prepared_as x p) h)
after_prepared g p (s ∷ before) now h =
    let old = after_prepared g p before h.0 h.1 in
    let new = grows_prepared s h.0 now old.0 h.2 in
    (new.0, (prepared_as h.0 old.0, old.1, new.1))

module _ (lemmas : List Lemma) where
  right_prepared : (g : Graph) (p : Bool) (before : List Step) (s : Step) → Right (ByLemmas lemmas) g before s → Right (ByLemmas lemmas) (prepared_as g p) before s
  right_prepared g p before s h =
      let now = after_prepared g p before h.0 h.1 in
      (prepared_as h.0 now.0, now.1, right_same (ByLemmas lemmas) (by_lemmas_prepared lemmas) h.0 now.0 before s h.2)

  all_prepared : (g : Graph) (p : Bool) (steps : List Step) → AllRight (ByLemmas lemmas) g steps → AllRight (ByLemmas lemmas) (prepared_as g p) steps
  all_prepared g p [] all = tt
  all_prepared g p (s ∷ before) all = (right_prepared g p before s all.0, all_prepared g p before all.1)

  pub derives_prepared : (g : Graph) (p : Bool) (a b : ℕ) (steps : List Step) → Derives (ByLemmas lemmas) g a b steps → Derives (ByLemmas lemmas) (prepared_as g p) a b steps
  derives_prepared g p a b steps h = (all_prepared g p (reverse steps) h.0, h.1)
