-- A section is accepted over a graph whether the graph is prepared or not.
use Rattle.std.specs.Prelude.{◌≡◌, ℕ, Bool, List, [], ◌∷◌, reverse, refl}
use Rattle.std.proofs.Common.{sym, ap, ◌∙◌, subst}
use Rattle.pv_graph.specs.Graphs.{Graph}
use Rattle.pv_graph.specs.Calls.{IsSame}
use Rattle.pv_steps.specs.declared.step.Step.{Step}
use Rattle.pv_steps.specs.declared.step.Step.TheVariants as steps
use Rattle.pv_steps.specs.Right.{AddsNode, GraphAfter, Grows, Instances, Right, RightOver}
use Rattle.pv_steps.specs.Accepted.{AllRight, Derives}
use Rattle.pv_check.specs.Rules.{KeepPrepared}
use Rattle.pv_check.proofs.Cited.{adds_same, prepared_as, right_same}

pub back : (now graph : Graph) → IsSame now graph → prepared_as graph now.is_prepared ≡ now
back now graph e = ap (λ (g : Graph). prepared_as g now.is_prepared) e

pub same_chain : (a b c : Graph) → IsSame a b → IsSame b c → IsSame a c
same_chain a b c e f = f ∙ ap (λ (g : Graph). prepared_as g c.is_prepared) e

-- a graph that is this one, prepared or not
abbrev Like : (Graph → Type 0) → Graph → Type 0
Like P now = (new : Graph) × P new × IsSame now new

-- the step makes the same graph of it
grows_as : (s : Step) (old other now : Graph) → IsSame old other → Grows s old now → Like (Grows s other) now
grows_as (steps.Node n o kids) old other now e h = (now, subst (λ (g : Graph). AddsNode g n o kids now) (sym e) (adds_same old now other.is_prepared n o kids h), refl)
grows_as (steps.Axiom n a b nodes) old other now e h = (other, refl, e ∙ ap (λ (g : Graph). prepared_as g other.is_prepared) (sym h))
grows_as (steps.Use n a b nodes) old other now e h = (other, refl, e ∙ ap (λ (g : Graph). prepared_as g other.is_prepared) (sym h))
grows_as (steps.Flip a b f) old other now e h = (other, refl, e ∙ ap (λ (g : Graph). prepared_as g other.is_prepared) (sym h))
grows_as (steps.Chain a b f k) old other now e h = (other, refl, e ∙ ap (λ (g : Graph). prepared_as g other.is_prepared) (sym h))
grows_as (steps.Set cs) old other now e h = (other, refl, e ∙ ap (λ (g : Graph). prepared_as g other.is_prepared) (sym h))
grows_as (steps.Open d pairs) old other now e h = (other, refl, e ∙ ap (λ (g : Graph). prepared_as g other.is_prepared) (sym h))
grows_as (steps.Close d fs) old other now e h = (other, refl, e ∙ ap (λ (g : Graph). prepared_as g other.is_prepared) (sym h))
grows_as (steps.Assume p ns) old other now e h = (other, refl, e ∙ ap (λ (g : Graph). prepared_as g other.is_prepared) (sym h))
grows_as (steps.Finish p q t f r k) old other now e h = (other, refl, e ∙ ap (λ (g : Graph). prepared_as g other.is_prepared) (sym h))

-- so do all steps
after_as : (g : Graph) (p : Bool) (before : List Step) (now : Graph) → GraphAfter g before now → Like (GraphAfter (prepared_as g p) before) now
after_as g p [] now h = (prepared_as g p, refl, ap (λ (x : Graph). prepared_as x p) (sym h))
after_as g p (s ∷ before) now h =
    let old = after_as g p before h.0 h.1 in
    let new = grows_as s h.0 old.0 now old.2 h.2 in
    (new.0, (old.0, old.1, new.1), new.2)

-- the steps of the other graph make the same one
pub after_over : (start graph : Graph) → IsSame start graph → (before : List Step) (now : Graph) → GraphAfter graph before now → Like (GraphAfter start before) now
after_over start graph e before now h = subst (λ (g : Graph). Like (GraphAfter g before) now) (back start graph e) (after_as graph start.is_prepared before now h)

module _ (R : Instances) (keep : KeepPrepared R) where
  right_as : (g : Graph) (p : Bool) (before : List Step) (s : Step) → Right R g before s → Right R (prepared_as g p) before s
  right_as g p before s h =
      let new = after_as g p before h.0 h.1 in
      (new.0, new.1, subst (λ (x : Graph). RightOver R x before s) (sym new.2) (right_same R keep h.0 new.0.is_prepared before s h.2))

  all_as : (g : Graph) (p : Bool) (before : List Step) → AllRight R g before → AllRight R (prepared_as g p) before
  all_as g p [] h = tt
  all_as g p (s ∷ before) h = (right_as g p before s h.0, all_as g p before h.1)

  derives_as : (g : Graph) (p : Bool) (a b : ℕ) (section : List Step) → Derives R g a b section → Derives R (prepared_as g p) a b section
  derives_as g p a b section h = (all_as g p (reverse section) h.0, h.1)

  pub derives_to : (start graph : Graph) → IsSame start graph → (a b : ℕ) (section : List Step) → Derives R start a b section → Derives R graph a b section
  derives_to start graph e a b section h = subst (λ (g : Graph). Derives R g a b section) (sym e) (derives_as start graph.is_prepared a b section h)

  pub derives_back : (start graph : Graph) → IsSame start graph → (a b : ℕ) (section : List Step) → Derives R graph a b section → Derives R start a b section
  derives_back start graph e a b section h = subst (λ (g : Graph). Derives R g a b section) (back start graph e) (derives_as graph start.is_prepared a b section h)
