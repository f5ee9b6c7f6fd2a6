-- The graph of the moment, step by step.
use Rattle.std.specs.Prelude.{◌≡◌, ◌↔◌, ℕ, Bool, true, false, List, Result, Ok, Err, IfOk, IsTrue, refl}
use Rattle.std.specs.Bool.{OnTrue, OnFalse}
use Rattle.pv_graph.specs.declared.node.Op.{Op}
use Rattle.pv_graph.specs.Graphs.{Graph}
use Rattle.pv_steps.specs.declared.step.Step.TheVariants as steps
use Rattle.pv_steps.specs.declared.step.Step.{Step}
use Rattle.pv_steps.specs.Right.{AddsNode, Instances, RightOver}
use Rattle.pv_check.specs.Growth.{NodeAdded, GrowsTo}

pub stays : (s : Step) → ((n : ℕ) (o : Op) (kids : List ℕ) → s ≡ steps.Node n o kids → ⊥) → (g : Graph) → GrowsTo s g g
stays (steps.Node n o kids) h g = absurd (h n o kids refl)
stays s h g = (g, refl, refl)

pub always : {E : Type 0} (r : Result Bool E) (P : Type 0) → P → IfOk r (λ b. OnTrue b P)
always (Ok true) P p = p
always (Ok false) P p = tt
always (Err e) P p = tt

pub node_right : {E : Type 0} (R : Instances) (r : Result Bool E) (g new : Graph) (before : List Step) (n : ℕ) (o : Op) (kids : List ℕ) → IfOk r (λ b. OnTrue b (NodeAdded g new n o kids)) → IfOk r (λ b. OnFalse b ((h : Graph) → AddsNode g n o kids h → ⊥))
    → IfOk r (λ b. IsTrue b ↔ RightOver R g before (steps.Node n o kids))
node_right R (Ok true) g new before n o kids h k = (λ e. (h.0, h.1), λ r. refl)
node_right R (Ok false) g new before n o kids h k = (λ e. absurd (cc), λ r. absurd (k r.0 r.1))
node_right R (Err e) g new before n o kids h k = tt
