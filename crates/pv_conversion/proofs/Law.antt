-- The law of the conversion.
use Rattle.std.proofs.Common.{ℕ, ◌<◌, ◌≤◌, length, ◌↔◌}
use Rattle.pv_conversion.proofs.Words.{World, Input, Outcome, Val, Index, unfolds_value, Exp, Flow, Shape, Starts, Runnable, Values, form_of, AreEquations, root_of, EndsWith, Finishes, Next, MachineEnds, Carries}
use Rattle.pv_value.specs.declared.outcome.Val.TheVariants as vals
use Rattle.pv_denote.specs.Denote as denote
use Rattle.pv_graph.specs.Unfold.{UnfoldsAs}
use Rattle.pv_graph.specs.Graphs.{Graph, form_at}
use Rattle.pv_denote.specs.Meaning.{Value}
use Rattle.pv_conversion.proofs.Meanings.{meaning}
use Rattle.pv_conversion.specs.Laws.{AsTested, Conversion}
use Rattle.pv_conversion.proofs.Top.{root_blocks, root_machine}

module _ (g : Graph) (w : World) (x : Input) (f : Flow) (v : Values) (rank : ℕ → ℕ) (shape : Shape f rank) (top : ℕ) (below_top : (b : ℕ) → rank b < top) (deepest : ℕ) (deep : (b : ℕ) → length (f.around b) ≤ deepest)
    (eqs : AreEquations f v) (Typed : ℕ → (ℕ → Val) → Type 0) (runnable : Runnable w x f Typed) (finishes : Finishes w x f Typed) (d : Exp) (r : ℕ) (unfolds : UnfoldsAs (form_at g.nodes) (form_of f v) r (root_of f v d)) where
  -- GRAPH AND BLOCKS
  pub graph_blocks : (σ : ℕ → Val) → Starts w x f σ → Typed f.entry σ → (i : Index) (o : Outcome) → Value g w x r i (vals.End o) ↔ EndsWith w x f f.entry σ o
  graph_blocks σ st typed i o =
      let a = unfolds_value (form_at g.nodes) (form_of f v) w x r (root_of f v d) i (vals.End o) unfolds in
      let b = root_blocks w x (denote.Value (form_of f v) w x) f v rank (meaning f v rank eqs shape top below_top w x) eqs shape top below_top deepest deep Typed runnable finishes σ st typed d i o in
      ((λ h. b.0 (a.0 h)), (λ h. a.1 (b.1 h)))

  -- GRAPH AND MACHINE
  pub graph_machine : (S : Type 0) (step : S → Next S) (At : ℕ → (ℕ → Val) → S → Type 0) → Carries w x f S step At → (s : S) (σ : ℕ → Val) → At f.entry σ s → Starts w x f σ → Typed f.entry σ
      → (i : Index) (o : Outcome) → Value g w x r i (vals.End o) ↔ MachineEnds step s o
  graph_machine S step At carries s σ at' st typed i o =
      let a = unfolds_value (form_at g.nodes) (form_of f v) w x r (root_of f v d) i (vals.End o) unfolds in
      let b = root_machine w x (denote.Value (form_of f v) w x) f v rank (meaning f v rank eqs shape top below_top w x) eqs shape top below_top deepest deep Typed runnable finishes S step At carries s σ at' st typed d i o in
      ((λ h. b.0 (a.0 h)), (λ h. a.1 (b.1 h)))

pub conversion : Conversion
conversion g w x f v rank top deepest t d r σ i o shape below deep eqs runnable finishes unfolds st typed =
    graph_blocks g w x f v rank shape top below deepest deep eqs (AsTested t) runnable finishes d r unfolds σ st typed i o
