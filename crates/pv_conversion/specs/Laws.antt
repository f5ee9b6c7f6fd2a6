-- The law of the conversion.
use Rattle.std.specs.Prelude.{◌≡◌, ℕ, ◌<◌, ◌≤◌, Bool, true, length, ◌↔◌}
use Rattle.pv_value.specs.declared.world.World.{World}
use Rattle.pv_value.specs.declared.outcome.Input.{Input}
use Rattle.pv_value.specs.declared.outcome.Outcome.{Outcome}
use Rattle.pv_value.specs.declared.outcome.Val.{Val}
use Rattle.pv_value.specs.declared.outcome.Val.TheVariants as val
use Rattle.pv_denote.specs.Denote.{Index}
use Rattle.pv_graph.specs.Unfold.{UnfoldsAs}
use Rattle.pv_graph.specs.Graphs.{Graph, form_at}
use Rattle.pv_denote.specs.Meaning.{Value}
use Rattle.pv_equations.specs.Exp.{Exp}
use Rattle.pv_equations.specs.Flow.{Flow, Shape}
use Rattle.pv_conversion.specs.Runs.{Starts, Runnable}
use Rattle.pv_equations.specs.Equations.{Values, form_of, AreEquations}
use Rattle.pv_equations.specs.Root.{root_of}
use Rattle.pv_conversion.specs.Outcomes.{EndsWith, Finishes}

-- the well-typed states, where a test t tells them
abbrev pub AsTested : (ℕ → (ℕ → Val) → Bool) → ℕ → (ℕ → Val) → Type 0
AsTested t b σ = t b σ ≡ true

-- a node r that unfolds as the root of a flow's equations has the value o exactly where the run from the entry ends with o
abbrev pub Conversion : Type 0
Conversion = (g : Graph) (w : World) (x : Input) (f : Flow) (v : Values) (rank : ℕ → ℕ) (top deepest : ℕ) (t : ℕ → (ℕ → Val) → Bool) (d : Exp) (r : ℕ) (σ : ℕ → Val) (i : Index) (o : Outcome)
    → Shape f rank → ((b : ℕ) → rank b < top) → ((b : ℕ) → length (f.around b) ≤ deepest) → AreEquations f v → Runnable w x f (AsTested t) → Finishes w x f (AsTested t)
    → UnfoldsAs (form_at g.nodes) (form_of f v) r (root_of f v d) → Starts w x f σ → AsTested t f.entry σ
    → Value g w x r i (val.End o) ↔ EndsWith w x f f.entry σ o
