-- Where a loop is opened; private to this crate.
use Rattle.std.specs.Prelude.{◌≡◌, ◌⊎◌, ℕ, List, ◌∷◌, Option, Some, slice_get}
use Rattle.pv_flow.specs.declared.block.Block.{Block}
use Rattle.pv_graph.specs.Graphs.{Graph}
use Rattle.pv_loops.specs.Ranks.{Heads}
use Rattle.pv_equations.specs.Exp.{Exp}
use Rattle.pv_equations.specs.Equations.{Values, AreEquations}
use Rattle.pv_terms.specs.declared.names.Named.{Named}
use Rattle.pv_block.specs.declared.ran.State.{State}
use Rattle.pv_block.specs.Ran.{BeginsAt}
use Rattle.pv_build.specs.declared.method.Method.{Method}
use Rattle.pv_build.specs.States.{ReadsState}
use Rattle.pv_build.specs.Stages.{flow_in, loops_at, loops_around}

-- what is held stands for these slots, whatever solves the equations
abbrev pub HeldAs : Method → Graph → List Named → State → (Values → ℕ → Exp) → Type 0
HeldAs m g names c slots = (v : Values) → AreEquations (flow_in m) v → ReadsState g.nodes names c (slots v)

-- what is held where the block of this number begins has the sorts of its frame
abbrev pub BeginsBlock : Method → Graph → ℕ → State → Type 0
BeginsBlock m g b c = (block : Block) → slice_get m.flow.now.blocks b ≡ Some block → BeginsAt g m.typed.now.frames block.first c

-- the loops that are open where block b is begun: those around it, without its own where it is a header
abbrev pub IsOuter : Method → ℕ → Option ℕ → Type 0
IsOuter m b at = ((loops_around m b ≡ loops_at m at) × (Heads (loops_around m b) b → ⊥)) ⊎ (loops_around m b ≡ b ∷ loops_at m at)

-- what is held where block b is entered: a header has other slots when its loop begins again
pub record IsEnteredBy (m : Method) (g : Graph) (names : List Named) (b : ℕ) (c : State) : Type 0 where
  pub header : Heads (loops_around m b) b → HeldAs m g names c (λ v. v.entering b)
  pub other : (Heads (loops_around m b) b → ⊥) → HeldAs m g names c (λ v. v.value b)
