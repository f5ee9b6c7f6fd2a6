-- What the proofs use of the values of expressions. The values themselves are those of the graph whose nodes are the
-- expressions (`form_of` of Equations, and `Value` of the layer below).
use Rattle.std.specs.Prelude.{◌≡◌, ℕ, true, List, ◌∷◌, length, ◌↔◌}
use Rattle.pv_value.specs.declared.world.World.{World}
use Rattle.pv_value.specs.declared.outcome.Input.{Input}
use Rattle.pv_value.specs.declared.outcome.Val.{Val}
use Rattle.pv_graph.specs.declared.node.Op.{Op}
use Rattle.pv_graph.specs.declared.node.Op.TheVariants as op
use Rattle.pv_graph.specs.Ops.{shape}
use Rattle.pv_denote.specs.Denote.{Index, at_depth}
use Rattle.pv_denote.specs.Means.{Means}
use Rattle.pv_equations.specs.Exp.{Exp, Exps, Name, Over, two, listed}
use Rattle.pv_equations.specs.Flow.{Flow}
use Rattle.pv_equations.specs.Equations.{Values, FreeIn, first_kid}

-- V a i u says that the expression a has the value u at the iterations i
pub record Meaning (w : World) (x : Input) (V : Exp → Index → Val → Type 0) (f : Flow) (v : Values) : Type 0 where
  -- the values of an operation are those that it means over the values of its kids
  pub makes : (o : Op) (es : Exps) (i : Index) (u : Val) → Means w x V (shape o) o (listed es) i u → V (Over o es) i u
  pub says : (o : Op) (es : Exps) (i : Index) (u : Val) → V (Over o es) i u → Means w x V (shape o) o (listed es) i u
  -- at most one
  pub once : (a : Exp) (i : Index) (u z : Val) → V a i u → V a i z → u ≡ z
  -- a name has the values of its theta
  pub tied : (h s : ℕ) (B : List ℕ) (i : Index) (u : Val) → f.around h ≡ h ∷ B → f.carried h s ≡ true
      → V (Name h s) i u ↔ V (Over (op.Theta (length (h ∷ B))) (two (first_kid v h s) (v.again h s))) i u
  -- the iteration at a depth that isn't free doesn't matter
  pub unfree : (d k : ℕ) (a : Exp) (i : Index) (u : Val) → (FreeIn f v d a → ⊥) → V a (at_depth i d k) u → V a i u
