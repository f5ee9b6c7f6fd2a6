-- What is asked of nodes.
use Rattle.std.specs.Prelude.{◌≡◌, ◌↔◌, ℕ, List, [], ◌∷◌, Option, Some}
use Rattle.pv_graph.specs.declared.node.Op.{Op}
use Rattle.pv_graph.specs.declared.node.Op.TheVariants as op
use Rattle.pv_graph.specs.Ops.{shape}
use Rattle.pv_graph.specs.Graphs.{Graph}
use Rattle.pv_steps.specs.Right.{Is, looks_at}

-- node n looks at other iterations of this depth
pub record LooksAt (g : Graph) (n d : ℕ) : Type 0 where
  pub o : Op
  pub kids : List ℕ
  pub is : Is g n o kids
  pub depth : looks_at (shape o) ≡ Some d

-- node n is an eval of this depth over the kid, and this is its count
abbrev pub IsCount : Graph → ℕ → ℕ → ℕ → Option ℕ → Type 0
IsCount g n d kid count = (p : ℕ) → (count ≡ Some p) ↔ Is g n (op.Eval d) (kid ∷ p ∷ [])
