-- What the functions of this crate give: the value that a definition has, or that there is none; or memory ran out.
use Rattle.std.specs.Prelude.{◌≡◌, ℕ, ◌+◌, ◌<◌, ◌≤◌, ◌^◌, false, List, [], ◌∷◌, length, Option, Some, None, Result, Ok, Err}
use Rattle.std.specs.List.{AllByRecursion}
use Rattle.pv_value.specs.declared.number.Num.{Num}
use Rattle.pv_value.specs.declared.outcome.Val.{Val}
use Rattle.pv_value.specs.declared.outcome.Val.TheVariants as val
use Rattle.pv_graph.specs.declared.node.Op.{Op}
use Rattle.pv_graph.specs.Ops.{shape}
use Rattle.pv_graph.specs.Graphs.{Graph, form_at, IsGraph}
use Rattle.pv_denote.specs.Denote.{Index, shaped, den, looks}
use Rattle.pv_denote.specs.declared.setting.Setting.{Setting}
use Rattle.pv_denote.specs.declared.stop.Stop.{Stop}
use Rattle.pv_denote.specs.declared.stop.Stop.TheVariants.{NoValue, Memory}

-- an evaluation stops where there is no value, or where memory ran out
abbrev pub Stops : {A : Type 0} → Stop → Option A → Type 0
Stops NoValue expected = expected ≡ None
Stops Memory expected = Unit {0}

abbrev pub Gives : {A : Type 0} → Result A Stop → Option A → Type 0
Gives (Ok a) expected = expected ≡ Some a
Gives (Err e) expected = Stops e expected

-- ---- values

-- a number
abbrev pub num_in : Val → Option Num
num_in (val.Num n) = Some n
num_in v = None

-- a value that needs no kids
abbrev pub leaf_of : Val → List Val → Option Val
leaf_of v [] = Some v
leaf_of v (u ∷ us) = None

-- a count that one more doesn't take out of the range of a u64
abbrev pub IsSmall : Val → Type 0
IsSmall (val.Count k) = k < 2 ^ 62
IsSmall v = Unit {0}

-- ---- evaluation

-- the value of a node with this fuel
abbrev pub value_of : Setting → ℕ → ℕ → Index → Option Val
value_of s fuel n i = den (form_at s.graph.now.nodes) s.world.now s.input.now fuel n i

-- the value of an operation over kids, which have this fuel
abbrev pub over_kids : Setting → ℕ → Op → List ℕ → Index → Option Val
over_kids s fuel o ks i = shaped s.world.now s.input.now (value_of s fuel) (looks (form_at s.graph.now.nodes) s.world.now s.input.now fuel) (shape o) o ks i

-- nodes of a sealed graph, and an index and fuel that keep all iterations in the range of a u64
pub record MayEvaluate (g : Graph) (ks : List ℕ) (i : Index) (fuel : ℕ) : Type 0 where
  pub graph : IsGraph g
  pub sealed : g.is_open ≡ false
  pub there : AllByRecursion (λ k. k < length g.nodes) ks
  pub room : (d : ℕ) → d ≤ 16 → i d + fuel < 2 ^ 63
  pub fuel_ : fuel < 2 ^ 62
