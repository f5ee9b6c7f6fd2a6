-- The law of an axiom.
use Rattle.std.specs.Prelude.{◌≡◌, ℕ, false, List}
use Rattle.std.specs.List.{AllByRecursion}
use Rattle.pv_value.specs.Worlds.{IsWorld}
use Rattle.pv_value.specs.Inputs.{IsInput}
use Rattle.pv_value.specs.declared.world.World.{World}
use Rattle.pv_value.specs.declared.outcome.Input.{Input}
use Rattle.pv_value.specs.declared.outcome.Val.{Val}
use Rattle.pv_denote.specs.Denote.{Index, SameAt}
use Rattle.pv_graph.specs.Walks.{In}
use Rattle.pv_graph.specs.Graphs.{Graph, form_at, IsWellMade}
use Rattle.pv_denote.specs.Meaning.{Value}
use Rattle.pv_pattern.specs.Patterns.{Axiom}
use Rattle.pv_pattern.specs.Instances.{IsInstance}

-- the assumed nodes have a value at every index
abbrev pub Ended : Graph → World → Input → List ℕ → Type 0
Ended g w x assumed = (e : ℕ) (j : Index) → In assumed e → (v : Val) × Value g w x e j v

-- a well-made sealed graph, a well-formed world and an input, in which the assumed nodes have values
pub record Setting (g : Graph) (w : World) (x : Input) (assumed : List ℕ) : Type 0 where
  pub made : IsWellMade g
  pub sealed : g.is_open ≡ false
  pub world : IsWorld w
  pub input : IsInput x
  pub ended : Ended g w x assumed

-- both sides of each instance have one and the same value at each index, or neither has one
abbrev pub Law : Axiom → Type 0
Law a = (g : Graph) (assumed subst : List ℕ) (l r : ℕ) (w : World) (x : Input) → Setting g w x assumed → IsInstance g assumed a subst l r → (i : Index) → SameAt (form_at g.nodes) w x i l r

-- each entry of a table has its law
abbrev pub Laws : List Axiom → Type 0
Laws table = AllByRecursion Law table
