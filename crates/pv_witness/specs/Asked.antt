-- The variables of which an axiom asks a condition on their class.
use Rattle.std.specs.Prelude.{◌≡◌, ℕ, List, Option, Some, None, slice_get}
use Rattle.std.specs.List.{AllByRecursion}
use Rattle.pv_graph.specs.Walks.{In}
use Rattle.pv_pattern.specs.declared.names.NameId.TheVariants as name
use Rattle.pv_pattern.specs.Patterns.{Side, settled, not_free, Axiom}
use Rattle.pv_pattern.specs.Binding.{names}

-- the variable that the condition is about, where it is one on a class
abbrev pub asked : Side → Option ℕ
asked (settled j) = Some j
asked (not_free j) = Some j
asked side = None

-- each variable is asked one condition at most, and a variable for constants none
pub record AsksOnce (a : Axiom) : Type 0 where
  pub once : (p q j : ℕ) (x y : Side) → slice_get a.sides p ≡ Some x → slice_get a.sides q ≡ Some y → asked x ≡ Some j → asked y ≡ Some j → p ≡ q
  pub no_constant : (p j : ℕ) (x : Side) → slice_get a.sides p ≡ Some x → asked x ≡ Some j → In (names a.left) (name.Constant j) → ⊥

-- each axiom of the table does so
abbrev pub AskOnce : List Axiom → Type 0
AskOnce table = AllByRecursion AsksOnce table
