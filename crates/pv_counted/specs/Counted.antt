-- Counted loops: their passes end, since each iteration adds 1 to an int that is tested against a bound that stays.
use Rattle.std.specs.Prelude.{◌≡◌, ◌⊎◌, ◌↔◌, ◌<◌, ℕ, ℤ, pos, List, [], ◌∷◌, Option, Some, slice_get}
use Rattle.pv_value.specs.declared.operation.ScalarOp.TheVariants.{Iadd, Ilt}
use Rattle.pv_graph.specs.declared.node.Node.{Node}
use Rattle.pv_graph.specs.declared.node.Op.TheVariants as op
use Rattle.pv_graph.specs.Forms.{Form, form}
use Rattle.pv_graph.specs.Graphs.{form_at}
use Rattle.pv_graph.specs.Walks.{In, Free, IsSettled}

-- the constant c
abbrev pub IsInt : {N : Type 0} → (N → Option (Form N)) → ℤ → N → Type 0
IsInt view c n = view n ≡ Some (form (op.Int c) [])

-- n is a + b or b + a
abbrev pub IsSum : {N : Type 0} → (N → Option (Form N)) → N → N → N → Type 0
IsSum view a b n = (view n ≡ Some (form (op.Scalar Iadd) (a ∷ b ∷ []))) ⊎ (view n ≡ Some (form (op.Scalar Iadd) (b ∷ a ∷ [])))

-- y is x and 1, in either order
abbrev pub AddsOne : {N : Type 0} → (N → Option (Form N)) → N → N → Type 0
AddsOne {N} view x y = (one : N) × IsInt view (pos 1) one × IsSum view x one y

-- p is the pass of a loop that counts from start up to bound: its test is false while the counter is below the bound. The
-- counter is x, that starts with start and goes on as y, or y, that is 1 more; and the loop doesn't change the bound.
pub record CountsUp {N : Type 0} (view : N → Option (Form N)) (p start bound : N) : Type 0 where
  pub depth : ℕ
  pub test : N
  pub less : N
  pub zero_ : N
  pub one_ : N
  pub counter : N
  pub x : N
  pub y : N
  pub pass_ : view p ≡ Some (form (op.Pass depth) (test ∷ []))
  pub test_ : view test ≡ Some (form op.Phi (less ∷ zero_ ∷ one_ ∷ []))
  pub goes_on : IsInt view (pos 0) zero_
  pub ends : IsInt view (pos 1) one_
  pub below : view less ≡ Some (form (op.Scalar Ilt) (counter ∷ bound ∷ []))
  pub either : (counter ≡ x) ⊎ (counter ≡ y)
  pub theta_ : view x ≡ Some (form (op.Theta depth) (start ∷ y ∷ []))
  pub step : AddsOne view x y
  pub stays : Free view depth bound → ⊥

-- the counted nodes, the least set with: the pass of a loop that counts up, whose start and bound are settled with counted nodes assumed, is counted
pub data IsCounted {N : Type 0} (view : N → Option (Form N)) : N → Type 0 where
  counts : (p start bound : N) (assumed : List N) → CountsUp view p start bound → ((e : N) → In assumed e → IsCounted view e)
      → IsSettled view assumed start → IsSettled view assumed bound → IsCounted view p

-- these are exactly the counted nodes
abbrev pub AreCounted : List Node → List ℕ → Type 0
AreCounted nodes counted = (p : ℕ) → In counted p ↔ IsCounted (form_at nodes) p

-- each number is greater than those before it
abbrev pub IsAscending : List ℕ → Type 0
IsAscending ns = (i j m n : ℕ) → i < j → slice_get ns i ≡ Some m → slice_get ns j ≡ Some n → m < n
