-- What an operation means, as a relation between the values of its kids and its own: the equations of
-- the operations once more, generic in what a kid is.
use Rattle.std.specs.Prelude.{◌≡◌, ◌⊎◌, ℕ, suc, ◌<◌, ◌≤◌, Bool, true, false, List, [], ◌∷◌, Option, Some, if◌then◌else◌}
use Rattle.std.specs.List.{AllZip}
use Rattle.pv_value.specs.declared.world.World.{World}
use Rattle.pv_value.specs.declared.heap.Heap.{Heap}
use Rattle.pv_value.specs.declared.number.Num.{Num}
use Rattle.pv_value.specs.declared.outcome.Input.{Input}
use Rattle.pv_value.specs.declared.outcome.Outcome.TheVariants.{Returned, Threw}
use Rattle.pv_value.specs.declared.outcome.Fault.{Fault}
use Rattle.pv_value.specs.declared.outcome.Fault.TheVariants as fault
use Rattle.pv_value.specs.declared.outcome.Val.{Val}
use Rattle.pv_value.specs.declared.outcome.Val.TheVariants as val
use Rattle.pv_graph.specs.declared.node.Op.{Op}
use Rattle.pv_graph.specs.Ops.{Shape, plain, choice, theta, eval, pass, shift, root}
use Rattle.pv_denote.specs.Denote.{Index, at_depth, strict, truth, result_of}

-- the kid is true there; or false
abbrev pub IsTrueAt : {N : Type 0} → (N → Index → Val → Type 0) → Bool → N → Index → Type 0
IsTrueAt R t c i = (u : Val) × R c i u × (truth u ≡ Some t)

-- a pass from iteration j on ends at iteration k: the test is true there, and false at each earlier one
pub record PassFrom {N : Type 0} (R : N → Index → Val → Type 0) (d : ℕ) (c : N) (i : Index) (j : ℕ) (v : Val) : Type 0 where
  pub k : ℕ
  pub count : v ≡ val.Count k
  pub low : j ≤ k
  pub ends : IsTrueAt R true c (at_depth i d k)
  pub goes_on : (l : ℕ) → j ≤ l → l < k → IsTrueAt R false c (at_depth i d l)

-- with its result where the fault is clear, which alone is then needed
abbrev pub Ending : {N : Type 0} → (N → Index → Val → Type 0) → N → Index → Fault → Heap → Val → Type 0
Ending R r i fault.Clear h v = (u : Val) × (n : Option Num) × R r i u × (result_of u ≡ Some n) × (v ≡ val.End (Returned n h))
Ending R r i f h v = v ≡ val.End (Threw f h)

-- an operation over kids has the value v, where R says which values a kid has
abbrev pub Means : {N : Type 0} → World → Input → (N → Index → Val → Type 0) → Shape → Op → List N → Index → Val → Type 0
Means w x R plain o ks i v = (vs : List Val) × AllZip (λ k u. R k i u) ks vs × (strict w x o vs ≡ Some v)
Means w x R choice o (c ∷ a ∷ b ∷ []) i v = (t : Bool) × IsTrueAt R t c i × R (if t then a else b) i v
Means w x R (theta d) o (a ∷ b ∷ []) i v = ((i d ≡ 0) × R a i v) ⊎ ((k : ℕ) × (i d ≡ suc k) × R b (at_depth i d k) v)
Means w x R (eval d) o (a ∷ p ∷ []) i v = (k : ℕ) × R p i (val.Count k) × R a (at_depth i d k) v
Means w x R (pass d) o (c ∷ []) i v = PassFrom R d c i 0 v
Means w x R (shift d) o (a ∷ []) i v = R a (at_depth i d (suc (i d))) v
Means w x R root o (t ∷ f ∷ r ∷ h ∷ []) i v = (e : Fault) × (m : Heap) × R t i val.Unit × R f i (val.Fault e) × R h i (val.Heap m) × Ending R r i e m v
Means w x R s o ks i v = ⊥
