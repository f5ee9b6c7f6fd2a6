-- Pairs that rest on each other are the same: a value that some fuel gives the first is the second's too, by induction on the fuel.
use Rattle.std.specs.Prelude.{◌≡◌, ◌⊎◌, ℕ, zero, suc, List, Some}
use Rattle.std.specs.List.{AllZip}
use Rattle.std.proofs.Common.{inl, inr, sym, ◌∙◌, subst}
use Rattle.pv_value.specs.declared.world.World.{World}
use Rattle.pv_value.specs.declared.outcome.Input.{Input}
use Rattle.pv_value.specs.declared.outcome.Val.{Val}
use Rattle.pv_graph.specs.declared.node.Op.{Op}
use Rattle.pv_graph.specs.Ops.{shape}
use Rattle.pv_graph.specs.Forms.{form}
use Rattle.pv_denote.specs.Denote.{Index, den, Value}
use Rattle.pv_denote.specs.Means.{Means}
use Rattle.pv_denote.proofs.Cited.{With, den_says, den_makes, Moves, Stays, means_map}
use Rattle.pv_steps.specs.Facts.{View}

-- the nodes have one operation, P holds of the depth at which it looks at other iterations, and R joins their kids in order
pub record Alike (view : View) (R : ℕ → ℕ → Type 0) (P : ℕ → Type 0) (a b : ℕ) : Type 0 where
  pub o : Op
  pub lefts : List ℕ
  pub rights : List ℕ
  pub left : view a ≡ Some (form o lefts)
  pub right : view b ≡ Some (form o rights)
  pub moves : Moves P (shape o)
  pub kids : AllZip R lefts rights

-- E joins nodes that are the same at the indices of I, and S joins nodes of one operation whose kids E or S joins
module _ (view : View) (w : World) (x : Input) (I : Index → Type 0) (E S : ℕ → ℕ → Type 0)
    (e : (a b : ℕ) (i : Index) (v : Val) → E a b → I i → Value view w x a i v → Value view w x b i v)
    (s : (a b : ℕ) → S a b → Alike view (λ a b. E a b ⊎ S a b) (Stays I) a b) where
  -- the values of a go to b
  Leads : ℕ → ℕ → ℕ → Type 0
  Leads fuel a b = (i : Index) (v : Val) → I i → With view w x fuel a i v → Value view w x b i v

  either : (fuel a b : ℕ) → (S a b → Leads fuel a b) → E a b ⊎ S a b → Leads fuel a b
  unfolding Leads
  either fuel a b r (inl t) i v y h = e a b i v t y (fuel, h)
  either fuel a b r (inr t) i v y h = r t i v y h

  leads : (fuel a b : ℕ) → S a b → Leads fuel a b
  unfolding den Leads
  leads zero a b p i v y h = absurd (cc)
  leads (suc fuel) a b p i v y h =
      let q = s a b p in
      let r = den_says view w x fuel a i v h in
      let op_same : r.0 ≡ q.o = (let z = sym r.2 ∙ q.left in cc) in
      let kids_same : r.1 ≡ q.lefts = (let z = sym r.2 ∙ q.left in cc) in
      let h' = subst (λ (o : Op). Means w x (With view w x fuel) (shape o) o q.lefts i v) op_same (subst (λ (ks : List ℕ). Means w x (With view w x fuel) (shape r.0) r.0 ks i v) kids_same r.3) in
      den_makes view w x b i v q.o q.rights q.right
      (means_map w x I (With view w x fuel) (Value view w x) (λ a b. E a b ⊎ S a b) (λ a b j u t. either fuel a b (leads fuel a b) t j u) (shape q.o) q.o q.lefts q.rights i v q.moves q.kids y h')

  pub pairs_lead : (a b : ℕ) (i : Index) (v : Val) → S a b → I i → Value view w x a i v → Value view w x b i v
  unfolding Leads
  pairs_lead a b i v p y h = leads h.0 a b p i v y h.1
