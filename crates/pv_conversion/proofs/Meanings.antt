-- The values in a graph of expressions are as operations, names and free depths ask.
use Rattle.std.proofs.Common.{ℕ, ◌<◌, List, [], ◌∷◌, length, ◌↔◌, refl, subst}
use Rattle.pv_conversion.proofs.Words.{World, Input, Value, den_makes, value_once, value_says, not_free, Name, Over, two, listed, Flow, Shape, Values, form_of, AreEquations, first_kid, found, free_seen, Meaning}
use Rattle.pv_graph.specs.declared.node.Op.TheVariants as op

module _ (f : Flow) (v : Values) (rank : ℕ → ℕ) (eqs : AreEquations f v) (shape : Shape f rank) (top : ℕ) (below_top : (b : ℕ) → rank b < top) where
  pub meaning : (w : World) (x : Input) → Meaning w x (Value (form_of f v) w x) f v
  meaning w x = record {
    makes = λ o es i u h. den_makes (form_of f v) w x (Over o es) i u o (listed es) refl h;
    says = λ o es i u h. value_says (form_of f v) w x (Over o es) i u o (listed es) refl h;
    once = λ a i u z p q. value_once (form_of f v) w x a i u z p q;
    tied = λ h s B i u ah c. subst (λ (A : List ℕ). Value (form_of f v) w x (Name h s) i u ↔ Value (form_of f v) w x (Over (op.Theta (length A)) (two (first_kid v h s) (v.again h s))) i u) ah (
      (λ y. den_makes (form_of f v) w x _ i u _ _ refl (value_says (form_of f v) w x (Name h s) i u (op.Theta (length (f.around h))) (first_kid v h s ∷ v.again h s ∷ []) refl y)),
      (λ y. den_makes (form_of f v) w x (Name h s) i u (op.Theta (length (f.around h))) (first_kid v h s ∷ v.again h s ∷ []) refl (value_says (form_of f v) w x _ i u _ _ refl y)),
    );
    unfree = λ d k a i u free h. (not_free (form_of f v) w x a i d k u (λ z. let r = found f v d a z in free (free_seen f v rank eqs shape top below_top r.0 a d r.1))).1 h;
  }
