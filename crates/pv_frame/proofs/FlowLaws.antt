-- Leaving a method, as the function that tests it finds it.
use Rattle.std.proofs.Common.{◌≡◌, Bool, List, Option, Some, None, refl, ap, ◌∙◌, IsTrue, is_some}
use Rattle.pv_frame.proofs.Words.{option_map, Sort, Action, Program, Frame, Taken, popped, takes, same, IsEnd, Leaves}
use Rattle.pv_frame.proofs.StackSteps.{rest_of}

abbrev Found : Taken Sort → Type 0
Found t = (q : List Sort × List Sort) × (t ≡ Some q)

found_is : (t : Taken Sort) (r : Bool) → r ≡ is_some (rest_of t) → (IsTrue r → Found t) × (Found t → IsTrue r)
found_is None r e = ((λ h. absurd (cc (e, h))), (λ (q, is). absurd (cc (is))))
found_is (Some q) r e = ((λ h. (q, refl)), (λ h. e))

pub is_some-map : {A B : Type 0} (g : A → B) (o : Option A) → is_some o ≡ is_some (option_map g o)
is_some-map g None = refl
is_some-map g (Some x) = refl

pub leaves_is : (p : Program) (a : Action) (f : Frame) (o : Option (List Sort)) (r : Bool) → IsEnd p a → o ≡ rest_of (popped same (takes a) f.stack) → r ≡ is_some o → (IsTrue r → Leaves p a f) × (Leaves p a f → IsTrue r)
leaves_is p a f o r end is e =
    let both = found_is (popped same (takes a) f.stack) r (e ∙ ap is_some is) in
    ((λ h. (end, both.0 h)), (λ l. both.1 l.1))
