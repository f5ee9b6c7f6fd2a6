-- Names of axioms: in lists, each once, and as heads of patterns name them.
use Rattle.std.specs.Prelude.{◌≡◌, ◌↔◌, ℕ, Bool, true, false, List, [], ◌∷◌, ◌++◌, Option, Some, None, if◌then◌else◌, refl}
use Rattle.std.proofs.Common.{sym, ap, ◌∙◌, true≢false}
use Rattle.std.proofs.lemmas.Bool.Decides.{Decides-eqb}
use Rattle.pv_graph.specs.declared.node.Op.{Op}
use Rattle.pv_graph.specs.declared.node.Op.TheVariants as op
use Rattle.pv_pattern.specs.declared.names.NameId.{NameId}
use Rattle.pv_pattern.specs.declared.names.NameId.TheVariants.{Depth, Symbol, Kind, Constant, Operation}
use Rattle.pv_pattern.specs.Patterns.{Head, fixed, theta_d, eval_d, pass_d, shift_d, getstatic, putstatic, getfield, putfield, load, store}
use Rattle.pv_pattern.specs.Numbers.{op_number}
use Rattle.pv_pattern.specs.Instances.{Names, head_op}
use Rattle.pv_pattern.specs.Found.{head_name, same_name}
use Rattle.pv_match.specs.Parameters.{is_among, once_more}
use Rattle.std.proofs.lemmas.Option.{same_Some}
use Rattle.pv_match.specs.Bindings.{depth_in, symbol_in, kind_in, IsNamed, IsUnderHead, head_number}

pub same_names : (a b : NameId) → same_name a b ≡ true → a ≡ b
same_names Depth Depth e = refl
same_names (Symbol s) (Symbol t) e = ap Symbol ((Decides-eqb s t).0 e)
same_names (Kind k) (Kind l) e = ap Kind ((Decides-eqb k l).0 e)
same_names (Constant j) (Constant k) e = ap Constant ((Decides-eqb j k).0 e)
same_names Operation Operation e = refl
same_names a b e = absurd (true≢false (sym e))

-- each once, in two parts
pub once_append : (seen a b : List NameId) → once_more seen (a ++ b) ≡ once_more (once_more seen a) b
once_append seen [] b = refl
once_append seen (n ∷ ns) b = once_append (if is_among seen n then seen else seen ++ n ∷ []) ns b

pub once_known : (seen : List NameId) (n : NameId) → is_among seen n ≡ true → once_more seen (n ∷ []) ≡ seen
once_known seen n e = ap (λ (t : Bool). if t then seen else seen ++ n ∷ []) e

pub once_new : (seen : List NameId) (n : NameId) → is_among seen n ≡ false → once_more seen (n ∷ []) ≡ seen ++ n ∷ []
once_new seen n e = ap (λ (t : Bool). if t then seen else seen ++ n ∷ []) e

-- ---- heads

pub heads_number : (m : Names) (h : Head) → op_number (head_op m h) ≡ head_number h
heads_number m (fixed o) = refl
heads_number m theta_d = refl
heads_number m eval_d = refl
heads_number m pass_d = refl
heads_number m shift_d = refl
heads_number m (getstatic s) = refl
heads_number m (putstatic s) = refl
heads_number m (getfield s) = refl
heads_number m (putfield s) = refl
heads_number m (load k) = refl
heads_number m (store k) = refl

-- an operation is a head's where it is under it and shows what the head names
abbrev pub ShowsHead : Names → Option NameId → Op → List ℕ → Type 0
ShowsHead m None o cs = Unit {0}
ShowsHead m (Some n) o cs = IsNamed m n o cs

some_is : {A : Type 0} {a b : A} → Some a ≡ Some b → a ≡ b
some_is {A} {a} {b} e = same_Some a b e

pub head_is : (m : Names) (h : Head) (o : Op) (cs : List ℕ) → (o ≡ head_op m h) ↔ (IsUnderHead h o × ShowsHead m (head_name h) o cs)
head_is m (fixed p) o cs = ((λ e. (e, tt)), (λ h. h.0))
head_is m theta_d o cs = ((λ e. ((m.depth, e), ap depth_in e)), (λ h. h.0.1 ∙ ap op.Theta (some_is (sym (ap depth_in h.0.1) ∙ h.1))))
head_is m eval_d o cs = ((λ e. ((m.depth, e), ap depth_in e)), (λ h. h.0.1 ∙ ap op.Eval (some_is (sym (ap depth_in h.0.1) ∙ h.1))))
head_is m pass_d o cs = ((λ e. ((m.depth, e), ap depth_in e)), (λ h. h.0.1 ∙ ap op.Pass (some_is (sym (ap depth_in h.0.1) ∙ h.1))))
head_is m shift_d o cs = ((λ e. ((m.depth, e), ap depth_in e)), (λ h. h.0.1 ∙ ap op.Shift (some_is (sym (ap depth_in h.0.1) ∙ h.1))))
head_is m (getstatic s) o cs = ((λ e. ((m.symbols s, e), ap symbol_in e)), (λ h. h.0.1 ∙ ap op.GetStatic (some_is (sym (ap symbol_in h.0.1) ∙ h.1))))
head_is m (putstatic s) o cs = ((λ e. ((m.symbols s, e), ap symbol_in e)), (λ h. h.0.1 ∙ ap op.PutStatic (some_is (sym (ap symbol_in h.0.1) ∙ h.1))))
head_is m (getfield s) o cs = ((λ e. ((m.symbols s, e), ap symbol_in e)), (λ h. h.0.1 ∙ ap op.GetField (some_is (sym (ap symbol_in h.0.1) ∙ h.1))))
head_is m (putfield s) o cs = ((λ e. ((m.symbols s, e), ap symbol_in e)), (λ h. h.0.1 ∙ ap op.PutField (some_is (sym (ap symbol_in h.0.1) ∙ h.1))))
head_is m (load k) o cs = ((λ e. ((m.kinds k, e), ap kind_in e)), (λ h. h.0.1 ∙ ap op.Load (some_is (sym (ap kind_in h.0.1) ∙ h.1))))
head_is m (store k) o cs = ((λ e. ((m.kinds k, e), ap kind_in e)), (λ h. h.0.1 ∙ ap op.Store (some_is (sym (ap kind_in h.0.1) ∙ h.1))))
