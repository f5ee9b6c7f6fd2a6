-- Receiver symbols have their types, and are of one form and one method.
use Rattle.std.proofs.Common.{◌≡◌, ℕ, length, List, [], ◌∷◌, ◌++◌, refl, sym, ap, subst, ◌∙◌, inl, inr, arith}
use Rattle.std.specs.Prelude.{◌≢◌, ◌==◌, false, drop, codes}
use Rattle.std.specs.List.{AllByRecursion}
use Rattle.std.proofs.lemmas.List.{append_cancel_right, length-append}
use Rattle.std.proofs.Math.Seq.{drop-append_seam}
use Rattle.pv_value.specs.declared.name.Sym.{Sym}
use Rattle.pv_value.specs.declared.descriptor.JType.TheVariants.{A}
use Rattle.pv_value.specs.declared.descriptor.Descriptor.{Descriptor}
use Rattle.pv_value.specs.declared.receiver.Form.{Form}
use Rattle.pv_value.specs.declared.receiver.Form.TheVariants.{Virtual, Special, Interface}
use Rattle.pv_value.specs.declared.receiver.TheConstants.{MARK}
use Rattle.pv_value.specs.Descriptors.{IsFieldType, IsClassName, IsMethodType}
use Rattle.pv_value.specs.Receivers.{letter_of, receiver_name, receiver_sym, with_receiver}
use Rattle.pv_value.specs.Laws.{ReceiversApart}

-- ---- types

differ : {b : ℕ} → (b == 59) ≡ false → b ≢ 59
differ apart e = absurd (cc (apart, ap (λ n. n == 59) e))

object_name : IsClassName (codes "java/lang/Object;")
object_name = (codes "java/lang/Object", (λ e. absurd (cc e)), (differ refl, (differ refl, (differ refl, (differ refl, (differ refl, (differ refl, (differ refl, (differ refl, (differ refl, (differ refl, (differ refl, (differ refl, (differ refl, (differ refl, (differ refl, (differ refl, tt)))))))))))))))), refl)

object_type : IsFieldType (codes "Ljava/lang/Object;") A
object_type = inr (inl (refl, object_name, refl))

typed : (form : Form) (s : Sym) (d : Descriptor) → IsMethodType s.desc d → IsMethodType (receiver_sym form s).desc (with_receiver d)
typed form s d h = record {
  fields = codes "Ljava/lang/Object;" ∷ h.fields;
  last = h.last;
  params = (object_type, h.params);
  result = h.result;
  spelled = ap (λ (text : List ℕ). codes "(Ljava/lang/Object;" ++ drop 1 text) h.spelled;
}

-- ---- names

two_last : (xs ys : List ℕ) (a b : ℕ) → xs ++ MARK ∷ a ∷ [] ≡ ys ++ MARK ∷ b ∷ [] → a ≡ b
two_last xs ys a b e =
    let long : length xs ≡ length ys = omega (arith, ap length e, length-append xs (MARK ∷ a ∷ []), length-append ys (MARK ∷ b ∷ [])) in
    let ends : MARK ∷ a ∷ [] ≡ MARK ∷ b ∷ [] = sym (drop-append_seam xs (MARK ∷ a ∷ [])) ∙ ap (λ (l : List ℕ). drop (length xs) l) e ∙ ap (λ n. drop n (ys ++ MARK ∷ b ∷ [])) long ∙ drop-append_seam ys (MARK ∷ b ∷ []) in
    cc ends

one_letter : (f g : Form) → letter_of f ≡ letter_of g → f ≡ g
one_letter Virtual Virtual e = refl
one_letter Special Special e = refl
one_letter Interface Interface e = refl
one_letter Virtual Special e = absurd (omega (arith, e))
one_letter Virtual Interface e = absurd (omega (arith, e))
one_letter Special Virtual e = absurd (omega (arith, e))
one_letter Special Interface e = absurd (omega (arith, e))
one_letter Interface Virtual e = absurd (omega (arith, e))
one_letter Interface Special e = absurd (omega (arith, e))

one_form : (f g : Form) (s t : Sym) → receiver_sym f s ≡ receiver_sym g t → f ≡ g
one_form f g s t e = one_letter f g (two_last s.name t.name (letter_of f) (letter_of g) (ap (λ x. x.name) e))

-- ---- methods

one_name : (f g : Form) (s t : Sym) → f ≡ g → receiver_sym f s ≡ receiver_sym g t → s.name ≡ t.name
one_name f g s t same e =
    append_cancel_right s.name t.name (MARK ∷ letter_of g ∷ []) (ap (λ form. receiver_name form s.name) (sym same) ∙ ap (λ x. x.name) e)

-- a method descriptor is its first byte and what is after it
opened : (text : List ℕ) (d : Descriptor) → IsMethodType text d → text ≡ 40 ∷ drop 1 text
opened text d h = h.spelled ∙ ap (λ (x : List ℕ). 40 ∷ drop 1 x) (sym h.spelled)

one_desc : (f g : Form) (s t : Sym) (d e : Descriptor) → IsMethodType s.desc d → IsMethodType t.desc e → receiver_sym f s ≡ receiver_sym g t → s.desc ≡ t.desc
one_desc f g s t d e x y same =
    opened s.desc d x ∙ ap (λ (l : List ℕ). 40 ∷ drop 19 l) (ap (λ x. x.desc) same) ∙ sym (opened t.desc e y)

one_method : (f g : Form) (s t : Sym) (d e : Descriptor) → IsMethodType s.desc d → IsMethodType t.desc e → receiver_sym f s ≡ receiver_sym g t → s ≡ t
one_method f g s t d e x y same = λ i. record {
  class = ap (λ x. x.class) same i;
  name = one_name f g s t (one_form f g s t same) same i;
  desc = one_desc f g s t d e x y same i;
}

-- ---- other symbols

has_mark : (xs rest : List ℕ) → AllByRecursion (λ b. b ≢ MARK) (xs ++ MARK ∷ rest) → ⊥
has_mark [] rest all = all.0 refl
has_mark (x ∷ xs) rest all = has_mark xs rest all.1

apart : (form : Form) (s t : Sym) → AllByRecursion (λ b. b ≢ MARK) t.name → receiver_sym form s ≢ t
apart form s t all e = has_mark s.name (letter_of form ∷ []) (subst (λ (name : List ℕ). AllByRecursion (λ b. b ≢ MARK) name) (sym (ap (λ x. x.name) e)) all)

pub receivers_apart : ReceiversApart
receivers_apart = record { typed = typed; form_ = one_form; method = one_method; apart = apart }
