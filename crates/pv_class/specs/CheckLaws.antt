-- Laws: each test tells its fact. A test holds its law, so it is proved where it is made.
-- Definitions may not lead to what is proved of functions, so the laws of descriptors come from their own files, and not from `proofs/Cited`.
use Rattle.std.proofs.Common.{◌≡◌, ◌↔◌, ◌⊎◌, ℕ, zero, suc, ◌≤◌, Bool, true, false, not, ◌||◌, eqb, List, [], ◌∷◌, length, get_or, Option, Some, None, is_some, inl, inr, refl, sym, ap, subst, ◌∙◌, true≢false, arith}
use Rattle.std.specs.List.{Contains, list_any}
use Rattle.std.specs.Str.{bytes_eq}
use Rattle.std.proofs.lemmas.Bool.{cases_eq, eq-eqb, ne_eqb, eqb-true, and_parts, and_from}
use Rattle.std.proofs.lemmas.Slice.Eq.{bytes_eq-Decides}
use Rattle.std.proofs.lemmas.List.Folds.{list_any_at}
use Rattle.std.proofs.lemmas.Map.Views.{Contains-from_any}
use Rattle.pv_value.specs.declared.descriptor.Descriptor.{Descriptor}
use Rattle.pv_value.specs.declared.descriptor.JType.{JType}
use Rattle.pv_value.specs.Descriptors.{IsFieldType, IsResult, IsMethodType}
use Rattle.pv_value.specs.Reading.{field_at, ReadsParams}
use Rattle.pv_value.proofs.Once.{no_bracket, method_again}
use Rattle.pv_value.proofs.FieldTypes.{is_whole as whole_is, is_unread, is_longer}
use Rattle.pv_value.proofs.MethodTypes.{method_takes, is_shorter}
use Rattle.pv_pool.specs.declared.entry.Entry.{Entry}
use Rattle.pv_pool.specs.declared.entry.Entry.TheVariants as entry
use Rattle.pv_pool.specs.Pools.{entry_under, HasText, HasClass}
use Rattle.pv_pool.specs.Readers.{◌>>=◌, text_under, text_of}
use Rattle.pv_class.specs.declared.signature.Signature.{Signature}
use Rattle.pv_class.specs.Deciding.{is_class, is_whole, is_field_type, after_first, after_params, is_result, is_method_type, alike}

-- ---- descriptors

whole_field : (text : List ℕ) (found : Option (JType × List ℕ)) → field_at text ≡ found → (is_whole found ≡ true) ↔ ((t : JType) × IsFieldType text t)
whole_field text None e = (λ ok. absurd (true≢false (sym ok)), λ h. absurd (is_unread text e h.0 h.1))
whole_field text (Some (t, [])) e = (λ ok. (t, whole_is text [] t e refl), λ h. refl)
whole_field text (Some (t, b ∷ rest)) e = (λ ok. absurd (true≢false (sym ok)), λ h. absurd (is_longer text (b ∷ rest) t e (λ nothing. absurd cc) h.0 h.1))

pub field_decides : (text : List ℕ) → (is_field_type text ≡ true) ↔ ((t : JType) × IsFieldType text t)
field_decides text = whole_field text (field_at text) refl

-- parameters that are found stand there
first_takes : (n : ℕ) (text rest : List ℕ) (found : Option (JType × List ℕ)) → ((later : List ℕ) → after_params n later ≡ Some rest → (ts : List JType) × ReadsParams later ts rest) → field_at text ≡ found → after_first (after_params n) found ≡ Some rest
    → (ts : List JType) × ReadsParams text ts rest
unfolding ReadsParams
first_takes n text rest None others is h = absurd cc
first_takes n text rest (Some (t, later)) others is h = let o = others later h in (t ∷ o.0, (later, is, o.1))

after_takes : (n : ℕ) (text rest : List ℕ) → after_params n text ≡ Some rest → (ts : List JType) × ReadsParams text ts rest
unfolding after_params ReadsParams
after_takes zero text rest e = absurd cc
after_takes (suc n) [] rest e = absurd cc
after_takes (suc n) (b ∷ text) rest e =
    elim (cases_eq b 41) [
      | inl is ↦ let found = rw (eq-eqb b 41 is) at e in ([], cc (is, found))
      | inr ne ↦ first_takes n (b ∷ text) rest (field_at (b ∷ text)) (λ later h. after_takes n later rest h) refl (rw (ne_eqb b 41 ne) at e)
    ]

-- and those that stand there are found
close_again : (n : ℕ) (text rest : List ℕ) → length text ≤ n → text ≡ 41 ∷ rest → after_params n text ≡ Some rest
unfolding after_params
close_again n [] rest le e = absurd cc
close_again zero (b ∷ text) rest le e = absurd (omega arith)
close_again (suc n) (b ∷ text) rest le e =
    let first : b ≡ 41 = cc e in
    let others : text ≡ rest = cc e in
    rw (eq-eqb b 41 first) (ap (λ (x : List ℕ). Some x) others)

nothing_read : field_at [] ≡ None
unfolding field_at
nothing_read = refl

first_again : (n : ℕ) (text rest later : List ℕ) (t : JType) → length text ≤ n → field_at text ≡ Some (t, later) → ((m : ℕ) → length later ≤ m → after_params m later ≡ Some rest) → after_params n text ≡ Some rest
unfolding after_params
first_again n [] rest later t le e others = absurd (let nothing = nothing_read in cc)
first_again zero (b ∷ text) rest later t le e others = absurd (omega arith)
first_again (suc n) (b ∷ text) rest later t le e others =
    let shorter = is_shorter (b ∷ text) later t (sym e) in
    elim (cases_eq b 41) [
      | inl is ↦ absurd (let nothing = no_bracket text in let both : field_at (41 ∷ text) ≡ Some (t, later) = subst (λ (c : ℕ). field_at (c ∷ text) ≡ Some (t, later)) is e in cc)
      | inr ne ↦ rw (ne_eqb b 41 ne, e) (others n (omega arith))
    ]

after_again : (n : ℕ) (text rest : List ℕ) (ts : List JType) → length text ≤ n → ReadsParams text ts rest → after_params n text ≡ Some rest
unfolding ReadsParams
after_again n text rest [] le h = close_again n text rest le h
after_again n text rest (t ∷ ts) le h = first_again n text rest h.0 t le h.1 (λ m le'. after_again m h.0 rest ts le' h.2)

-- a test of two
or_true : (a b : Bool) → (a || b) ≡ true → (a ≡ true) ⊎ (b ≡ true)
or_true true b e = inl refl
or_true false b e = inr e

or_left : (a b : Bool) → a ≡ true → (a || b) ≡ true
or_left true b e = refl
or_left false b e = absurd (true≢false (sym e))

or_right : (a b : Bool) → b ≡ true → (a || b) ≡ true
or_right true b e = refl
or_right false b e = e

result_decides : (text : List ℕ) → (is_result (Some text) ≡ true) ↔ ((r : Option JType) × IsResult text r)
result_decides text =
    let void = bytes_eq-Decides text (86 ∷ []) in
    let field = field_decides text in (
      λ ok. elim (or_true (bytes_eq text (86 ∷ [])) (is_field_type text) ok) [
        | inl e ↦ (None, void.0 e)
        | inr e ↦ let t = field.0 e in (Some t.0, t.1)
      ],
      λ h. of_result h.0 h.1,
    )
  where
    of_result : (r : Option JType) → IsResult text r → is_result (Some text) ≡ true
    of_result None is = or_left (bytes_eq text (86 ∷ [])) (is_field_type text) ((bytes_eq-Decides text (86 ∷ [])).1 is)
    of_result (Some t) is = or_right (bytes_eq text (86 ∷ [])) (is_field_type text) ((field_decides text).1 (t, is))

method_reads : (body : List ℕ) (found : Option (List ℕ)) → after_params (length body) body ≡ found → is_result found ≡ true → (d : Descriptor) × IsMethodType (40 ∷ body) d
method_reads body None e ok = absurd cc
method_reads body (Some last) e ok =
    let ts = after_takes (length body) body last e in
    let r = (result_decides last).0 ok in
    let d : Descriptor = record { params = ts.0; result = r.0 } in
    (d, method_takes (40 ∷ body) d (record { body = body; last = last; opened = refl; params = ts.1; result = r.1 }))

pub method_decides : (text : List ℕ) → (is_method_type text ≡ true) ↔ ((d : Descriptor) × IsMethodType text d)
method_decides [] = (λ ok. absurd (true≢false (sym ok)), λ h. absurd (let m = method_again [] h.0 h.1 in let e = m.opened in cc))
method_decides (b ∷ body) = (
  λ ok.
      let both = and_parts (eqb b 40) (is_result (after_params (length body) body)) ok in
      let d = method_reads body (after_params (length body) body) refl both.1 in
      (d.0, subst (λ (c : ℕ). IsMethodType (c ∷ body) d.0) (sym (eqb-true b 40 both.0)) d.1),
  λ h.
      let m = method_again (b ∷ body) h.0 h.1 in
      let first : b ≡ 40 = cc (m.opened) in
      let same : m.body ≡ body = cc (m.opened) in
      let params = subst (λ (x : List ℕ). ReadsParams x h.0.params m.last) same m.params in
      let found = after_again (length body) body m.last h.0.params (omega arith) params in
      and_from (eqb b 40) (is_result (after_params (length body) body)) (eq-eqb b 40 first) (ap is_result found ∙ (result_decides m.last).1 (h.0.result, m.result)),
)

-- ---- indices and signatures

text_found : (o : Option Entry) → is_some (o >>= text_of) ≡ true → (text : List ℕ) × (o ≡ Some (entry.Utf8 text))
text_found (Some (entry.Utf8 text)) ok = (text, refl)
text_found (Some e) ok = absurd cc
text_found None ok = absurd cc

pub text_decides : (pool : List Entry) (i : ℕ) → (is_some (text_under pool i) ≡ true) ↔ HasText pool i
text_decides pool i = (text_found (entry_under pool i), λ h. ap (λ (o : Option Entry). is_some (o >>= text_of)) h.1)

class_found : (o : Option Entry) → is_class o ≡ true → (name : ℕ) × (o ≡ Some (entry.Class name))
class_found (Some (entry.Class name)) ok = (name, refl)
class_found (Some e) ok = absurd cc
class_found None ok = absurd cc

pub class_decides : (pool : List Entry) (i : ℕ) → (is_class (entry_under pool i) ≡ true) ↔ HasClass pool i
class_decides pool i = (class_found (entry_under pool i), λ h. ap is_class h.1)

pub none_decides : (pool : List Entry) (i : ℕ) → ((eqb i 0 || is_class (entry_under pool i)) ≡ true) ↔ ((i ≡ 0) ⊎ HasClass pool i)
none_decides pool i = (
  λ ok. elim (or_true (eqb i 0) (is_class (entry_under pool i)) ok) [
    | inl e ↦ inl (eqb-true i 0 e)
    | inr e ↦ inr ((class_decides pool i).0 e)
  ],
  λ h. elim h [
    | inl e ↦ or_left (eqb i 0) (is_class (entry_under pool i)) (eq-eqb i 0 e)
    | inr c ↦ or_right (eqb i 0) (is_class (entry_under pool i)) ((class_decides pool i).1 c)
  ],
)

pub same_signature : (s t : Signature) → s.name ≡ t.name → s.desc ≡ t.desc → s ≡ t
same_signature s t p q = ap (λ (n : List ℕ). record { name = n; desc = s.desc }) p ∙ ap (λ (d : List ℕ). record { name = t.name; desc = d }) q

pub alike_same : (s t : Signature) → alike s t ≡ true → s ≡ t
alike_same s t ok =
    let both = and_parts (bytes_eq s.name t.name) (bytes_eq s.desc t.desc) ok in
    same_signature s t ((bytes_eq-Decides s.name t.name).0 both.0) ((bytes_eq-Decides s.desc t.desc).0 both.1)

pub same_alike : (s t : Signature) → s ≡ t → alike s t ≡ true
same_alike s t e = and_from (bytes_eq s.name t.name) (bytes_eq s.desc t.desc) ((bytes_eq-Decides s.name t.name).1 (ap (λ (x : Signature). x.name) e)) ((bytes_eq-Decides s.desc t.desc).1 (ap (λ (x : Signature). x.desc) e))

pub new_decides : (seen : List Signature) (s : Signature) → (not (list_any (alike s) seen) ≡ true) ↔ (Contains seen s → ⊥)
new_decides seen s = (
  λ ok there. true≢false (sym (found there) ∙ by_not (list_any (alike s) seen) ok),
  λ none. not_found (list_any (alike s) seen) refl none,
)
  where
    by_not : (b : Bool) → not b ≡ true → b ≡ false
    by_not true e = absurd (true≢false (sym e))
    by_not false e = refl

    found : Contains seen s → list_any (alike s) seen ≡ true
    found there = list_any_at (alike s) seen there.0 s there.1 (same_alike s (get_or seen there.0 s) (sym there.2))

    not_found : (b : Bool) → list_any (alike s) seen ≡ b → (Contains seen s → ⊥) → not b ≡ true
    not_found true e none = absurd (none (Contains-from_any {eq = alike} alike_same s seen e))
    not_found false e none = refl
