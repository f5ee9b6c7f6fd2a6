-- The lemma with a number, and what is known of it.
use Rattle.std.specs.Prelude.{◌≡◌, ◌↔◌, ℕ, suc, ◌<◌, ◌≤◌, Bool, true, false, List, [], ◌∷◌, ◌++◌, length, reverse, Option, None, Some, slice_get, ◌==◌, refl, IsTrue, MatchOption}
use Rattle.std.specs.Option.{is_some, option_copied}
use Rattle.std.proofs.Common.{Bor, inl, inr, sym, ap, ◌∙◌, subst, arith}
use Rattle.std.proofs.lemmas.Bool.{eq-eqb, ne_eqb}
use Rattle.std.proofs.lemmas.List.{length-reverse, reverse-append, reverse-reverse}
use Rattle.std.proofs.lemmas.Option.{slice_get_within}
use Rattle.pv_graph.specs.Graphs.{Graph}
use Rattle.pv_graph.proofs.Cited.{equal_or_not, push_cases}
use Rattle.pv_steps.specs.declared.step.Lemma.{Lemma}
use Rattle.pv_lemmas.specs.declared.known.Known.{Known}
use Rattle.pv_lemmas.specs.Lemmas.{AcceptsOf, IsAccepted, IsKnown, IsUse, Uses}
use Rattle.pv_rules.specs.Known.{AreKnown, IsFound, IsStatus, NoneUses}

-- lemma n of these: what is known of it, and when it is used and accepted
pub record AtNumber (lemmas : List Lemma) (n : ℕ) (k : Option Known) : Type 0 where
  pub lemma : Lemma
  pub before : List Lemma
  pub status : IsStatus before lemma k
  pub uses : (g : Graph) (assumed nodes : List ℕ) (a b : ℕ) → Uses lemmas g assumed n nodes a b ↔ (IsAccepted (Uses before) lemma × IsUse lemma g assumed nodes a b)
  pub accepts : AcceptsOf lemmas n ↔ IsAccepted (Uses before) lemma

-- ---- one lemma and those before it

if_last : (A B : Type 0) (t : Bool) → t ≡ true → (elim t as (λ (z : Bool). Type 0) [ true ↦ A | false ↦ B ]) ↔ A
if_last A B true e = (λ x. x, λ x. x)
if_last A B false e = absurd (cc)

if_earlier : (A B : Type 0) (t : Bool) → t ≡ false → (elim t as (λ (z : Bool). Type 0) [ true ↦ A | false ↦ B ]) ↔ B
if_earlier A B true e = absurd (cc)
if_earlier A B false e = (λ x. x, λ x. x)

is_last : (lemma : Lemma) (before : List Lemma) (k : Option Known) → IsStatus before lemma k → AtNumber (lemma ∷ before) (suc (length before)) k
is_last lemma before k status = record {
  lemma = lemma;
  before = before;
  status = status;
  uses = λ g assumed nodes a b. if_last (IsAccepted (Uses before) lemma × IsUse lemma g assumed nodes a b) (Uses before g assumed (suc (length before)) nodes a b) (suc (length before) == suc (length before)) (eq-eqb _ _ refl);
  accepts = if_last (IsAccepted (Uses before) lemma) (AcceptsOf before (suc (length before))) (suc (length before) == suc (length before)) (eq-eqb _ _ refl);
}

is_earlier : (lemma : Lemma) (before : List Lemma) (n : ℕ) (k : Option Known) → (n ≡ suc (length before) → ⊥) → AtNumber before n k → AtNumber (lemma ∷ before) n k
is_earlier lemma before n k other h =
    let no = ne_eqb n (suc (length before)) other in
    record {
      lemma = h.lemma;
      before = h.before;
      status = h.status;
      uses = λ g assumed nodes a b. (let z = if_earlier (IsAccepted (Uses before) lemma × IsUse lemma g assumed nodes a b) (Uses before g assumed n nodes a b) (n == suc (length before)) no in
          (λ u. (h.uses g assumed nodes a b).0 (z.0 u), λ u. z.1 ((h.uses g assumed nodes a b).1 u)));
      accepts = (let z = if_earlier (IsAccepted (Uses before) lemma) (AcceptsOf before n) (n == suc (length before)) no in (λ u. h.accepts.0 (z.0 u), λ u. z.1 (h.accepts.1 u)));
    }

-- ---- all of them

pub known_long : (lemmas : List Lemma) (known : List (Option Known)) → AreKnown lemmas known → length lemmas ≡ length known
known_long [] [] h = refl
known_long [] (k ∷ known) h = absurd h
known_long (lemma ∷ before) [] h = absurd h
known_long (lemma ∷ before) (k ∷ known) h = ap suc (known_long before known h.1)

-- what stands at a place, counted from 0, is known of the lemma with that number, counted from 1
at_place : (lemmas : List Lemma) (known : List (Option Known)) → AreKnown lemmas known → (p : ℕ) (k : Option Known) → slice_get (reverse known) p ≡ Some k → AtNumber lemmas (suc p) k
at_place [] [] h p k e = absurd (cc)
at_place [] (l ∷ known) h p k e = absurd h
at_place (lemma ∷ before) [] h p k e = absurd h
at_place (lemma ∷ before) (l ∷ known) h p k e =
    let long : length (reverse known) ≡ length before = length-reverse known ∙ sym (known_long before known h.1) in
    let at : slice_get (reverse known ++ l ∷ []) p ≡ Some k = ap (λ (ks : List (Option Known)). slice_get ks p) (sym (reverse-append (l ∷ []) known)) ∙ e in
    elim (push_cases (reverse known) l k p at) [
      | inl there ↦ (let low = slice_get_within (reverse known) p k there in is_earlier lemma before (suc p) k (λ same. omega (arith, low, long, same)) (at_place before known h.1 p k there))
      | inr last ↦
          (let place : suc (length before) ≡ suc p = omega (arith, long, last.0) in
          subst (λ (n : ℕ). AtNumber (lemma ∷ before) n k) place (is_last lemma before k (subst (IsStatus before lemma) last.1 h.0)))
    ]

pub at_number : (lemmas : List Lemma) (known : List (Option Known)) → AreKnown (reverse lemmas) (reverse known) → (p : ℕ) (k : Option Known) → slice_get known p ≡ Some k → AtNumber (reverse lemmas) (suc p) k
at_number lemmas known h p k e = at_place (reverse lemmas) (reverse known) h p k (ap (λ (ks : List (Option Known)). slice_get ks p) (reverse-reverse known) ∙ e)

-- a lemma that is used is one of them
uses_within : (lemmas : List Lemma) (g : Graph) (assumed : List ℕ) (n : ℕ) (nodes : List ℕ) (a b : ℕ) → Uses lemmas g assumed n nodes a b → (0 < n) × (n ≤ length lemmas)
uses_within [] g assumed n nodes a b u = absurd u
uses_within (lemma ∷ before) g assumed n nodes a b u = elim (equal_or_not n (suc (length before))) [
  | inl last ↦ (omega (arith, last), omega (arith, last))
  | inr other ↦
      (let z = if_earlier (IsAccepted (Uses before) lemma × IsUse lemma g assumed nodes a b) (Uses before g assumed n nodes a b) (n == suc (length before)) (ne_eqb n (suc (length before)) other) in
      let w = uses_within before g assumed n nodes a b (z.0 u) in
      (w.0, omega (arith, w.1)))
]

-- ---- the three answers about a number

pub none_at_zero : (lemmas : List Lemma) (n : ℕ) → n ≡ 0 → NoneUses lemmas n
none_at_zero lemmas n e g assumed nodes a b u = let w = uses_within lemmas g assumed n nodes a b u in omega (arith, e, w.0)

pub none_past : (lemmas : List Lemma) (known : List (Option Known)) (n : ℕ) → AreKnown (reverse lemmas) (reverse known) → length known < n → NoneUses (reverse lemmas) n
none_past lemmas known n h past g assumed nodes a b u =
    let w = uses_within (reverse lemmas) g assumed n nodes a b u in
    let long : length (reverse lemmas) ≡ length known = known_long (reverse lemmas) (reverse known) h ∙ length-reverse known in
    omega (arith, past, w.1, long)

pub none_rejected : (lemmas : List Lemma) (n : ℕ) → AtNumber lemmas n None → NoneUses lemmas n
none_rejected lemmas n h g assumed nodes a b u = h.status ((h.uses g assumed nodes a b).0 u).0

pub found_accepted : (lemmas : List Lemma) (n : ℕ) (known : Known) → AtNumber lemmas n (Some known) → IsFound lemmas n known
found_accepted lemmas n known h = (
  λ g assumed nodes a b. (
    λ u. subst (λ (l : Lemma). IsUse l g assumed nodes a b) (sym h.status.1) ((h.uses g assumed nodes a b).0 u).1,
    λ u. (h.uses g assumed nodes a b).1 (h.status.0, subst (λ (l : Lemma). IsUse l g assumed nodes a b) h.status.1 u),
  ),
  subst (λ (l : Lemma). IsKnown l known.graph) (sym h.status.1) h.status.2,
)

pub rejected : (lemmas : List Lemma) (n : ℕ) → AtNumber lemmas n None → AcceptsOf lemmas n → ⊥
rejected lemmas n h a = h.status (h.accepts.0 a)

pub accepted : (lemmas : List Lemma) (n : ℕ) (known : Known) → AtNumber lemmas n (Some known) → AcceptsOf lemmas n
accepted lemmas n known h = h.accepts.1 h.status.0

-- of what is kept of it
pub tells : (lemmas : List Lemma) (n : ℕ) (k : Option Known) (r : Option (Bor Known)) → AtNumber lemmas n k → option_copied r ≡ k → MatchOption r (NoneUses lemmas n) (λ known. IsFound lemmas n known.now)
tells lemmas n k None h e = none_rejected lemmas n (subst (AtNumber lemmas n) (sym e) h)
tells lemmas n k (Some b) h e = found_accepted lemmas n b.now (subst (AtNumber lemmas n) (sym e) h)

pub accepts_if : (lemmas : List Lemma) (n : ℕ) (k : Option Known) (answer : Bool) → AtNumber lemmas n k → answer ≡ is_some k → IsTrue answer ↔ AcceptsOf lemmas n
accepts_if lemmas n None answer h e = (λ t. absurd (let z = t in cc (e, z)), λ a. absurd (rejected lemmas n h a))
accepts_if lemmas n (Some known) answer h e = (λ t. accepted lemmas n known h, λ a. e)

pub count_known : (lemmas : List Lemma) (known : List (Option Known)) → AreKnown (reverse lemmas) (reverse known) → length lemmas ≡ length known
count_known lemmas known h = sym (length-reverse lemmas) ∙ known_long (reverse lemmas) (reverse known) h ∙ length-reverse known
