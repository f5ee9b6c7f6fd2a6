-- Each instruction that is decoded does something or has a cause: that neither holds is impossible.
use Rattle.std.proofs.Common.{◌≡◌, ◌≢◌, ℕ, zero, suc, ◌<◌, Bool, true, false, refl, List, [], ◌∷◌, Option, Some, None, ◌∙◌, ap, sym, subst, inl, inr, arith, ◌⊎◌, ◌==◌, ◌&&◌, ◌||◌, not, is_some, if◌then◌else◌, option_map, eq-eqb, eqb-true}
use Rattle.pv_frame.proofs.Words.{and_parts, AllZip, AllByRecursion, list_all, Sym, JType, F, D, Descriptor, receiver_sym, with_receiver, Entry, Constant, Member, text_under, constant_under, class_name_under, member_under, Insn, Placed, form_of, IsFormed}
use Rattle.pv_frame.proofs.Words.{Use, CauseKind, Action, plain_rows, local_rows, branch_rows, field_rows, row_of, use_of, use_of_constant, use_of_class, use_of_member, loads_narrow, loads_wide, names_class, IsFloatless, HasFloatlessResult, IsFloatlessMethod, ActsWith, Acts, AccessesFields, NamesWell, IsCauseWith, IsCauseOf, HasNoCause, refused_by, Does}
use Rattle.pv_value.specs.declared.number.Num.TheVariants as num
use Rattle.pv_pool.specs.declared.constant.Constant.TheVariants as constant
use Rattle.pv_insn.specs.declared.form.Form.TheVariants as form
use Rattle.pv_insn.specs.declared.insn.Insn.TheVariants as insn
use Rattle.pv_frame.specs.declared.used.Use.TheVariants as used
use Rattle.pv_frame.specs.declared.cause.CauseKind.TheVariants as kind
use Rattle.pv_frame.specs.declared.action.Action.TheVariants as act
use Rattle.pv_frame.proofs.ActionLaws.{class_row}
use Rattle.pv_frame.proofs.Tables.{table_of, agrees, agrees_in, below, tables_agree}

-- a String has its text, as the format of a pool asks (JVMS 4.4.3)
abbrev pub HasTexts : List Entry → Type 0
HasTexts pool = (i j : ℕ) → constant_under pool i ≡ Some (constant.Text j) → (text : List ℕ) × (text_under pool j ≡ Some text)

-- ---- rows

each_below : (p : ℕ → Bool) (n k : ℕ) → list_all p (below n) ≡ true → k < n → p k ≡ true
unfolding below
each_below p zero k e h = absurd (omega arith)
each_below p (suc n) k e h =
    elim (n == k) as (λ b. (n == k) ≡ b → p k ≡ true) [
      | true ↦ λ is. subst (λ (x : ℕ). p x ≡ true) (eqb-true n k is) (and_parts (p n) (list_all p (below n)) e).0
      | false ↦ λ is. each_below p n k (and_parts (p n) (list_all p (below n)) e).1 (let other : n ≢ k = λ same. absurd (cc (eq-eqb n k same, is)) in omega arith)
    ] refl

there : {A : Type 0} (o : Option A) → is_some o ≡ true → (x : A) × (o ≡ Some x)
there (Some x) e = (x, refl)
there None e = absurd (cc)

first_of_five : (this a b c d : Bool) → (this && not a && not b && not c && not d) ≡ true → this ≡ true
first_of_five true a b c d e = refl
first_of_five false a b c d e = e

agrees_at : (o : ℕ) → o < 256 → agrees o ≡ true
agrees_at o h = each_below agrees 256 o tables_agree h

pub plain_row : (o : ℕ) → o < 256 → form_of o ≡ Some form.Plain → (a : Action) × (row_of plain_rows o ≡ Some a)
unfolding agrees
plain_row o h e = there (row_of plain_rows o) (first_of_five _ _ _ _ _ (ap (λ f. agrees_in o (table_of f)) (sym e) ∙ agrees_at o h))

pub local_row : (o : ℕ) → o < 256 → form_of o ≡ Some form.Local → (a : ℕ → Action) × (row_of local_rows o ≡ Some a)
unfolding agrees
local_row o h e = there (row_of local_rows o) (first_of_five _ _ _ _ _ (ap (λ f. agrees_in o (table_of f)) (sym e) ∙ agrees_at o h))

pub branch_row : (o : ℕ) → o < 256 → (form_of o ≡ Some form.Branch2) ⊎ (form_of o ≡ Some form.Branch4) → (a : ℕ → Action) × (row_of branch_rows o ≡ Some a)
unfolding agrees
branch_row o h (inl e) = there (row_of branch_rows o) (first_of_five _ _ _ _ _ (ap (λ f. agrees_in o (table_of f)) (sym e) ∙ agrees_at o h))
branch_row o h (inr e) = there (row_of branch_rows o) (first_of_five _ _ _ _ _ (ap (λ f. agrees_in o (table_of f)) (sym e) ∙ agrees_at o h))

pub refused_row : (o : ℕ) → o < 256 → ((n : ℕ) × (form_of o ≡ Some (form.Skipped n))) ⊎ (form_of o ≡ Some form.SkippedLocal) → (k : CauseKind) × (refused_by o ≡ Some k)
unfolding agrees
refused_row o h (inl (n, e)) = there (refused_by o) (first_of_five _ _ _ _ _ (ap (λ f. agrees_in o (table_of f)) (sym e) ∙ agrees_at o h))
refused_row o h (inr e) = there (refused_by o) (first_of_five _ _ _ _ _ (ap (λ f. agrees_in o (table_of f)) (sym e) ∙ agrees_at o h))

have_row : {A : Type 0} (rows : List (ℕ × A)) (o : ℕ) → (AllByRecursion (λ r. r.0 ≡ o → ⊥) rows → ⊥) → (x : A) × (row_of rows o ≡ Some x)
have_row [] o none = absurd (none tt)
have_row (r ∷ rows) o none =
    elim (r.0 == o) as (λ b. (r.0 == o) ≡ b → (x : _) × ((if b then Some r.1 else row_of rows o) ≡ Some x)) [
      | true ↦ λ is. (r.1, refl)
      | false ↦ λ is. have_row rows o (λ all. none ((λ same. absurd (cc (eq-eqb r.0 o same, is))), all))
    ] refl

pub field_row : (o : ℕ) → AccessesFields o → (x : JType → Sym → Action) × (row_of field_rows o ≡ Some x)
field_row o (low, high) = have_row field_rows o (λ (a, (b, (c, (d, _)))). omega arith)

-- ---- floats

float_or_not : (t : JType) → IsFloatless t ⊎ (IsFloatless t → ⊥)
float_or_not F = inr (λ h. h)
float_or_not D = inr (λ h. h)
float_or_not t = inl tt

all_or_not : (ts : List JType) → AllByRecursion IsFloatless ts ⊎ (AllByRecursion IsFloatless ts → ⊥)
all_or_not [] = inl tt
all_or_not (t ∷ ts) = elim (float_or_not t) [
  | inr bad ↦ inr (λ all. bad all.0)
  | inl good ↦ elim (all_or_not ts) [ inl rest ↦ inl (good, rest) | inr bad ↦ inr (λ all. bad all.1) ]
]

result_or_not : (t : Option JType) → HasFloatlessResult t ⊎ (HasFloatlessResult t → ⊥)
result_or_not None = inl tt
result_or_not (Some t) = float_or_not t

pub method_or_not : (d : Descriptor) → IsFloatlessMethod d ⊎ (IsFloatlessMethod d → ⊥)
method_or_not d = elim (all_or_not d.params) [
  | inr bad ↦ inr (λ all. bad all.0)
  | inl good ↦ elim (result_or_not d.result) [ inl rest ↦ inl (good, rest) | inr bad ↦ inr (λ all. bad all.1) ]
]

-- ---- an action or a cause

abbrev Neither : List Entry → ℕ → Use → Type 0
Neither pool o u = ((a : Action) → ActsWith pool o u a → ⊥) × ((k : CauseKind) → IsCauseWith o u k → ⊥)

member_well : (pool : List Entry) (o : ℕ) (m : Member) → Neither pool o (used.Member m) → NamesWell o (used.Member m) → ⊥
member_well pool o m n (inl (accesses, (tag, (t, typed)))) = elim (float_or_not t) [
  | inr float ↦ n.1 kind.Float (inl (accesses, (tag, (t, typed))), inl (t, typed, float))
  | inl floatless ↦
      let row = field_row o accesses in
      n.0 (row.0 t m.sym) (inl (record { kind = tag; type = t; typed = typed; floatless = floatless; access = row.0; row = row.1; is = refl }))
]
member_well pool o m n (inr (inl (is, (kinds, (d, typed))))) = elim (method_or_not d) [
  | inr float ↦ n.1 kind.Float (inr (inl (is, (kinds, (d, typed)))), inr (d, typed, float))
  | inl floatless ↦ n.0 (act.Call d m.sym) (inr (inl (record { invokestatic = is; kind = kinds; desc = d; typed = typed; floatless = floatless; is = refl })))
]
member_well pool o m n (inr (inr w)) =
    let d = w.method.1.0 in
    let typed = w.method.1.1 in
    elim (method_or_not d) [
      | inr float ↦ n.1 kind.Float (inr (inr w), inr (d, typed, float))
      | inl floatless ↦ n.0 (act.CallOn (with_receiver d) (receiver_sym w.form m.sym)) (inr (inr (record { form = w.form; row = w.row; kind = w.method.0; desc = d; typed = typed; floatless = floatless; is = refl })))
    ]

well : (pool : List Entry) (o : ℕ) (u : Use) → ((j : ℕ) → u ≡ used.Constant (constant.Text j) → (text : List ℕ) × (text_under pool j ≡ Some text)) → Neither pool o u → NamesWell o u → ⊥
well pool o (used.Constant (constant.Int i)) texts n w = n.0 (act.Push (num.Int i)) (w, refl)
well pool o (used.Constant (constant.Long i)) texts n w = n.0 (act.Push (num.Long i)) (w, refl)
well pool o (used.Constant (constant.Text j)) texts n w = let text = texts j refl in n.0 (act.Literal text.0) (w, (text.0, text.1, refl))
well pool o (used.Constant constant.Float) texts n w = n.1 kind.Float (w, tt)
well pool o (used.Constant constant.Double) texts n w = n.1 kind.Float (w, tt)
well pool o (used.Constant (constant.Other tag)) texts n w = n.1 kind.Constant (w, tt)
well pool o (used.Member m) texts n w = member_well pool o m n w
well pool o (used.Class name) texts n w = let row = class_row o w in n.0 (row.0 name) (ap (option_map (λ make. make name)) row.1)
well pool o used.None texts n w = w

-- that an instruction with an index neither acts nor has a cause is impossible
with_use : (pool : List Entry) (o : ℕ) (u : Use) → ((j : ℕ) → u ≡ used.Constant (constant.Text j) → (text : List ℕ) × (text_under pool j ≡ Some text)) → Neither pool o u → ⊥
with_use pool o u texts n = n.1 kind.Code (λ w. well pool o u texts n w)

text_of_use : (pool : List Entry) (o i j : ℕ) → HasTexts pool → use_of pool (insn.Pool o i) ≡ used.Constant (constant.Text j) → (text : List ℕ) × (text_under pool j ≡ Some text)
text_of_use pool o i j texts e =
    elim (loads_narrow o || loads_wide o) as (λ b. (if b then use_of_constant (constant_under pool i) else other) ≡ used.Constant (constant.Text j) → (text : List ℕ) × (text_under pool j ≡ Some text)) [
      | true ↦ λ e. texts i j (is_constant (constant_under pool i) j e)
      | false ↦ λ e. absurd (no_other (names_class o) e)
    ] e
  where
    is_constant : (c : Option Constant) (j : ℕ) → use_of_constant c ≡ used.Constant (constant.Text j) → c ≡ Some (constant.Text j)
    is_constant None j e = absurd (cc)
    is_constant (Some c) j e = cc

    other : Use
    other = if names_class o then use_of_class (class_name_under pool i) else use_of_member (member_under pool i)

    no_class : (c : Option (List ℕ)) (j : ℕ) → use_of_class c ≡ used.Constant (constant.Text j) → ⊥
    no_class None j e = cc
    no_class (Some c) j e = cc

    no_constant : (m : Option Member) (j : ℕ) → use_of_member m ≡ used.Constant (constant.Text j) → ⊥
    no_constant None j e = cc
    no_constant (Some m) j e = cc

    no_other : (b : Bool) → (if b then use_of_class (class_name_under pool i) else use_of_member (member_under pool i)) ≡ used.Constant (constant.Text j) → ⊥
    no_other true e = no_class (class_name_under pool i) j e
    no_other false e = no_constant (member_under pool i) j e

-- an instruction of a well-formed pool does something or has a cause
pub acts_or_caused : (pool : List Entry) → HasTexts pool → (i : Insn) → IsFormed i → ((a : Action) → Acts pool i (use_of pool i) a → ⊥) → ((k : CauseKind) → IsCauseOf pool i k → ⊥) → ⊥
acts_or_caused pool texts (insn.Plain o) formed no_action no_cause = let row = plain_row o formed.0 formed.1 in no_action row.0 row.1
acts_or_caused pool texts (insn.Push o n) formed no_action no_cause = no_action _ refl
acts_or_caused pool texts (insn.Local o n) formed no_action no_cause = let row = local_row o formed.0 formed.1 in no_action (row.0 n) (ap (option_map (λ make. make n)) row.1)
acts_or_caused pool texts (insn.Iinc n k) formed no_action no_cause = no_action _ refl
acts_or_caused pool texts (insn.Pool o i) formed no_action no_cause = with_use pool o (use_of pool (insn.Pool o i)) (λ j e. text_of_use pool o i j texts e) (no_action, no_cause)
acts_or_caused pool texts (insn.Branch o k) formed no_action no_cause = let row = branch_row o formed.0 formed.1 in no_action (row.0 k) (ap (option_map (λ make. make k)) row.1)
acts_or_caused pool texts (insn.Table default low targets) formed no_action no_cause = no_action _ refl
acts_or_caused pool texts (insn.Lookup default cases) formed no_action no_cause = no_action _ refl
acts_or_caused pool texts (insn.Refused o) formed no_action no_cause = let row = refused_row o formed.0 formed.1 in no_cause row.0 row.1

-- a code none of whose instructions has a cause has actions
pub list_acts : (pool : List Entry) → HasTexts pool → (placed : List Placed) → AllByRecursion (λ p. IsFormed p.insn) placed → AllByRecursion (HasNoCause pool) placed → ((actions : List Action) → AllZip (Does pool) placed actions → ⊥) → ⊥
list_acts pool texts [] formed clean none = none [] tt
list_acts pool texts (p ∷ placed) formed clean none =
    list_acts pool texts placed formed.1 clean.1 (λ actions all.
    acts_or_caused pool texts p.insn formed.0 (λ a acts. none (a ∷ actions) ((use_of pool p.insn, (refl, acts)), all)) clean.0)
