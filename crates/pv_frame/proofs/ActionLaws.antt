-- An instruction with a use does one thing, and has then no cause; a method has one program.
use Rattle.std.proofs.Common.{◌≡◌, ℕ, ◌≤◌, true, false, refl, List, [], ◌∷◌, Some, ◌∙◌, ap, sym, subst, inl, inr, arith, lit≤, ◌==◌, ◌||◌, if◌then◌else◌, option_map, IsTrue, Bool, None, eqb-true}
use Rattle.pv_frame.proofs.Words.{AllZip, AllByRecursion, Sym, JType, Descriptor, A, IsLetter, IsFieldType, IsMethodType, Form, Virtual, Special, Interface, receiver_sym, with_receiver, field_type_once, method_type_once, Entry, Constant, Member, Insn, Placed}
use Rattle.pv_frame.proofs.Words.{Use, CauseKind, Action, field_rows, form_rows, class_rows, row_of, names_class, IsUse, IsFloatless, IsFloatlessMethod, LoadsConstant, MayName, AccessesField, CallsStatic, CallsOn, UsesMember, ActsWith, Acts, Does, HasFloatType, AccessesFields, IsCauseWith, IsCauseOf}
use Rattle.pv_pool.specs.declared.constant.Constant.TheVariants as constant
use Rattle.pv_insn.specs.declared.insn.Insn.TheVariants as insn
use Rattle.pv_frame.specs.declared.used.Use.TheVariants as used
use Rattle.pv_frame.specs.declared.cause.CauseKind.TheVariants as kind
use Rattle.pv_frame.specs.declared.action.Action.TheVariants as act
use Rattle.pv_frame.proofs.FrameLaws.{some_of, no_some}

-- ---- one action

one_constant : (pool : List Entry) (opcode : ℕ) (c : Constant) (a b : Action) → LoadsConstant pool opcode c a → LoadsConstant pool opcode c b → a ≡ b
one_constant pool opcode (constant.Int n) a b p q = p.1 ∙ sym q.1
one_constant pool opcode (constant.Text i) a b p q =
    let same_text : p.1.0 ≡ q.1.0 = some_of _ _ (sym p.1.1 ∙ q.1.1) in
    p.1.2 ∙ ap act.Literal same_text ∙ sym q.1.2
one_constant pool opcode (constant.Long n) a b p q = p.1 ∙ sym q.1
one_constant pool opcode c a b p q = elim p [ ]

one_field : (opcode : ℕ) (m : Member) (a b : Action) → AccessesField opcode m a → AccessesField opcode m b → a ≡ b
one_field opcode m a b p q =
    let same_access : p.access ≡ q.access = some_of _ _ (sym p.row ∙ q.row) in
    let same_type : p.type ≡ q.type = field_type_once m.sym.desc p.type q.type p.typed q.typed in
    p.is ∙ ap (λ (f : JType → Sym → Action). f p.type m.sym) same_access ∙ ap (λ (t : JType). q.access t m.sym) same_type ∙ sym q.is

one_call : (opcode : ℕ) (m : Member) (a b : Action) → CallsStatic opcode m a → CallsStatic opcode m b → a ≡ b
one_call opcode m a b p q =
    let same_type : p.desc ≡ q.desc = method_type_once m.sym.desc p.desc q.desc p.typed q.typed in
    p.is ∙ ap (λ (d : Descriptor). act.Call d m.sym) same_type ∙ sym q.is

one_call_on : (opcode : ℕ) (m : Member) (a b : Action) → CallsOn opcode m a → CallsOn opcode m b → a ≡ b
one_call_on opcode m a b p q =
    let same_form : p.form ≡ q.form = some_of _ _ (sym p.row ∙ q.row) in
    let same_type : p.desc ≡ q.desc = method_type_once m.sym.desc p.desc q.desc p.typed q.typed in
    p.is ∙ ap (λ (d : Descriptor). act.CallOn (with_receiver d) (receiver_sym p.form m.sym)) same_type ∙ ap (λ (f : Form). act.CallOn (with_receiver q.desc) (receiver_sym f m.sym)) same_form ∙ sym q.is

-- a field and a method are named by different tags, and invokestatic has no row of its form
not_field : (form : Form) (tag : ℕ) → MayName form tag → tag ≡ 9 → ⊥
not_field Virtual tag h nine = omega arith
not_field Special tag (inl h) nine = omega arith
not_field Special tag (inr h) nine = omega arith
not_field Interface tag h nine = omega arith

pub not_static : (opcode : ℕ) (form : Form) → row_of form_rows opcode ≡ Some form → opcode ≡ 184 → ⊥
not_static opcode form row is = no_some form (subst (λ (o : ℕ). row_of form_rows o ≡ Some form) is row)

field_or_call : {P : Type 0} (opcode : ℕ) (m : Member) (a b : Action) → AccessesField opcode m a → CallsStatic opcode m b → P
field_or_call opcode m a b p q = elim q.kind [
  | inl ten ↦ let e : 9 ≡ 10 = sym p.kind ∙ ten in absurd (omega arith)
  | inr eleven ↦ let e : 9 ≡ 11 = sym p.kind ∙ eleven in absurd (omega arith)
]

one_member : (opcode : ℕ) (m : Member) (a b : Action) → UsesMember opcode m a → UsesMember opcode m b → a ≡ b
one_member opcode m a b (inl p) (inl q) = one_field opcode m a b p q
one_member opcode m a b (inl p) (inr (inl q)) = field_or_call opcode m a b p q
one_member opcode m a b (inl p) (inr (inr q)) = absurd (not_field q.form m.kind q.kind p.kind)
one_member opcode m a b (inr (inl p)) (inl q) = field_or_call opcode m b a q p
one_member opcode m a b (inr (inl p)) (inr (inl q)) = one_call opcode m a b p q
one_member opcode m a b (inr (inl p)) (inr (inr q)) = absurd (not_static opcode q.form q.row p.invokestatic)
one_member opcode m a b (inr (inr p)) (inl q) = absurd (not_field p.form m.kind p.kind q.kind)
one_member opcode m a b (inr (inr p)) (inr (inl q)) = absurd (not_static opcode p.form p.row q.invokestatic)
one_member opcode m a b (inr (inr p)) (inr (inr q)) = one_call_on opcode m a b p q

one_with : (pool : List Entry) (opcode : ℕ) (u : Use) (a b : Action) → ActsWith pool opcode u a → ActsWith pool opcode u b → a ≡ b
one_with pool opcode (used.Constant c) a b p q = one_constant pool opcode c a b p q
one_with pool opcode (used.Member m) a b p q = one_member opcode m a b p q
one_with pool opcode (used.Class name) a b p q = some_of _ _ (sym p ∙ q)
one_with pool opcode used.None a b p q = elim p [ ]

-- an instruction with a use does one thing
pub one_action : (pool : List Entry) (i : Insn) (u : Use) (a b : Action) → Acts pool i u a → Acts pool i u b → a ≡ b
one_action pool (insn.Plain opcode) u a b p q = some_of _ _ (sym p ∙ q)
one_action pool (insn.Push opcode n) u a b p q = p ∙ sym q
one_action pool (insn.Local opcode n) u a b p q = some_of _ _ (sym p ∙ q)
one_action pool (insn.Iinc n k) u a b p q = p ∙ sym q
one_action pool (insn.Pool opcode i) u a b p q = one_with pool opcode u a b p q
one_action pool (insn.Branch opcode target) u a b p q = some_of _ _ (sym p ∙ q)
one_action pool (insn.Table default low targets) u a b p q = p ∙ sym q
one_action pool (insn.Lookup default cases) u a b p q = p ∙ sym q
one_action pool (insn.Refused opcode) u a b p q = elim p [ ]

pub one_done : (pool : List Entry) (placed : Placed) (a b : Action) → Does pool placed a → Does pool placed b → a ≡ b
one_done pool placed a b (u, p) (v, q) =
    let same_use : v ≡ u = q.0 ∙ sym p.0 in
    one_action pool placed.insn u a b p.1 (subst (λ (x : Use). Acts pool placed.insn x b) same_use q.1)

-- a code of one list of instructions has one list of actions
pub one_list : (pool : List Entry) (placed : List Placed) (a b : List Action) → AllZip (Does pool) placed a → AllZip (Does pool) placed b → a ≡ b
one_list pool [] [] [] p q = refl
one_list pool [] (x ∷ a) b p q = elim p [ ]
one_list pool [] [] (y ∷ b) p q = elim q [ ]
one_list pool (i ∷ placed) [] b p q = elim p [ ]
one_list pool (i ∷ placed) (x ∷ a) [] p q = elim q [ ]
one_list pool (i ∷ placed) (x ∷ a) (y ∷ b) p q =
    let first = one_done pool i x y p.0 q.0 in
    let others = one_list pool placed a b p.1 q.1 in
    cc (first, others)

-- ---- no cause

-- no text is both a field descriptor and a method descriptor
no_letter : (b : ℕ) (t : JType) → b ≡ 40 → IsLetter b t → ⊥
no_letter b A e h = h
no_letter b t e h = omega arith

first_of_list : (a b : ℕ) (x y : List ℕ) → a ∷ x ≡ b ∷ y → a ≡ b
first_of_list a b x y e = cc

apart_from : (text : List ℕ) (t : JType) (rest : List ℕ) → IsFieldType text t → text ≡ 40 ∷ rest → ⊥
apart_from [] t rest f e = elim f [ ]
apart_from (b ∷ text) t rest (inl h) e = no_letter b t (first_of_list b 40 text rest e) h.0
apart_from (b ∷ text) t rest (inr (inl h)) e = let is = first_of_list b 40 text rest e in let l = h.0 in omega arith
apart_from (b ∷ text) t rest (inr (inr h)) e = let is = first_of_list b 40 text rest e in let l = h.0 in omega arith

pub apart : (text : List ℕ) (t : JType) (d : Descriptor) → IsFieldType text t → IsMethodType text d → ⊥
apart text t d f m = apart_from text t _ f m.spelled

-- the rows of field accesses are those from getstatic to putfield
accesses : (opcode : ℕ) (access : JType → Sym → Action) → row_of field_rows opcode ≡ Some access → AccessesFields opcode
accesses opcode access e = among field_rows ((lit≤ tt, lit≤ tt), ((lit≤ tt, lit≤ tt), ((lit≤ tt, lit≤ tt), ((lit≤ tt, lit≤ tt), tt)))) opcode access e
  where
    among : (rows : List (ℕ × (JType → Sym → Action))) → AllByRecursion (λ r. (178 ≤ r.0) × (r.0 ≤ 181)) rows → (opcode : ℕ) (access : JType → Sym → Action) → row_of rows opcode ≡ Some access → AccessesFields opcode
    among [] all opcode access e = no_some access e
    among (r ∷ rows) all opcode access e =
        elim (r.0 == opcode) as (λ b. (r.0 == opcode) ≡ b → (if b then Some r.1 else row_of rows opcode) ≡ Some access → AccessesFields opcode) [
          | true ↦ λ is e. subst AccessesFields (eqb-true r.0 opcode is) all.0
          | false ↦ λ is e. among rows all.1 opcode access e
        ] refl e

no_float_field : (opcode : ℕ) (m : Member) (a : Action) → AccessesField opcode m a → HasFloatType m.sym.desc → ⊥
no_float_field opcode m a p (inl (t, typed, float)) = float (subst IsFloatless (field_type_once m.sym.desc p.type t p.typed typed) p.floatless)
no_float_field opcode m a p (inr (d, typed, float)) = apart m.sym.desc p.type d p.typed typed

pub no_float_method : (text : List ℕ) (d : Descriptor) → IsMethodType text d → IsFloatlessMethod d → HasFloatType text → ⊥
no_float_method text d is floatless (inl (t, typed, float)) = apart text t d typed is
no_float_method text d is floatless (inr (e, typed, float)) = float (subst IsFloatlessMethod (method_type_once text d e is typed) floatless)

clean_member : (opcode : ℕ) (m : Member) (a : Action) (k : CauseKind) → UsesMember opcode m a → IsCauseWith opcode (used.Member m) k → ⊥
clean_member opcode m a kind.Float (inl p) h = no_float_field opcode m a p h.1
clean_member opcode m a kind.Float (inr (inl p)) h = no_float_method m.sym.desc p.desc p.typed p.floatless h.1
clean_member opcode m a kind.Float (inr (inr p)) h = no_float_method m.sym.desc p.desc p.typed p.floatless h.1
clean_member opcode m a kind.Code (inl p) h = h (inl (accesses opcode p.access p.row, (p.kind, (p.type, p.typed))))
clean_member opcode m a kind.Code (inr (inl p)) h = h (inr (inl (p.invokestatic, (p.kind, (p.desc, p.typed)))))
clean_member opcode m a kind.Code (inr (inr p)) h = h (inr (inr (record { form = p.form; row = p.row; method = (p.kind, (p.desc, p.typed)) })))
clean_member opcode m a kind.Constant p h = h.1
clean_member opcode m a k p h = elim h [ ]

clean_constant : (pool : List Entry) (opcode : ℕ) (c : Constant) (a : Action) (k : CauseKind) → LoadsConstant pool opcode c a → IsCauseWith opcode (used.Constant c) k → ⊥
clean_constant pool opcode constant.Float a k p h = elim p [ ]
clean_constant pool opcode constant.Double a k p h = elim p [ ]
clean_constant pool opcode (constant.Other tag) a k p h = elim p [ ]
clean_constant pool opcode c a kind.Code p h = h p.0
clean_constant pool opcode c a kind.Float p h = h.1
clean_constant pool opcode c a kind.Constant p h = h.1
clean_constant pool opcode c a k p h = elim h [ ]

-- checkcast and instanceof have a row, and no other opcode
pub class_row : (opcode : ℕ) → IsTrue (names_class opcode) → (make : List ℕ → Action) × (row_of class_rows opcode ≡ Some make)
class_row opcode is =
    elim (opcode == 192) as (λ b. (opcode == 192) ≡ b → IsTrue (b || (opcode == 193)) → (make : List ℕ → Action) × (row_of class_rows opcode ≡ Some make)) [
      | true ↦ λ e _. (act.Cast, subst (λ (o : ℕ). row_of class_rows o ≡ Some act.Cast) (sym (eqb-true opcode 192 e)) refl)
      | false ↦ λ _ e. (act.InstanceOf, subst (λ (o : ℕ). row_of class_rows o ≡ Some act.InstanceOf) (sym (eqb-true opcode 193 e)) refl)
    ] refl is

class_of_row : (opcode : ℕ) (name : List ℕ) (a : Action) → option_map (λ make. make name) (row_of class_rows opcode) ≡ Some a → IsTrue (names_class opcode)
class_of_row opcode name a e =
    elim (192 == opcode) as (λ b. (192 == opcode) ≡ b → IsTrue (names_class opcode)) [
      | true ↦ λ is. subst (λ (o : ℕ). IsTrue (names_class o)) (eqb-true 192 opcode is) refl
      | false ↦ λ first. elim (193 == opcode) as (λ b. (193 == opcode) ≡ b → IsTrue (names_class opcode)) [
        | true ↦ λ is. subst (λ (o : ℕ). IsTrue (names_class o)) (eqb-true 193 opcode is) refl
        | false ↦ λ second. no_some a (sym (ap (λ (b : Bool). option_map (λ make. make name) (if b then Some act.Cast else if 193 == opcode then Some act.InstanceOf else None)) first ∙ ap (λ (b : Bool). option_map (λ make. make name) (if b then Some act.InstanceOf else None)) second) ∙ e)
      ] refl
    ] refl

clean_class : (opcode : ℕ) (name : List ℕ) (a : Action) (k : CauseKind) → option_map (λ make. make name) (row_of class_rows opcode) ≡ Some a → IsCauseWith opcode (used.Class name) k → ⊥
clean_class opcode name a kind.Code p h = h (class_of_row opcode name a p)
clean_class opcode name a kind.Float p h = h.1
clean_class opcode name a kind.Constant p h = h.1
clean_class opcode name a k p h = elim h [ ]

clean_with : (pool : List Entry) (opcode : ℕ) (u : Use) (a : Action) (k : CauseKind) → ActsWith pool opcode u a → IsCauseWith opcode u k → ⊥
clean_with pool opcode (used.Constant c) a k p h = clean_constant pool opcode c a k p h
clean_with pool opcode (used.Member m) a k p h = clean_member opcode m a k p h
clean_with pool opcode (used.Class name) a k p h = clean_class opcode name a k p h
clean_with pool opcode used.None a k p h = elim p [ ]

-- an instruction that does something has no cause
pub clean : (pool : List Entry) (i : Insn) (a : Action) (k : CauseKind) → (u : Use) → IsUse pool i u → Acts pool i u a → IsCauseOf pool i k → ⊥
clean pool (insn.Pool opcode i) a k u is p h = clean_with pool opcode u a k p (subst (λ (x : Use). IsCauseWith opcode x k) (sym is) h)
clean pool (insn.Refused opcode) a k u is p h = elim p [ ]
clean pool i a k u is p h = h
