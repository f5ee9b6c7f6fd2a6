-- Laws of actions, as the functions that find them need them.
use Rattle.std.proofs.Common.{◌≡◌, ℕ, ◌+◌, ◌≤◌, ◌<◌, ℤ, pos, ◌+ℤ◌, List, [], ◌∷◌, ◌++◌, length, get_or, drop, refl, sym, ap, ◌∙◌, subst, inl, inr, arith, append_assoc, ◌^◌, ◌≤ℤ◌, w32, w64, FitsSigned, to_z, of_z, append-nil, ◌⊎◌, ◌==◌, option_map, IsSome, if◌then◌else◌, true, false, Option, Some, None, rules}
use Rattle.pv_frame.proofs.Words.{ints, to_z-of_z, to_z_pos, drop_more, drop_all, option_or, Sym, JType, Descriptor, IsFieldType, IsMethodType, Form, Member, Case, Action, cases_from, row_of, field_rows, form_rows, MayName, IsFloatless, IsFloatlessMethod, UsesMember, AccessesFields, NamesWell, IsCauseWith}
use Rattle.pv_frame.specs.declared.cause.CauseKind.TheVariants as kind
use Rattle.pv_frame.specs.declared.used.Use.TheVariants as used
use Rattle.pv_frame.proofs.ActionLaws.{apart, not_static}
use Rattle.pv_frame.proofs.Complete.{field_row}
use Rattle.pv_frame.proofs.FrameLaws.{some_of, no_some}

-- ---- the cases of a tableswitch

-- the cases so far, and those of the targets that are left, are all
pub record CasesSoFar (low : ℤ) (targets : List ℕ) (i : ℕ) (front : List Case) : Type 0 where
  pub total : front ++ cases_from (low +ℤ pos i) (drop i targets) ≡ cases_from low targets

pub cases_start : (low : ℤ) (targets : List ℕ) → CasesSoFar low targets 0 []
cases_start low targets =
    let e : low +ℤ pos 0 ≡ low = omega (arith, ints) in
    record { total = ap (λ (n : ℤ). cases_from n targets) e }

pub cases_on : (low : ℤ) (targets : List ℕ) (i d : ℕ) (key : ℤ) (front now : List Case) → now ≡ front ++ record { key = key; target = get_or targets i d } ∷ [] → i < length targets → key ≡ low +ℤ pos i → CasesSoFar low targets i front → CasesSoFar low targets (i + 1) now
cases_on low targets i d key front now pushed lt is s =
    let more : low +ℤ pos (i + 1) ≡ (low +ℤ pos i) +ℤ pos 1 = omega (arith, ints) in
    let first : Case = record { key = low +ℤ pos i; target = get_or targets i d } in
    let others : List Case = cases_from ((low +ℤ pos i) +ℤ pos 1) (drop (i + 1) targets) in
    let step : cases_from (low +ℤ pos i) (drop i targets) ≡ first ∷ others = ap (cases_from (low +ℤ pos i)) (drop_more targets i d lt) in
    let last : now ≡ front ++ first ∷ [] = pushed ∙ ap (λ (k : ℤ). front ++ record { key = k; target = get_or targets i d } ∷ []) is in
    record {
      total =
          ap (λ (l : List Case). l ++ cases_from (low +ℤ pos (i + 1)) (drop (i + 1) targets)) last ∙ ap (λ (n : ℤ). (front ++ first ∷ []) ++ cases_from n (drop (i + 1) targets)) more ∙ append_assoc front (first ∷ []) others
          ∙ ap (λ (l : List Case). front ++ l) (sym step) ∙ s.total;
    }

pub cases_done : (low : ℤ) (targets : List ℕ) (i : ℕ) (front : List Case) → length targets ≤ i → CasesSoFar low targets i front → front ≡ cases_from low targets
cases_done low targets i front le s =
    let none : cases_from (low +ℤ pos i) (drop i targets) ≡ [] = ap (cases_from (low +ℤ pos i)) (drop_all i targets le) in
    sym (append-nil front) ∙ ap (λ (l : List Case). front ++ l) (sym none) ∙ s.total

-- the key of a case, as it is computed
pub key_is : (low from : ℤ) (i n : ℕ) → FitsSigned w32 low → (low +ℤ pos n) ≤ℤ pos (2 ^ 31) → i < n → from ≡ to_z w32 (of_z w32 low) → to_z w32 (of_z w32 (to_z w64 (of_z w64 (to_z w64 (of_z w64 from) +ℤ to_z w64 i)))) ≡ to_z w32 (of_z w32 low) +ℤ pos i
key_is low from i n fits few lt from_is =
    let low_is : to_z w32 (of_z w32 low) ≡ low = to_z-of_z w32 low fits in
    let same : from ≡ low = from_is ∙ low_is in
    let wide : FitsSigned w64 from = omega (arith, ints) in
    let from_same : to_z w64 (of_z w64 from) ≡ from = to_z-of_z w64 from wide in
    let short : i < 2 ^ 63 = omega (arith, ints) in
    let i_is : to_z w64 i ≡ pos i = to_z_pos w64 i short in
    let sum_is : to_z w64 (of_z w64 from) +ℤ to_z w64 i ≡ low +ℤ pos i = cc in
    let sum_fits : FitsSigned w32 (low +ℤ pos i) = omega (arith, ints) in
    let sum_wide : FitsSigned w64 (low +ℤ pos i) = omega (arith, ints) in
    let inner : to_z w64 (of_z w64 (low +ℤ pos i)) ≡ low +ℤ pos i = to_z-of_z w64 (low +ℤ pos i) sum_wide in
    let outer : to_z w32 (of_z w32 (low +ℤ pos i)) ≡ low +ℤ pos i = to_z-of_z w32 (low +ℤ pos i) sum_fits in
    cc

-- ---- rows

row_of-append : {A : Type 0} (rows others : List (ℕ × A)) (o : ℕ) → row_of (rows ++ others) o ≡ option_or (row_of rows o) (row_of others o)
row_of-append [] others o = refl
row_of-append (r ∷ rows) others o =
    elim (r.0 == o) as (λ b. (if b then Some r.1 else row_of (rows ++ others) o) ≡ option_or (if b then Some r.1 else row_of rows o) (row_of others o)) [ true ↦ refl | false ↦ row_of-append rows others o ]

-- a row of some more tables
pub more_rows : {A : Type 0} (rows others : List (ℕ × A)) (o : ℕ) (x y z : Option A) → x ≡ row_of rows o → y ≡ row_of others o → z ≡ option_or x y → z ≡ row_of (rows ++ others) o
more_rows rows others o x y z p q r = r ∙ ap (λ u. option_or u y) p ∙ ap (λ u. option_or (row_of rows o) u) q ∙ sym (row_of-append rows others o)

pub is_some_at : {A : Type 0} (o : Option A) (x : A) → o ≡ Some x → IsSome o
is_some_at (Some y) x e = search rules
is_some_at None x e = absurd (cc)

-- ---- members

-- an instruction that names a field is an access of fields, or it names badly
pub bad_field : (opcode : ℕ) (m : Member) (t : JType) → IsFieldType m.sym.desc t → (AccessesFields opcode × (m.kind ≡ 9) → ⊥) → NamesWell opcode (used.Member m) → ⊥
bad_field opcode m t typed other (inl (a, (tag, b))) = other (a, tag)
bad_field opcode m t typed other (inr (inl (a, (tag, (d, is))))) = apart m.sym.desc t d typed is
bad_field opcode m t typed other (inr (inr n)) = apart m.sym.desc t n.method.1.0 typed n.method.1.1

-- one that names a method, and is no call on a receiver, is invokestatic
pub bad_call : (opcode : ℕ) (m : Member) (d : Descriptor) → IsMethodType m.sym.desc d → row_of form_rows opcode ≡ None → ((opcode ≡ 184) × ((m.kind ≡ 10) ⊎ (m.kind ≡ 11)) → ⊥) → NamesWell opcode (used.Member m) → ⊥
bad_call opcode m d typed none other (inl (a, (tag, (t, is)))) = apart m.sym.desc t d is typed
bad_call opcode m d typed none other (inr (inl (a, (tag, b)))) = other (a, tag)
bad_call opcode m d typed none other (inr (inr n)) = no_some n.form (sym none ∙ n.row)

-- a call on a receiver that may not name the member
pub bad_call_on : (opcode : ℕ) (form : Form) (m : Member) (d : Descriptor) → row_of form_rows opcode ≡ Some form → IsMethodType m.sym.desc d → (MayName form m.kind → ⊥) → NamesWell opcode (used.Member m) → ⊥
bad_call_on opcode form m d row typed other (inl (a, (tag, (t, is)))) = apart m.sym.desc t d is typed
bad_call_on opcode form m d row typed other (inr (inl (a, (tag, b)))) = not_static opcode form row a
bad_call_on opcode form m d row typed other (inr (inr n)) = other (subst (λ (f : Form). MayName f m.kind) (some_of _ _ (sym n.row ∙ row)) n.method.0)

pub bad_text : (opcode : ℕ) (m : Member) → ((t : JType) → IsFieldType m.sym.desc t → ⊥) → ((d : Descriptor) → IsMethodType m.sym.desc d → ⊥) → NamesWell opcode (used.Member m) → ⊥
bad_text opcode m no_field no_method (inl (a, (tag, (t, is)))) = no_field t is
bad_text opcode m no_field no_method (inr (inl (a, (tag, (d, is))))) = no_method d is
bad_text opcode m no_field no_method (inr (inr n)) = no_method n.method.1.0 n.method.1.1

-- ---- members with floats

pub float_field : (opcode : ℕ) (m : Member) (t : JType) → IsFieldType m.sym.desc t → AccessesFields opcode × (m.kind ≡ 9) → (IsFloatless t → ⊥) → IsCauseWith opcode (used.Member m) kind.Float
float_field opcode m t typed (accesses, tag) float = (inl (accesses, (tag, (t, typed))), inl (t, typed, float))

pub float_call : (opcode : ℕ) (m : Member) (d : Descriptor) → IsMethodType m.sym.desc d → (opcode ≡ 184) × ((m.kind ≡ 10) ⊎ (m.kind ≡ 11)) → (IsFloatlessMethod d → ⊥) → IsCauseWith opcode (used.Member m) kind.Float
float_call opcode m d typed (static, tag) float = (inr (inl (static, (tag, (d, typed)))), inr (d, typed, float))

pub float_call_on : (opcode : ℕ) (form : Form) (m : Member) (d : Descriptor) → row_of form_rows opcode ≡ Some form → IsMethodType m.sym.desc d → MayName form m.kind → (IsFloatlessMethod d → ⊥) → IsCauseWith opcode (used.Member m) kind.Float
float_call_on opcode form m d row typed may float = (inr (inr (record { form = form; row = row; method = (may, (d, typed)) })), inr (d, typed, float))

-- ---- an access of a field

-- what the table gives for it
abbrev pub IsFieldRow : ℕ → JType → Sym → Option Action → Type 0
IsFieldRow opcode t s found = found ≡ option_map (λ (access : JType → Sym → Action). access t s) (row_of field_rows opcode)

field_found : (opcode : ℕ) (t : JType) (s : Sym) (found : Option Action) → IsFieldRow opcode t s found → (x : JType → Sym → Action) → row_of field_rows opcode ≡ Some x → found ≡ Some (x t s)
field_found opcode t s found is x row = is ∙ ap (option_map (λ (access : JType → Sym → Action). access t s)) row

pub has_field_row : (opcode : ℕ) (t : JType) (s : Sym) (found : Option Action) → AccessesFields opcode → IsFieldRow opcode t s found → IsSome found
has_field_row opcode t s found accesses is = let row = field_row opcode accesses in is_some_at found (row.0 t s) (field_found opcode t s found is row.0 row.1)

pub field_answer : (opcode : ℕ) (m : Member) (t : JType) → IsFieldType m.sym.desc t → IsFloatless t → AccessesFields opcode × (m.kind ≡ 9) → (s : Sym) → s ≡ m.sym → (found : Option Action) → IsFieldRow opcode t s found → (a : Action) → found ≡ Some a → UsesMember opcode m a
field_answer opcode m t typed floatless (accesses, tag) s same found is a some =
    let row = field_row opcode accesses in
    let made : a ≡ row.0 t s = some_of _ _ (sym some ∙ field_found opcode t s found is row.0 row.1) in
    inl (record { kind = tag; type = t; typed = typed; floatless = floatless; access = row.0; row = row.1; is = made ∙ ap (row.0 t) same })
