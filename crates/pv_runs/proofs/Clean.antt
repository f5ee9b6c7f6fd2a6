-- The actions of a program are clean.
use Rattle.std.proofs.Common.{◌≡◌, ℕ, zero, suc, ◌+◌, ◌-◌, ◌≤◌, pos, negsuc, Bool, arith, true, false, List, [], ◌∷◌, Option, Some, None, refl, sym, subst, inl, inr, lit<, lit≤}
use Rattle.pv_runs.proofs.Words.{cases_lt, ltb-true, ◌==◌, ◌||◌, FitsSigned, option_map, if◌then◌else◌, slice_get, AllZip, AllByRecursion, Sym, JType, ◌>>=◌, constant_of, constant_under, class_name_under, member_under, Action, Program, IsAt, Does, IsProgramOf, ClassFile, Method, some_of, no_some, IsClean}
use Rattle.std.specs.Int.{w8, w16, w32, cast_signed}
use Rattle.std.proofs.Math.Facts.{sfits_to_z}
use Rattle.std.proofs.Math.Dec.{ltb}
use mir.Val.{sel}
use Rattle.pv_pool.specs.declared.entry.Entry.{Entry}
use Rattle.pv_pool.specs.declared.entry.Entry.TheVariants as entry
use Rattle.pv_pool.specs.Pools.{entry_under}
use Rattle.pv_pool.specs.declared.constant.Constant.{Constant}
use Rattle.pv_pool.specs.declared.constant.Constant.TheVariants as constant
use Rattle.pv_pool.specs.declared.constant.Member.{Member}
use Rattle.pv_insn.specs.declared.insn.Insn.{Insn}
use Rattle.pv_insn.specs.declared.insn.Insn.TheVariants as insn
use Rattle.pv_insn.specs.declared.insn.Placed.{Placed}
use Rattle.pv_insn.specs.declared.form.Form.{Form}
use Rattle.pv_insn.specs.declared.form.Form.TheVariants as form
use Rattle.pv_insn.specs.Forms.{form_of}
use Rattle.pv_insn.specs.Pieces.{instruction, Widened, AfterOpcode}
use Rattle.pv_insn.specs.Codes.{AreFrom, Resolves, IsPlaced}
use Rattle.pv_frame.specs.declared.used.Use.{Use}
use Rattle.pv_frame.specs.declared.used.Use.TheVariants as used
use Rattle.pv_frame.specs.Actions.{plain_rows, local_rows, branch_rows, field_rows, class_rows, row_of, loads_narrow, loads_wide, names_class, use_of_constant, use_of_class, use_of_member, use_of, IsUse, IsFloatless, LoadsConstant, UsesMember, ActsWith, Acts}
use Rattle.pv_value.specs.Spelled.{field_type}
use Rattle.pv_value.proofs.Cited.{field_spelled, receivers_apart}
use Rattle.pv_denote.proofs.Cited.{wider}

-- a number read in two's complement, also one that has more than 32 bits
signed_range : (n : ℕ) → FitsSigned w32 (cast_signed w32 n)
signed_range n = elim (cases_lt n 4294967296) [ inl lt ↦ sfits_to_z {w = w32} {n = n} (record { fits = lt }) | inr ge ↦ above (ltb n 2147483648) refl ge ]
  where
    above : (b : Bool) → ltb n 2147483648 ≡ b → 4294967296 ≤ n → FitsSigned w32 (sel b (pos n) (negsuc (4294967296 - suc n)))
    above true e ge = let lt = ltb-true n 2147483648 e in absurd (omega arith)
    above false e ge = record { sfits = omega arith }

row_has : {A : Type 0} (P : A → Type 0) (rows : List (ℕ × A)) → AllByRecursion (λ r. P r.1) rows → (opcode : ℕ) (x : A) → row_of rows opcode ≡ Some x → P x
row_has P [] all opcode x e = no_some x e
row_has P (r ∷ rows) all opcode x e =
    elim (r.0 == opcode) as (λ b. (if b then Some r.1 else row_of rows opcode) ≡ Some x → P x) [
      | true ↦ λ e. subst P (some_of _ _ e) all.0
      | false ↦ λ e. row_has P rows all.1 opcode x e
    ] e

made_has : {A : Type 0} (P : Action → Type 0) (make : A → Action) (rows : Option A) (a : Action) → ((x : A) → rows ≡ Some x → P (make x)) → option_map make rows ≡ Some a → P a
made_has P make None a h e = no_some a e
made_has P make (Some x) a h e = subst P (some_of _ _ e) (h x refl)

plain_clean : AllByRecursion (λ r. IsClean r.1) plain_rows
plain_clean = (tt, (refl, (record { sfits = lit< tt }, (record { sfits = lit< tt }, (record { sfits = lit< tt }, (record { sfits = lit< tt }, (record { sfits = lit< tt }, (record { sfits = lit< tt }, (record { sfits = lit< tt }, (tt, (tt, (tt, (tt, (tt, (tt, (tt, (tt, (tt, (tt, (tt, (tt, (tt, (tt, (tt, (tt, (tt, (tt, (tt, (tt, (tt, (tt, (tt, (tt, (tt, (tt, (tt, (tt, (tt, (tt, (tt, (tt, (tt, (tt, (tt, (tt, (tt, (tt, (tt, (tt, (tt, (tt, (tt, (tt, (tt, (tt, (tt, (tt, (tt, (tt, (tt, (tt, (tt, (refl, (refl, (refl, (refl, (tt, (tt, (tt, (tt, (tt, (tt, (tt, (tt, (tt, (tt, (tt, (tt, (tt, (tt, (tt, (tt, (tt, (tt, (tt, (tt, (tt, (tt, (tt, (tt, (tt, (tt, tt))))))))))))))))))))))))))))))))))))))))))))))))))))))))))))))))))))))))))))))))))))))))))))

local_clean : AllByRecursion (λ r. (n : ℕ) → IsClean (r.1 n)) local_rows
local_clean = (λ _. tt, (λ _. tt, (λ _. tt, (λ _. tt, (λ _. tt, (λ _. tt, tt))))))

branch_clean : AllByRecursion (λ r. (n : ℕ) → IsClean (r.1 n)) branch_rows
branch_clean = (λ _. tt, (λ _. tt, (λ _. tt, (λ _. tt, (λ _. tt, (λ _. tt, (λ _. tt, (λ _. tt, (λ _. tt, (λ _. tt, (λ _. tt, (λ _. tt, (λ _. tt, (λ _. tt, (λ _. tt, (λ _. tt, (λ _. tt, (λ _. tt, tt))))))))))))))))))

field_clean : AllByRecursion (λ r. (t : JType) (f : Sym) → IsFloatless t → field_type f.desc ≡ Some t → IsClean (r.1 t f)) field_rows
field_clean = (λ _ _ h k. (h, k), (λ _ _ h k. (h, k), (λ _ _ h k. (h, k), (λ _ _ h k. (h, k), tt))))

class_clean : AllByRecursion (λ r. (name : List ℕ) → IsClean (r.1 name)) class_rows
class_clean = (λ _. tt, (λ _. tt, tt))

-- ints of the constant pool are in range, and so are those that stand in the code
abbrev FitsConstant : Constant → Type 0
FitsConstant (constant.Int n) = FitsSigned w32 n
FitsConstant c = Unit {0}

abbrev FitsUse : Use → Type 0
FitsUse (used.Constant c) = FitsConstant c
FitsUse u = Unit {0}

entry_fits : (e : Entry) (c : Constant) → constant_of e ≡ Some c → FitsConstant c
entry_fits (entry.Integer bits) c is = subst FitsConstant (some_of _ _ is) (signed_range bits)
entry_fits (entry.Float bits) c is = subst FitsConstant (some_of _ _ is) tt
entry_fits (entry.Long bits) c is = subst FitsConstant (some_of _ _ is) tt
entry_fits (entry.Double bits) c is = subst FitsConstant (some_of _ _ is) tt
entry_fits (entry.Text text) c is = subst FitsConstant (some_of _ _ is) tt
entry_fits (entry.Class name) c is = subst FitsConstant (some_of _ _ is) tt
entry_fits (entry.MethodHandle k i) c is = subst FitsConstant (some_of _ _ is) tt
entry_fits (entry.MethodType i) c is = subst FitsConstant (some_of _ _ is) tt
entry_fits (entry.Dynamic i k) c is = subst FitsConstant (some_of _ _ is) tt
entry_fits e c is = no_some c is

constant_fits : (o : Option Entry) → FitsUse (use_of_constant (o >>= constant_of))
constant_fits None = tt
constant_fits (Some e) = go (constant_of e) refl
  where
    go : (o : Option Constant) → constant_of e ≡ o → FitsUse (use_of_constant o)
    go None is = tt
    go (Some c) is = entry_fits e c is

member_fits : (o : Option Member) → FitsUse (use_of_member o)
member_fits None = tt
member_fits (Some m) = tt

class_fits : (o : Option (List ℕ)) → FitsUse (use_of_class o)
class_fits None = tt
class_fits (Some name) = tt

use_fits : (pool : List Entry) (i : Insn) → FitsUse (use_of pool i)
use_fits pool (insn.Pool opcode k) =
    elim (loads_narrow opcode || loads_wide opcode) as (λ b. FitsUse (if b then use_of_constant (constant_under pool k) else if names_class opcode then use_of_class (class_name_under pool k) else use_of_member (member_under pool k))) [
      | true ↦ constant_fits (entry_under pool k)
      | false ↦ elim (names_class opcode) as (λ b. FitsUse (if b then use_of_class (class_name_under pool k) else use_of_member (member_under pool k))) [
        | true ↦ class_fits (class_name_under pool k)
        | false ↦ member_fits (member_under pool k)
      ]
    ]
use_fits pool i = tt

abbrev FitsInsn : Insn → Type 0
FitsInsn (insn.Push opcode n) = FitsSigned w32 n
FitsInsn i = Unit {0}

made_of : (r s : _) → instruction r ≡ instruction s → r ≡ s
made_of r s e = cc

resolves_as : (raws : _) (from : ℕ) (i : Insn) (r s : _) → instruction r ≡ instruction s → Resolves raws from r i → Resolves raws from s i
resolves_as raws from i r s e l = subst (λ r. Resolves raws from r i) (made_of r s e) l

-- an instruction that stands so after its opcode
widened_fits : (raws : _) (from : ℕ) (i : Insn) (o : ℕ) (f : Option Form) (r : _) (rest : List ℕ) → Widened o f (instruction r) rest → Resolves raws from r i → FitsInsn i
widened_fits raws from i o (Some form.Local) r rest b l = subst FitsInsn (sym (resolves_as raws from i r _ b.is l)) tt
widened_fits raws from i o (Some form.Increment) r rest b l = subst FitsInsn (sym (resolves_as raws from i r _ b.is l)) tt
widened_fits raws from i o (Some form.SkippedLocal) r rest b l = subst FitsInsn (sym (resolves_as raws from i r _ b.1 l)) tt
widened_fits raws from i o f r rest b l = absurd (cc (b.0))

opcode_fits : (raws : _) (from at : ℕ) (i : Insn) (o : ℕ) (f : Option Form) (r : _) (rest : List ℕ) → AfterOpcode at o f (instruction r) rest → Resolves raws from r i → FitsInsn i
opcode_fits raws from at i o None r rest b l = absurd (cc (b.0))
opcode_fits raws from at i o (Some form.Plain) r rest b l = subst FitsInsn (sym (resolves_as raws from i r _ b.0 l)) tt
opcode_fits raws from at i o (Some form.Byte) r rest b l = subst FitsInsn (sym (resolves_as raws from i r _ b.is l)) (wider w8 w32 b.number (lit≤ tt) b.spelled.0)
opcode_fits raws from at i o (Some form.Short) r rest b l = subst FitsInsn (sym (resolves_as raws from i r _ b.is l)) (wider w16 w32 b.number (lit≤ tt) b.spelled.0)
opcode_fits raws from at i o (Some form.Local) r rest b l = subst FitsInsn (sym (resolves_as raws from i r _ b.is l)) tt
opcode_fits raws from at i o (Some form.Increment) r rest b l = subst FitsInsn (sym (resolves_as raws from i r _ b.is l)) tt
opcode_fits raws from at i o (Some form.Index1) r rest b l = subst FitsInsn (sym (resolves_as raws from i r _ b.is l)) tt
opcode_fits raws from at i o (Some form.Index2) r rest b l = subst FitsInsn (sym (resolves_as raws from i r _ b.is l)) tt
opcode_fits raws from at i o (Some form.IndexAndShort) r rest b l = subst FitsInsn (sym (resolves_as raws from i r _ b.is l)) tt
opcode_fits raws from at i o (Some form.Branch2) r rest b l = subst FitsInsn (sym (resolves_as raws from i r _ b.is l).2) tt
opcode_fits raws from at i o (Some form.Branch4) r rest b l = subst FitsInsn (sym (resolves_as raws from i r _ b.is l).2) tt
opcode_fits raws from at i o (Some form.Table) r rest (inl b) l = subst FitsInsn (sym (resolves_as raws from i r _ b.is l).is) tt
opcode_fits raws from at i o (Some form.Table) r rest (inr b) l = let no = b.is in absurd (cc)
opcode_fits raws from at i o (Some form.Lookup) r rest (inl b) l = subst FitsInsn (sym (resolves_as raws from i r _ b.is l).is) tt
opcode_fits raws from at i o (Some form.Lookup) r rest (inr b) l = let no = b.is in absurd (cc)
opcode_fits raws from at i o (Some (form.Skipped n)) r rest b l = subst FitsInsn (sym (resolves_as raws from i r _ b.1 l)) tt
opcode_fits raws from at i o (Some form.SkippedLocal) r rest b l = subst FitsInsn (sym (resolves_as raws from i r _ b.1 l)) tt
opcode_fits raws from at i o (Some form.Wide) r rest b l = widened_fits raws from i b.op (form_of b.op) r b.rest b.operands l

code_fits : (raws here : List _) (placed : List Placed) (at : ℕ) (bytes : List ℕ) → AreFrom at here bytes → AllZip (IsPlaced raws) here placed → AllByRecursion (λ p. FitsInsn p.insn) placed
code_fits raws [] [] at bytes f z = tt
code_fits raws [] (p ∷ placed) at bytes f z = elim z [ ]
code_fits raws (r ∷ here) [] at bytes f z = elim z [ ]
code_fits raws (r ∷ here) (p ∷ placed) at bytes (text, rest, parts, stands, more) z =
    let s = stands.spells in
    (opcode_fits raws r.at (at + 1) p.insn s.op (form_of s.op) r.raw s.rest s.operands z.0.1, code_fits raws here placed _ rest more z.1)

constant_clean : (pool : List Entry) (opcode : ℕ) (c : Constant) (a : Action) → FitsConstant c → LoadsConstant pool opcode c a → IsClean a
constant_clean pool opcode (constant.Int n) a f h = subst IsClean (sym h.1) f
constant_clean pool opcode (constant.Text i) a f h = subst IsClean (sym h.1.2) tt
constant_clean pool opcode (constant.Long n) a f h = subst IsClean (sym h.1) tt
constant_clean pool opcode c a f h = elim h [ ]

member_clean : (opcode : ℕ) (m : Member) (a : Action) → UsesMember opcode m a → IsClean a
member_clean opcode m a (inl h) = subst IsClean (sym h.is) (row_has (λ access. (t : JType) (f : Sym) → IsFloatless t → field_type f.desc ≡ Some t → IsClean (access t f)) field_rows field_clean opcode h.access h.row h.type m.sym h.floatless ((field_spelled m.sym.desc h.type).1 h.typed))
member_clean opcode m a (inr (inl h)) = subst IsClean (sym h.is) h.typed
member_clean opcode m a (inr (inr h)) = subst IsClean (sym h.is) (receivers_apart.typed h.form m.sym h.desc h.typed, (h.desc, refl))

with_clean : (pool : List Entry) (opcode : ℕ) (u : Use) (a : Action) → FitsUse u → ActsWith pool opcode u a → IsClean a
with_clean pool opcode (used.Constant c) a f h = constant_clean pool opcode c a f h
with_clean pool opcode (used.Member m) a f h = member_clean opcode m a h
with_clean pool opcode (used.Class name) a f h =
    made_has IsClean (λ make. make name) (row_of class_rows opcode) a (λ make e. row_has (λ make. (name : List ℕ) → IsClean (make name)) class_rows class_clean opcode make e name) h
with_clean pool opcode used.None a f h = elim h [ ]

pub acts_clean : (pool : List Entry) (i : Insn) (u : Use) (a : Action) → FitsInsn i → IsUse pool i u → Acts pool i u a → IsClean a
acts_clean pool (insn.Plain opcode) u a f is h = row_has IsClean plain_rows plain_clean opcode a h
acts_clean pool (insn.Push opcode n) u a f is h = subst IsClean (sym h) f
acts_clean pool (insn.Local opcode n) u a f is h =
    made_has IsClean (λ make. make n) (row_of local_rows opcode) a (λ make e. row_has (λ make. (n : ℕ) → IsClean (make n)) local_rows local_clean opcode make e n) h
acts_clean pool (insn.Iinc n k) u a f is h = subst IsClean (sym h) tt
acts_clean pool (insn.Pool opcode i) u a f is h = with_clean pool opcode u a (subst FitsUse (sym is) (use_fits pool (insn.Pool opcode i))) h
acts_clean pool (insn.Branch opcode target) u a f is h =
    made_has IsClean (λ make. make target) (row_of branch_rows opcode) a (λ make e. row_has (λ make. (n : ℕ) → IsClean (make n)) branch_rows branch_clean opcode make e target) h
acts_clean pool (insn.Table default low targets) u a f is h = subst IsClean (sym h) tt
acts_clean pool (insn.Lookup default cases) u a f is h = subst IsClean (sym h) tt
acts_clean pool (insn.Refused opcode) u a f is h = elim h [ ]

all_clean : (pool : List Entry) (placed : List Placed) (actions : List Action) → AllByRecursion (λ p. FitsInsn p.insn) placed → AllZip (Does pool) placed actions → (k : ℕ) (a : Action) → slice_get actions k ≡ Some a → IsClean a
all_clean pool [] [] f all k a e = no_some a e
all_clean pool [] (b ∷ actions) f all k a e = elim all [ ]
all_clean pool (i ∷ placed) [] f all k a e = elim all [ ]
all_clean pool (i ∷ placed) (b ∷ actions) f all zero a e = subst IsClean (some_of _ _ e) (acts_clean pool i.insn all.0.0 b f.0 all.0.1.0 all.0.1.1)
all_clean pool (i ∷ placed) (b ∷ actions) f all (suc k) a e = all_clean pool placed actions f.1 all.1 k a e

pub program_clean : (file : ClassFile) (m : Method) (p : Program) → IsProgramOf file m p → (k : ℕ) (a : Action) → IsAt p k a → IsClean a
program_clean file m p is k a e =
    let spelled = is.actions.spelled in
    all_clean file.pool is.actions.placed p.actions (code_fits spelled.raws spelled.raws is.actions.placed 0 is.code.bytes spelled.read spelled.resolved) is.actions.acts k a e
