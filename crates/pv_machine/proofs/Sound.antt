-- Each action of a program says what it takes: divisions have two operands, and fields and callees are typed by their descriptors.
use Rattle.std.proofs.Common.{◌≡◌, ℕ, zero, suc, true, false, List, [], ◌∷◌, Option, Some, None, refl, sym, subst, inl, inr, ◌==◌, option_map, if◌then◌else◌, slice_get}
use Rattle.pv_machine.proofs.Words.{AllZip, AllByRecursion, Sym, JType, Entry, Constant, Member, Insn, Placed, Use, Action, plain_rows, local_rows, branch_rows, field_rows, class_rows, row_of, IsFloatless, LoadsConstant, UsesMember, ActsWith, Program, IsAt, IsProgramOf, ClassFile, Method, some_of, no_some, receivers_apart}
use Rattle.pv_frame.specs.Actions.{Acts}
use Rattle.pv_frame.specs.Programs.{Does}
use Rattle.pv_pool.specs.declared.constant.Constant.TheVariants as constant
use Rattle.pv_insn.specs.declared.insn.Insn.TheVariants as insn
use Rattle.pv_frame.specs.declared.used.Use.TheVariants as used
use Rattle.pv_machine.proofs.Performs.{IsSound}

row_has : {A : Type 0} (P : A → Type 0) (rows : List (ℕ × A)) → AllByRecursion (λ r. P r.1) rows → (opcode : ℕ) (x : A) → row_of rows opcode ≡ Some x → P x
row_has P [] all opcode x e = no_some x e
row_has P (r ∷ rows) all opcode x e =
    elim (r.0 == opcode) as (λ b. (if b then Some r.1 else row_of rows opcode) ≡ Some x → P x) [
      | true ↦ λ e. subst P (some_of _ _ e) all.0
      | false ↦ λ e. row_has P rows all.1 opcode x e
    ] e

made_has : {A : Type 0} (P : Action → Type 0) (make : A → Action) (rows : Option A) (a : Action) → ((x : A) → rows ≡ Some x → P (make x)) → option_map make rows ≡ Some a → P a
made_has P make None a h e = no_some a e
made_has P make (Some x) a h e = subst P (some_of _ _ e) (h x refl)

plain_sound : AllByRecursion (λ r. IsSound r.1) plain_rows
plain_sound = (tt, (tt, (tt, (tt, (tt, (tt, (tt, (tt, (tt, (tt, (tt, (tt, (tt, (tt, (tt, (tt, (tt, (tt, (tt, (tt, (tt, (tt, (tt, (tt, (tt, (tt, (tt, (tt, (tt, (tt, (tt, (tt, (tt, (tt, (tt, (tt, (tt, (tt, (tt, (tt, (tt, (tt, (tt, (tt, (tt, (tt, (tt, (tt, (tt, (tt, (tt, (tt, (tt, (tt, (tt, (tt, (tt, (tt, (tt, (tt, (tt, (tt, ((_, _, refl), ((_, _, refl), ((_, _, refl), ((_, _, refl), (tt, (tt, (tt, (tt, (tt, (tt, (tt, (tt, (tt, (tt, (tt, (tt, (tt, (tt, (tt, (tt, (tt, (tt, (tt, (tt, (tt, (tt, (tt, (tt, (tt, (tt, tt))))))))))))))))))))))))))))))))))))))))))))))))))))))))))))))))))))))))))))))))))))))))))))

local_sound : AllByRecursion (λ r. (n : ℕ) → IsSound (r.1 n)) local_rows
local_sound = (λ _. tt, (λ _. tt, (λ _. tt, (λ _. tt, (λ _. tt, (λ _. tt, tt))))))

branch_sound : AllByRecursion (λ r. (n : ℕ) → IsSound (r.1 n)) branch_rows
branch_sound = (λ _. tt, (λ _. tt, (λ _. tt, (λ _. tt, (λ _. tt, (λ _. tt, (λ _. tt, (λ _. tt, (λ _. tt, (λ _. tt, (λ _. tt, (λ _. tt, (λ _. tt, (λ _. tt, (λ _. tt, (λ _. tt, (λ _. tt, (λ _. tt, tt))))))))))))))))))

field_sound : AllByRecursion (λ r. (t : JType) (f : Sym) → IsFloatless t → IsSound (r.1 t f)) field_rows
field_sound = (λ _ _ h. h, (λ _ _ h. h, (λ _ _ h. h, (λ _ _ h. h, tt))))

class_sound : AllByRecursion (λ r. (name : List ℕ) → IsSound (r.1 name)) class_rows
class_sound = (λ _. tt, (λ _. tt, tt))

constant_sound : (pool : List Entry) (opcode : ℕ) (c : Constant) (a : Action) → LoadsConstant pool opcode c a → IsSound a
constant_sound pool opcode (constant.Int n) a h = subst IsSound (sym h.1) tt
constant_sound pool opcode (constant.Text i) a h = subst IsSound (sym h.1.2) tt
constant_sound pool opcode (constant.Long n) a h = subst IsSound (sym h.1) tt
constant_sound pool opcode c a h = elim h [ ]

member_sound : (opcode : ℕ) (m : Member) (a : Action) → UsesMember opcode m a → IsSound a
member_sound opcode m a (inl h) = subst IsSound (sym h.is) (row_has (λ access. (t : JType) (f : Sym) → IsFloatless t → IsSound (access t f)) field_rows field_sound opcode h.access h.row h.type m.sym h.floatless)
member_sound opcode m a (inr (inl h)) = subst IsSound (sym h.is) h.typed
member_sound opcode m a (inr (inr h)) = subst IsSound (sym h.is) (receivers_apart.typed h.form m.sym h.desc h.typed, (h.desc.params, refl))

with_sound : (pool : List Entry) (opcode : ℕ) (u : Use) (a : Action) → ActsWith pool opcode u a → IsSound a
with_sound pool opcode (used.Constant c) a h = constant_sound pool opcode c a h
with_sound pool opcode (used.Member m) a h = member_sound opcode m a h
with_sound pool opcode (used.Class name) a h =
    made_has IsSound (λ make. make name) (row_of class_rows opcode) a (λ make e. row_has (λ make. (name : List ℕ) → IsSound (make name)) class_rows class_sound opcode make e name) h
with_sound pool opcode used.None a h = elim h [ ]

pub acts_sound : (pool : List Entry) (i : Insn) (u : Use) (a : Action) → Acts pool i u a → IsSound a
acts_sound pool (insn.Plain opcode) u a h = row_has IsSound plain_rows plain_sound opcode a h
acts_sound pool (insn.Push opcode n) u a h = subst IsSound (sym h) tt
acts_sound pool (insn.Local opcode n) u a h =
    made_has IsSound (λ make. make n) (row_of local_rows opcode) a (λ make e. row_has (λ make. (n : ℕ) → IsSound (make n)) local_rows local_sound opcode make e n) h
acts_sound pool (insn.Iinc n k) u a h = subst IsSound (sym h) tt
acts_sound pool (insn.Pool opcode i) u a h = with_sound pool opcode u a h
acts_sound pool (insn.Branch opcode target) u a h =
    made_has IsSound (λ make. make target) (row_of branch_rows opcode) a (λ make e. row_has (λ make. (n : ℕ) → IsSound (make n)) branch_rows branch_sound opcode make e target) h
acts_sound pool (insn.Table default low targets) u a h = subst IsSound (sym h) tt
acts_sound pool (insn.Lookup default cases) u a h = subst IsSound (sym h) tt
acts_sound pool (insn.Refused opcode) u a h = elim h [ ]

all_sound : (pool : List Entry) (placed : List Placed) (actions : List Action) → AllZip (Does pool) placed actions → (k : ℕ) (a : Action) → slice_get actions k ≡ Some a → IsSound a
all_sound pool [] [] all k a e = no_some a e
all_sound pool [] (b ∷ actions) all k a e = elim all [ ]
all_sound pool (i ∷ placed) [] all k a e = elim all [ ]
all_sound pool (i ∷ placed) (b ∷ actions) all zero a e = subst IsSound (some_of _ _ e) (acts_sound pool i.insn all.0.0 b all.0.1.1)
all_sound pool (i ∷ placed) (b ∷ actions) all (suc k) a e = all_sound pool placed actions all.1 k a e

pub program_sound : (file : ClassFile) (m : Method) (p : Program) → IsProgramOf file m p → (k : ℕ) (a : Action) → IsAt p k a → IsSound a
program_sound file m p is k a e = all_sound file.pool is.actions.placed p.actions is.actions.acts k a e
