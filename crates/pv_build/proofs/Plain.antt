-- The actions of a method's program are what a block asks of them.
use Rattle.std.proofs.Common.{◌≡◌, ℕ, zero, suc, true, false, List, [], ◌∷◌, Option, Some, None, refl, sym, subst, inl, inr}
use Rattle.pv_build.proofs.Words.{◌==◌, option_map, if◌then◌else◌, slice_get, AllZip, AllByRecursion, Sym, JType, Constant, Insn, Placed, Use, Action, plain_rows, local_rows, branch_rows, field_rows, class_rows, row_of, LoadsConstant, ActsWith, Program, Does, IsProgramOf, ClassFile, some_of, no_some, program_clean, IsFloatlessCall, ArePlain}
use Rattle.pv_pool.specs.declared.entry.Entry.{Entry}
use Rattle.pv_pool.specs.declared.constant.Constant.TheVariants as constant
use Rattle.pv_insn.specs.declared.insn.Insn.TheVariants as insn
use Rattle.pv_frame.specs.declared.used.Use.TheVariants as used
use Rattle.pv_frame.specs.Actions.{Acts}
use Rattle.pv_class.specs.declared.file.Method.{Method}

row_has : {A : Type 0} (P : A → Type 0) (rows : List (ℕ × A)) → AllByRecursion (λ r. P r.1) rows → (opcode : ℕ) (x : A) → row_of rows opcode ≡ Some x → P x
row_has P [] all opcode x e = no_some x e
row_has P (r ∷ rows) all opcode x e =
    elim (r.0 == opcode) as (λ b. (if b then Some r.1 else row_of rows opcode) ≡ Some x → P x) [
      | true ↦ λ e. subst P (some_of _ _ e) all.0
      | false ↦ λ e. row_has P rows all.1 opcode x e
    ] e

made_has : {A : Type 0} (P : Action → Type 0) (make : A → Action) (rows : Option A) (a : Action) → ((x : A) → rows ≡ Some x → P (make x)) → option_map make rows ≡ Some a → P a
made_has P make None a h e = no_some a e
made_has P make (Some x) a h e = subst P (some_of _ _ e) (h x refl)

plain_calls : AllByRecursion (λ r. IsFloatlessCall r.1) plain_rows
plain_calls = (tt, (tt, (tt, (tt, (tt, (tt, (tt, (tt, (tt, (tt, (tt, (tt, (tt, (tt, (tt, (tt, (tt, (tt, (tt, (tt, (tt, (tt, (tt, (tt, (tt, (tt, (tt, (tt, (tt, (tt, (tt, (tt, (tt, (tt, (tt, (tt, (tt, (tt, (tt, (tt, (tt, (tt, (tt, (tt, (tt, (tt, (tt, (tt, (tt, (tt, (tt, (tt, (tt, (tt, (tt, (tt, (tt, (tt, (tt, (tt, (tt, (tt, (tt, (tt, (tt, (tt, (tt, (tt, (tt, (tt, (tt, (tt, (tt, (tt, (tt, (tt, (tt, (tt, (tt, (tt, (tt, (tt, (tt, (tt, (tt, (tt, (tt, (tt, (tt, (tt, (tt, (tt, tt))))))))))))))))))))))))))))))))))))))))))))))))))))))))))))))))))))))))))))))))))))))))))))

local_calls : AllByRecursion (λ r. (n : ℕ) → IsFloatlessCall (r.1 n)) local_rows
local_calls = (λ _. tt, (λ _. tt, (λ _. tt, (λ _. tt, (λ _. tt, (λ _. tt, tt))))))

branch_calls : AllByRecursion (λ r. (n : ℕ) → IsFloatlessCall (r.1 n)) branch_rows
branch_calls = (λ _. tt, (λ _. tt, (λ _. tt, (λ _. tt, (λ _. tt, (λ _. tt, (λ _. tt, (λ _. tt, (λ _. tt, (λ _. tt, (λ _. tt, (λ _. tt, (λ _. tt, (λ _. tt, (λ _. tt, (λ _. tt, (λ _. tt, (λ _. tt, tt))))))))))))))))))

field_calls : AllByRecursion (λ r. (t : JType) (f : Sym) → IsFloatlessCall (r.1 t f)) field_rows
field_calls = (λ _ _. tt, (λ _ _. tt, (λ _ _. tt, (λ _ _. tt, tt))))

class_calls : AllByRecursion (λ r. (name : List ℕ) → IsFloatlessCall (r.1 name)) class_rows
class_calls = (λ _. tt, (λ _. tt, tt))

constant_call : (pool : List Entry) (opcode : ℕ) (c : Constant) (a : Action) → LoadsConstant pool opcode c a → IsFloatlessCall a
constant_call pool opcode (constant.Int n) a h = subst IsFloatlessCall (sym h.1) tt
constant_call pool opcode (constant.Text i) a h = subst IsFloatlessCall (sym h.1.2) tt
constant_call pool opcode (constant.Long n) a h = subst IsFloatlessCall (sym h.1) tt
constant_call pool opcode c a h = absurd h

with_call : (pool : List Entry) (opcode : ℕ) (u : Use) (a : Action) → ActsWith pool opcode u a → IsFloatlessCall a
with_call pool opcode (used.Constant c) a h = constant_call pool opcode c a h
with_call pool opcode (used.Member m) a (inl h) = subst IsFloatlessCall (sym h.is) (row_has (λ access. (t : JType) (f : Sym) → IsFloatlessCall (access t f)) field_rows field_calls opcode h.access h.row h.type m.sym)
with_call pool opcode (used.Member m) a (inr (inl h)) = subst IsFloatlessCall (sym h.is) h.floatless
-- a receiver is a reference
with_call pool opcode (used.Member m) a (inr (inr h)) = subst IsFloatlessCall (sym h.is) ((tt, h.floatless.0), h.floatless.1)
with_call pool opcode (used.Class name) a h =
    made_has IsFloatlessCall (λ make. make name) (row_of class_rows opcode) a (λ make e. row_has (λ make. (name : List ℕ) → IsFloatlessCall (make name)) class_rows class_calls opcode make e name) h
with_call pool opcode used.None a h = absurd h

acts_call : (pool : List Entry) (i : Insn) (u : Use) (a : Action) → Acts pool i u a → IsFloatlessCall a
acts_call pool (insn.Plain opcode) u a h = row_has IsFloatlessCall plain_rows plain_calls opcode a h
acts_call pool (insn.Push opcode n) u a h = subst IsFloatlessCall (sym h) tt
acts_call pool (insn.Local opcode n) u a h =
    made_has IsFloatlessCall (λ make. make n) (row_of local_rows opcode) a (λ make e. row_has (λ make. (n : ℕ) → IsFloatlessCall (make n)) local_rows local_calls opcode make e n) h
acts_call pool (insn.Iinc n k) u a h = subst IsFloatlessCall (sym h) tt
acts_call pool (insn.Pool opcode i) u a h = with_call pool opcode u a h
acts_call pool (insn.Branch opcode target) u a h =
    made_has IsFloatlessCall (λ make. make target) (row_of branch_rows opcode) a (λ make e. row_has (λ make. (n : ℕ) → IsFloatlessCall (make n)) branch_rows branch_calls opcode make e target) h
acts_call pool (insn.Table default low targets) u a h = subst IsFloatlessCall (sym h) tt
acts_call pool (insn.Lookup default cases) u a h = subst IsFloatlessCall (sym h) tt
acts_call pool (insn.Refused opcode) u a h = absurd h

all_calls : (pool : List Entry) (placed : List Placed) (actions : List Action) → AllZip (Does pool) placed actions → (k : ℕ) (a : Action) → slice_get actions k ≡ Some a → IsFloatlessCall a
all_calls pool [] [] all k a e = no_some a e
all_calls pool [] (b ∷ actions) all k a e = absurd all
all_calls pool (i ∷ placed) [] all k a e = absurd all
all_calls pool (i ∷ placed) (b ∷ actions) all zero a e = subst IsFloatlessCall (some_of _ _ e) (acts_call pool i.insn all.0.0 b all.0.1.1)
all_calls pool (i ∷ placed) (b ∷ actions) all (suc k) a e = all_calls pool placed actions all.1 k a e

pub are_plain : (file : ClassFile) (m : Method) (p : Program) → IsProgramOf file m p → ArePlain p
are_plain file m p is k a e = (program_clean file m p is k a e, all_calls file.pool is.actions.placed p.actions is.actions.acts k a e)
