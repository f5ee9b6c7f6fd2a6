-- The slots at the entry, and the state in which a method starts.
use Rattle.std.proofs.Common.{◌≡◌, ℕ, zero, suc, Bool, true, false, List, [], ◌∷◌, ◌++◌, length, Option, Some, None, refl, ap, sym, subst, ◌∙◌, append_assoc, length-append, arith}
use Rattle.pv_outcomes.proofs.Words.{slice_get, replicate, AllZip, AllByRecursion, flat_map, Num, JType, World, Input, Val, IsOfType, Fits, Program, Frame, Agrees, some_of, locals_of, passed, padded, start, starts, param_of, Starts, local_slot, flow_of, InRange, Block, Forest, turns_both, turns_local}
use Rattle.pv_value.specs.declared.number.Num.TheVariants as num
use Rattle.pv_value.specs.declared.descriptor.JType.TheVariants as jtype
use Rattle.pv_value.specs.declared.outcome.Fault.TheVariants as fault
use Rattle.pv_value.specs.declared.outcome.Val.TheVariants as val
use Rattle.pv_graph.specs.declared.node.Op.{Op}
use Rattle.pv_graph.specs.declared.node.Op.TheVariants as op
use Rattle.pv_graph.specs.declared.node.OpSort.{OpSort}
use Rattle.pv_graph.specs.declared.node.OpSort.TheVariants as opsort
use Rattle.pv_denote.specs.Denote.{strict, number_of}
use Rattle.pv_outcomes.proofs.States.{LocalsHeld, At}
use Rattle.pv_runs.specs.Entries.{param_ops, passed_ops, op_at, start_op}
use Rattle.pv_outcomes.proofs.Ranges.{type_range}
use Rattle.pv_outcomes.proofs.Runs.{moved_on, moved_sum}

abbrev value_of : Input → Op → Val
value_of x op.This = val.Num (num.Ref x.this)
value_of x (op.Param j s) = val.Num (param_of x.args j s)
value_of x op.Heap0 = val.Heap x.heap
value_of x op.Clear = val.Fault fault.Clear
value_of x o = val.Unit

abbrev IsStart : Op → Type 0
IsStart op.This = Unit {0}
IsStart (op.Param j s) = Unit {0}
IsStart op.Heap0 = Unit {0}
IsStart op.Clear = Unit {0}
IsStart op.Unit = Unit {0}
IsStart o = ⊥

start_is : (w : World) (x : Input) (o : Op) → IsStart o → strict w x o [] ≡ Some (value_of x o)
unfolding strict
start_is w x op.This h = refl
start_is w x (op.Param j s) h = refl
start_is w x op.Heap0 h = refl
start_is w x op.Clear h = refl
start_is w x op.Unit h = refl
start_is w x o h = absurd h

params_start : (j : ℕ) (types : List JType) → AllByRecursion IsStart (param_ops j types)
params_start j [] = tt
params_start j (jtype.J ∷ types) = (tt, (tt, params_start (suc j) types))
params_start j (jtype.A ∷ types) = (tt, params_start (suc j) types)
params_start j (jtype.D ∷ types) = (tt, (tt, params_start (suc j) types))
params_start j (jtype.F ∷ types) = (tt, params_start (suc j) types)
params_start j (t ∷ types) = (tt, params_start (suc j) types)

passed_start : (b : Bool) (types : List JType) → AllByRecursion IsStart (passed_ops b types)
passed_start true types = (tt, params_start 0 types)
passed_start false types = params_start 0 types

op_start : (ops : List Op) → AllByRecursion IsStart ops → (k : ℕ) → IsStart (op_at ops k)
op_start [] h k = tt
op_start (o ∷ ops) h zero = h.0
op_start (o ∷ ops) h (suc k) = op_start ops h.1 k

slot_start : (p : Program) (s : ℕ) → IsStart (start_op p s)
slot_start p zero = tt
slot_start p (suc zero) = tt
slot_start p (suc (suc zero)) = tt
slot_start p (suc (suc (suc zero))) = tt
slot_start p (suc (suc (suc (suc n)))) =
    turns_both (λ (o : Op) (q : Op). IsStart o) (op_at (passed_ops p.instance p.desc.params)) (λ j. op.Unit) (λ j. op.Unit) (λ j. op.Unit)
    (op_start (passed_ops p.instance p.desc.params) (passed_start p.instance p.desc.params)) (λ j. tt) n

get_mid : (pre : List Num) (n : Num) (args : List Num) → slice_get (pre ++ n ∷ args) (length pre) ≡ Some n
get_mid [] n args = refl
get_mid (m ∷ pre) n args = get_mid pre n args

module _ (x : Input) where
  -- the values of operations, for locals that hold one
  Hold : List Op → List (Option Num) → Type 0
  Hold ops [] = Unit {0}
  Hold [] (None ∷ ls) = Hold [] ls
  Hold [] (Some n ∷ ls) = ⊥
  Hold (o ∷ ops) (l ∷ ls) = ((n : Num) → l ≡ Some n → (value_of x o ≡ val.Num n) × InRange n) × Hold ops ls

  held : (τ : ℕ → Val) (k : ℕ) (ops : List Op) (ls : List (Option Num)) → ((i : ℕ) → τ (local_slot (moved_on i k)) ≡ value_of x (op_at ops i)) → Hold ops ls → LocalsHeld τ k ls
  unfolding Hold
  held τ k ops [] f h = tt
  held τ k [] (None ∷ ls) f h = ((λ n e. absurd (cc)), held τ (suc k) [] ls (λ i. f (suc i)) h)
  held τ k [] (Some n ∷ ls) f h = absurd h
  held τ k (o ∷ ops) (l ∷ ls) f h = ((λ n e. (f zero ∙ (h.0 n e).0, (h.0 n e).1)), held τ (suc k) ops ls (λ i. f (suc i)) h.1)

  none_hold : (n : ℕ) → Hold [] (replicate n None)
  unfolding Hold
  none_hold zero = tt
  none_hold (suc n) = none_hold n

  told : (j : ℕ) (s : OpSort) (n : Num) → slice_get x.args j ≡ Some n → number_of s (Some n) ≡ n → InRange n → (m : Num) → Some n ≡ Some m → (value_of x (op.Param j s) ≡ val.Num m) × InRange m
  told j s n e same r m q = (ap (λ (o : Option Num). val.Num (number_of s o)) e ∙ ap (λ (n : Num). val.Num n) (same ∙ some_of _ _ q), subst InRange (some_of _ _ q) r)

  params_hold : (pre args : List Num) (types : List JType) (j : ℕ) (rest : List (Option Num)) → x.args ≡ pre ++ args → length pre ≡ j → AllZip IsOfType types args → Hold [] rest → Hold (param_ops j types) (flat_map locals_of args ++ rest)
  unfolding Hold
  params_hold pre [] [] j rest e l h r = r
  params_hold pre (n ∷ args) [] j rest e l h r = absurd h
  params_hold pre [] (t ∷ types) j rest e l h r = absurd h
  params_hold pre (n ∷ args) (t ∷ types) j rest e l h r = one t n h.0 (params_hold (pre ++ n ∷ []) args types (suc j) rest (e ∙ sym (append_assoc pre (n ∷ []) args)) (length-append pre (n ∷ []) ∙ omega arith) h.1 r) got
    where
      got : slice_get x.args j ≡ Some n
      got = ap (λ (xs : List Num). slice_get xs j) e ∙ subst (λ (j : ℕ). slice_get (pre ++ n ∷ args) j ≡ Some n) l (get_mid pre n args)

      one : (t : JType) (n : Num) → IsOfType t n → Hold (param_ops (suc j) types) (flat_map locals_of args ++ rest) → slice_get x.args j ≡ Some n → Hold (param_ops j (t ∷ types)) (flat_map locals_of (n ∷ args) ++ rest)
      one jtype.Z (num.Int n) h more g = (told j opsort.I (num.Int n) g refl (type_range jtype.Z (num.Int n) h), more)
      one jtype.B (num.Int n) h more g = (told j opsort.I (num.Int n) g refl (type_range jtype.B (num.Int n) h), more)
      one jtype.C (num.Int n) h more g = (told j opsort.I (num.Int n) g refl (type_range jtype.C (num.Int n) h), more)
      one jtype.S (num.Int n) h more g = (told j opsort.I (num.Int n) g refl (type_range jtype.S (num.Int n) h), more)
      one jtype.I (num.Int n) h more g = (told j opsort.I (num.Int n) g refl (type_range jtype.I (num.Int n) h), more)
      one jtype.J (num.Long n) h more g = (told j opsort.L (num.Long n) g refl tt, ((λ m q. absurd (cc)), more))
      one jtype.A (num.Ref n) h more g = (told j opsort.A (num.Ref n) g refl tt, more)
      one t n h more g = absurd h

  passed_hold : (b : Bool) (types : List JType) (rest : List (Option Num)) → AllZip IsOfType types x.args → Hold [] rest → Hold (passed_ops b types) (flat_map locals_of (passed b x) ++ rest)
  unfolding Hold
  passed_hold true types rest h r = ((λ m q. (ap (λ (n : Num). val.Num n) (some_of _ _ q), subst InRange (some_of _ _ q) tt)), params_hold [] x.args types 0 rest refl refl h r)
  passed_hold false types rest h r = params_hold [] x.args types 0 rest refl refl h r

-- the values of the slots at the entry
pub entry_slots : Program → Input → ℕ → Val
entry_slots p x s = value_of x (start_op p s)

pub entry_starts : (p : Program) (frames : List (Option Frame)) (blocks : List Block) (forest : Forest) (w : World) (x : Input) → Starts w x (flow_of p frames blocks forest) (entry_slots p x)
unfolding entry_slots
entry_starts p frames blocks forest w x s = start_is w x (start_op p s) (slot_start p s)

pub entry_at : (p : Program) (frames : List (Option Frame)) → Agrees p frames → (x : Input) → Fits p.desc x → At x frames 0 (entry_slots p x) (start p x)
unfolding entry_slots
entry_at p frames agrees x fits = record {
  here = refl;
  typed = starts frames p x agrees fits.args;
  start = refl;
  token = refl;
  heap = refl;
  locals = held x (entry_slots p x) 0 (passed_ops p.instance p.desc.params) (padded p.max_locals (flat_map locals_of (passed p.instance x)))
      (λ i. ap (value_of x) (turns_local (op_at (passed_ops p.instance p.desc.params)) (λ j. op.Unit) (moved_on i 0)) ∙ ap (λ (k : ℕ). value_of x (op_at (passed_ops p.instance p.desc.params) k)) (moved_sum i 0 ∙ omega arith))
      (passed_hold x p.instance p.desc.params _ fits.args (none_hold x _));
  stack = tt;
}
