-- Each slot where a method begins (JVMS 2.6.1): `this` and the parameters in the first locals, the heap of the input, and a token.
use Rattle.std.specs.Prelude.{◌≡◌, ℕ, zero, suc, Bool, true, false, List, [], ◌∷◌, refl}
use Rattle.pv_value.specs.declared.descriptor.JType.{JType}
use Rattle.pv_value.specs.declared.descriptor.JType.TheVariants as jtype
use Rattle.pv_frame.specs.declared.program.Program.{Program}
use Rattle.pv_graph.specs.declared.node.Op.{Op}
use Rattle.pv_graph.specs.declared.node.Op.TheVariants as op
use Rattle.pv_graph.specs.declared.node.OpSort.TheVariants as opsort
use Rattle.pv_graph.specs.Ops.{plain, shape}
use Rattle.pv_runs.specs.Held.{slots, by_turns}

-- the parameters from the one of number j on, local by local; nothing is known of a float or a double
abbrev pub param_ops : ℕ → List JType → List Op
param_ops j [] = []
param_ops j (jtype.J ∷ types) = op.Param j opsort.L ∷ op.Unit ∷ param_ops (suc j) types
param_ops j (jtype.A ∷ types) = op.Param j opsort.A ∷ param_ops (suc j) types
param_ops j (jtype.D ∷ types) = op.Unit ∷ op.Unit ∷ param_ops (suc j) types
param_ops j (jtype.F ∷ types) = op.Unit ∷ param_ops (suc j) types
param_ops j (t ∷ types) = op.Param j opsort.I ∷ param_ops (suc j) types

abbrev pub passed_ops : Bool → List JType → List Op
passed_ops true types = op.This ∷ param_ops 0 types
passed_ops false types = param_ops 0 types

-- where there is none, unit
abbrev pub op_at : List Op → ℕ → Op
op_at [] k = op.Unit
op_at (o ∷ ops) zero = o
op_at (o ∷ ops) (suc k) = op_at ops k

-- an operation without kids for each slot at the entry
abbrev pub start_op : Program → ℕ → Op
start_op p = slots op.Unit op.Clear op.Unit op.Heap0 (by_turns (op_at (passed_ops p.instance p.desc.params)) (λ j. op.Unit))

-- these operations need the values of all their kids
param_plain : (j : ℕ) (types : List JType) (k : ℕ) → shape (op_at (param_ops j types) k) ≡ plain
param_plain j [] k = refl
param_plain j (jtype.J ∷ types) zero = refl
param_plain j (jtype.J ∷ types) (suc zero) = refl
param_plain j (jtype.J ∷ types) (suc (suc k)) = param_plain (suc j) types k
param_plain j (jtype.D ∷ types) zero = refl
param_plain j (jtype.D ∷ types) (suc zero) = refl
param_plain j (jtype.D ∷ types) (suc (suc k)) = param_plain (suc j) types k
param_plain j (jtype.A ∷ types) zero = refl
param_plain j (jtype.A ∷ types) (suc k) = param_plain (suc j) types k
param_plain j (jtype.F ∷ types) zero = refl
param_plain j (jtype.F ∷ types) (suc k) = param_plain (suc j) types k
param_plain j (t ∷ types) zero = refl
param_plain j (t ∷ types) (suc k) = param_plain (suc j) types k

passed_plain : (b : Bool) (types : List JType) (k : ℕ) → shape (op_at (passed_ops b types) k) ≡ plain
passed_plain true types zero = refl
passed_plain true types (suc k) = param_plain 0 types k
passed_plain false types k = param_plain 0 types k

turns_plain : (ops places : ℕ → Op) → ((k : ℕ) → shape (ops k) ≡ plain) → ((j : ℕ) → shape (places j) ≡ plain) → (n : ℕ) → shape (by_turns ops places n) ≡ plain
turns_plain ops places f g zero = f 0
turns_plain ops places f g (suc zero) = g 0
turns_plain ops places f g (suc (suc n)) = turns_plain (λ k. ops (suc k)) (λ j. places (suc j)) (λ k. f (suc k)) (λ j. g (suc j)) n

pub start_plain : (p : Program) (s : ℕ) → shape (start_op p s) ≡ plain
start_plain p zero = refl
start_plain p (suc zero) = refl
start_plain p (suc (suc zero)) = refl
start_plain p (suc (suc (suc zero))) = refl
start_plain p (suc (suc (suc (suc n)))) = turns_plain _ _ (passed_plain p.instance p.desc.params) (λ j. refl) n
