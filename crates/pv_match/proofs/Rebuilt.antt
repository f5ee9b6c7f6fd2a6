-- An operation by its number and its parameter.
use Rattle.std.proofs.Common.{◌≡◌, ℕ, true, List, [], ◌∷◌, length, refl, sym, ap, ap₂, ◌∙◌, subst, nat_le, ◌==◌, if◌then◌else◌}
use Rattle.pv_value.specs.declared.name.Sym.{Sym}
use Rattle.pv_value.specs.declared.heap.Kind as kinds
use Rattle.pv_value.specs.declared.heap.Kind.TheVariants as kind
use Rattle.pv_value.specs.declared.operation.ScalarOp.TheVariants.{Iadd, Isub, Imul, Idiv, Irem, Ishl, Ishr, Iushr, Iand, Ior, Ixor, Ieq, Ilt, Ineg, I2b, I2c, I2s, I2l, Ladd, Lsub, Lmul, Ldiv, Lrem, Lshl, Lshr, Lushr, Land, Lor, Lxor, Leq, Lcmp, Lneg, L2i}
use Rattle.pv_graph.specs.declared.node.Op.{Op}
use Rattle.pv_graph.specs.declared.node.Op.TheVariants as op
use Rattle.pv_pattern.specs.Numbers.{op_number}
use Rattle.pv_match.specs.declared.found.Param.{Param}
use Rattle.pv_match.specs.declared.found.Param.TheVariants as param
use Rattle.pv_match.specs.Reading.{is_told}
use Rattle.pv_match.specs.Parameters.{params_in}

no_symbol : Sym
no_symbol = record { class = []; name = []; desc = [] }

abbrev depth_of : List Param → ℕ
depth_of (param.Depth d ∷ ps) = d
depth_of ps = 0

abbrev symbol_of : List Param → Sym
symbol_of (param.Symbol s ∷ ps) = s
symbol_of ps = no_symbol

abbrev kind_of : List Param → kinds.Kind
kind_of (param.Kind k ∷ ps) = k
kind_of ps = kind.Int

-- the operation with this number and these parameters
abbrev rebuilt : ℕ → List Param → Op
rebuilt n ps =
    if n == 5 then op.This else
    if n == 6 then op.Heap0 else
    if n == 7 then op.Unit else
    if n == 8 then op.Never else
    if n == 9 then op.Clear else
    if n == 10 then op.FNull else
    if n == 11 then op.FArith else
    if n == 12 then op.FIndex else
    if n == 13 then op.Zero else
    if n == 14 then op.Succ else
    if n == 15 then op.Thrown else
    if n == 16 then op.IsClear else
    if n == 17 then op.Both else
    if n == 18 then op.Phi else
    if n == 23 then op.Root else
    if n == 65 then op.Aeq else
    if n == 76 then op.Length else
    if n == 19 then op.Theta (depth_of ps) else
    if n == 20 then op.Eval (depth_of ps) else
    if n == 21 then op.Pass (depth_of ps) else
    if n == 22 then op.Shift (depth_of ps) else
    if n == 30 then op.Scalar Iadd else
    if n == 31 then op.Scalar Isub else
    if n == 32 then op.Scalar Imul else
    if n == 33 then op.Scalar Idiv else
    if n == 34 then op.Scalar Irem else
    if n == 35 then op.Scalar Ishl else
    if n == 36 then op.Scalar Ishr else
    if n == 37 then op.Scalar Iushr else
    if n == 38 then op.Scalar Iand else
    if n == 39 then op.Scalar Ior else
    if n == 40 then op.Scalar Ixor else
    if n == 41 then op.Scalar Ieq else
    if n == 42 then op.Scalar Ilt else
    if n == 43 then op.Scalar Ineg else
    if n == 44 then op.Scalar I2b else
    if n == 45 then op.Scalar I2c else
    if n == 46 then op.Scalar I2s else
    if n == 47 then op.Scalar I2l else
    if n == 50 then op.Scalar Ladd else
    if n == 51 then op.Scalar Lsub else
    if n == 52 then op.Scalar Lmul else
    if n == 53 then op.Scalar Ldiv else
    if n == 54 then op.Scalar Lrem else
    if n == 55 then op.Scalar Lshl else
    if n == 56 then op.Scalar Lshr else
    if n == 57 then op.Scalar Lushr else
    if n == 58 then op.Scalar Land else
    if n == 59 then op.Scalar Lor else
    if n == 60 then op.Scalar Lxor else
    if n == 61 then op.Scalar Leq else
    if n == 62 then op.Scalar Lcmp else
    if n == 63 then op.Scalar Lneg else
    if n == 64 then op.Scalar L2i else
    if n == 70 then op.GetStatic (symbol_of ps) else
    if n == 71 then op.PutStatic (symbol_of ps) else
    if n == 72 then op.GetField (symbol_of ps) else
    if n == 73 then op.PutField (symbol_of ps) else
    if n == 80 then op.CallEnd (symbol_of ps) else
    if n == 81 then op.CallRes (symbol_of ps) else
    if n == 82 then op.CallFault (symbol_of ps) else
    if n == 83 then op.CallHeap (symbol_of ps) else
    if n == 74 then op.Load (kind_of ps) else
    if n == 75 then op.Store (kind_of ps) else
    op.Unit

op_rebuilt : (o : Op) → is_told (op_number o) ≡ true → rebuilt (op_number o) (params_in o) ≡ o
op_rebuilt (op.Int c) e = absurd (cc)
op_rebuilt (op.Long c) e = absurd (cc)
op_rebuilt op.Null e = absurd (cc)
op_rebuilt (op.Literal t) e = absurd (cc)
op_rebuilt (op.Param j s) e = absurd (cc)
op_rebuilt op.This e = refl
op_rebuilt op.Heap0 e = refl
op_rebuilt op.Unit e = refl
op_rebuilt op.Never e = refl
op_rebuilt op.Clear e = refl
op_rebuilt op.FNull e = refl
op_rebuilt op.FArith e = refl
op_rebuilt op.FIndex e = refl
op_rebuilt op.Zero e = refl
op_rebuilt op.Succ e = refl
op_rebuilt op.Thrown e = refl
op_rebuilt op.IsClear e = refl
op_rebuilt op.Both e = refl
op_rebuilt op.Phi e = refl
op_rebuilt op.Root e = refl
op_rebuilt op.Aeq e = refl
op_rebuilt op.Length e = refl
op_rebuilt (op.Theta d) e = refl
op_rebuilt (op.Eval d) e = refl
op_rebuilt (op.Pass d) e = refl
op_rebuilt (op.Shift d) e = refl
op_rebuilt (op.Scalar Iadd) e = refl
op_rebuilt (op.Scalar Isub) e = refl
op_rebuilt (op.Scalar Imul) e = refl
op_rebuilt (op.Scalar Idiv) e = refl
op_rebuilt (op.Scalar Irem) e = refl
op_rebuilt (op.Scalar Ishl) e = refl
op_rebuilt (op.Scalar Ishr) e = refl
op_rebuilt (op.Scalar Iushr) e = refl
op_rebuilt (op.Scalar Iand) e = refl
op_rebuilt (op.Scalar Ior) e = refl
op_rebuilt (op.Scalar Ixor) e = refl
op_rebuilt (op.Scalar Ieq) e = refl
op_rebuilt (op.Scalar Ilt) e = refl
op_rebuilt (op.Scalar Ineg) e = refl
op_rebuilt (op.Scalar I2b) e = refl
op_rebuilt (op.Scalar I2c) e = refl
op_rebuilt (op.Scalar I2s) e = refl
op_rebuilt (op.Scalar I2l) e = refl
op_rebuilt (op.Scalar Ladd) e = refl
op_rebuilt (op.Scalar Lsub) e = refl
op_rebuilt (op.Scalar Lmul) e = refl
op_rebuilt (op.Scalar Ldiv) e = refl
op_rebuilt (op.Scalar Lrem) e = refl
op_rebuilt (op.Scalar Lshl) e = refl
op_rebuilt (op.Scalar Lshr) e = refl
op_rebuilt (op.Scalar Lushr) e = refl
op_rebuilt (op.Scalar Land) e = refl
op_rebuilt (op.Scalar Lor) e = refl
op_rebuilt (op.Scalar Lxor) e = refl
op_rebuilt (op.Scalar Leq) e = refl
op_rebuilt (op.Scalar Lcmp) e = refl
op_rebuilt (op.Scalar Lneg) e = refl
op_rebuilt (op.Scalar L2i) e = refl
op_rebuilt (op.GetStatic s) e = refl
op_rebuilt (op.PutStatic s) e = refl
op_rebuilt (op.GetField s) e = refl
op_rebuilt (op.PutField s) e = refl
op_rebuilt (op.CallEnd s) e = refl
op_rebuilt (op.CallRes s) e = refl
op_rebuilt (op.CallFault s) e = refl
op_rebuilt (op.CallHeap s) e = refl
op_rebuilt (op.Var j s) e = absurd (cc)
op_rebuilt (op.Load k) e = refl
op_rebuilt (op.Store k) e = refl

pub op_once : (o p : Op) → is_told (op_number o) ≡ true → op_number o ≡ op_number p → params_in o ≡ params_in p → o ≡ p
op_once o p l e f = sym (op_rebuilt o l) ∙ (ap₂ rebuilt e f ∙ op_rebuilt p (subst (λ n. is_told n ≡ true) e l))

-- how many parameters the operation with a number has
abbrev param_count : ℕ → ℕ
param_count n =
    if nat_le 70 n then (if n == 76 then 0 else if n == 90 then 0 else 1) else
    if nat_le 23 n then 0 else
    if nat_le 19 n then 1 else
    if nat_le 5 n then 0 else
    if nat_le 2 n then 0 else 1

counted : (o : Op) → length (params_in o) ≡ param_count (op_number o)
counted (op.Int c) = refl
counted (op.Long c) = refl
counted op.Null = refl
counted (op.Literal t) = refl
counted (op.Param j s) = refl
counted op.This = refl
counted op.Heap0 = refl
counted op.Unit = refl
counted op.Never = refl
counted op.Clear = refl
counted op.FNull = refl
counted op.FArith = refl
counted op.FIndex = refl
counted op.Zero = refl
counted op.Succ = refl
counted op.Thrown = refl
counted op.IsClear = refl
counted op.Both = refl
counted op.Phi = refl
counted op.Root = refl
counted op.Aeq = refl
counted op.Length = refl
counted (op.Theta d) = refl
counted (op.Eval d) = refl
counted (op.Pass d) = refl
counted (op.Shift d) = refl
counted (op.Scalar Iadd) = refl
counted (op.Scalar Isub) = refl
counted (op.Scalar Imul) = refl
counted (op.Scalar Idiv) = refl
counted (op.Scalar Irem) = refl
counted (op.Scalar Ishl) = refl
counted (op.Scalar Ishr) = refl
counted (op.Scalar Iushr) = refl
counted (op.Scalar Iand) = refl
counted (op.Scalar Ior) = refl
counted (op.Scalar Ixor) = refl
counted (op.Scalar Ieq) = refl
counted (op.Scalar Ilt) = refl
counted (op.Scalar Ineg) = refl
counted (op.Scalar I2b) = refl
counted (op.Scalar I2c) = refl
counted (op.Scalar I2s) = refl
counted (op.Scalar I2l) = refl
counted (op.Scalar Ladd) = refl
counted (op.Scalar Lsub) = refl
counted (op.Scalar Lmul) = refl
counted (op.Scalar Ldiv) = refl
counted (op.Scalar Lrem) = refl
counted (op.Scalar Lshl) = refl
counted (op.Scalar Lshr) = refl
counted (op.Scalar Lushr) = refl
counted (op.Scalar Land) = refl
counted (op.Scalar Lor) = refl
counted (op.Scalar Lxor) = refl
counted (op.Scalar Leq) = refl
counted (op.Scalar Lcmp) = refl
counted (op.Scalar Lneg) = refl
counted (op.Scalar L2i) = refl
counted (op.GetStatic s) = refl
counted (op.PutStatic s) = refl
counted (op.GetField s) = refl
counted (op.PutField s) = refl
counted (op.CallEnd s) = refl
counted (op.CallRes s) = refl
counted (op.CallFault s) = refl
counted (op.CallHeap s) = refl
counted (op.Var j s) = refl
counted (op.Load k) = refl
counted (op.Store k) = refl

pub same_count : (o p : Op) → op_number o ≡ op_number p → length (params_in o) ≡ length (params_in p)
same_count o p e = counted o ∙ (ap param_count e ∙ sym (counted p))
