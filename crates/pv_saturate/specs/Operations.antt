-- The operation of a family, by its number and its parameter.
use Rattle.std.specs.Prelude.{ℕ, List, [], ◌∷◌, Option, Some, None, option_map, is_some, ◌==◌, if◌then◌else◌}
use Rattle.pv_value.specs.declared.heap.Kind as kinds
use Rattle.pv_value.specs.declared.name.Sym.{Sym}
use Rattle.pv_value.specs.declared.operation.ScalarOp.{ScalarOp}
use Rattle.pv_value.specs.declared.operation.ScalarOp.TheVariants.{Iadd, Isub, Imul, Idiv, Irem, Ishl, Ishr, Iushr, Iand, Ior, Ixor, Ieq, Ilt, Ineg, I2b, I2c, I2s, I2l, Ladd, Lsub, Lmul, Ldiv, Lrem, Lshl, Lshr, Lushr, Land, Lor, Lxor, Leq, Lcmp, Lneg, L2i}
use Rattle.pv_graph.specs.declared.node.Op.{Op}
use Rattle.pv_graph.specs.declared.node.Op.TheVariants as op
use Rattle.pv_match.specs.declared.found.Param.{Param}
use Rattle.pv_match.specs.declared.found.Param.TheVariants as param

-- the first row with a number
abbrev pub row_of : {A : Type 0} → List (ℕ × A) → ℕ → Option A
row_of [] n = None
row_of (row ∷ rows) n = if row.0 == n then Some row.1 else row_of rows n

abbrev pub or_else : {A : Type 0} → Option A → Option A → Option A
or_else (Some a) b = Some a
or_else None b = b

abbrev pub plain_rows : List (ℕ × Op)
plain_rows =
    (5, op.This) ∷ (6, op.Heap0) ∷ (7, op.Unit) ∷ (8, op.Never) ∷ (9, op.Clear) ∷ (10, op.FNull) ∷ (11, op.FArith) ∷ (12, op.FIndex) ∷ (13, op.Zero) ∷ (14, op.Succ) ∷ (15, op.Thrown) ∷ (16, op.IsClear) ∷ (17, op.Both) ∷ (18, op.Phi)
    ∷ (23, op.Root) ∷ (65, op.Aeq) ∷ (76, op.Length) ∷ []

abbrev pub int_rows : List (ℕ × ScalarOp)
int_rows =
    (30, Iadd) ∷ (31, Isub) ∷ (32, Imul) ∷ (33, Idiv) ∷ (34, Irem) ∷ (35, Ishl) ∷ (36, Ishr) ∷ (37, Iushr) ∷ (38, Iand) ∷ (39, Ior) ∷ (40, Ixor) ∷ (41, Ieq) ∷ (42, Ilt) ∷ (43, Ineg) ∷ (44, I2b) ∷ (45, I2c) ∷ (46, I2s) ∷ (47, I2l) ∷ []

abbrev pub long_rows : List (ℕ × ScalarOp)
long_rows =
    (50, Ladd) ∷ (51, Lsub) ∷ (52, Lmul) ∷ (53, Ldiv) ∷ (54, Lrem) ∷ (55, Lshl) ∷ (56, Lshr) ∷ (57, Lushr) ∷ (58, Land) ∷ (59, Lor) ∷ (60, Lxor) ∷ (61, Leq) ∷ (62, Lcmp) ∷ (63, Lneg) ∷ (64, L2i) ∷ []

abbrev pub depth_rows : ℕ → List (ℕ × Op)
depth_rows d = (19, op.Theta d) ∷ (20, op.Eval d) ∷ (21, op.Pass d) ∷ (22, op.Shift d) ∷ []

abbrev pub symbol_rows : Sym → List (ℕ × Op)
symbol_rows s = (70, op.GetStatic s) ∷ (71, op.PutStatic s) ∷ (72, op.GetField s) ∷ (73, op.PutField s) ∷ (80, op.CallEnd s) ∷ (81, op.CallRes s) ∷ (82, op.CallFault s) ∷ (83, op.CallHeap s) ∷ []

abbrev pub kind_rows : kinds.Kind → List (ℕ × Op)
kind_rows k = (74, op.Load k) ∷ (75, op.Store k) ∷ []

abbrev pub scalar_at : ℕ → Option ScalarOp
scalar_at n = or_else (row_of int_rows n) (row_of long_rows n)

-- the operation with this number that has no parameter
abbrev pub bare_at : ℕ → Option Op
bare_at n = or_else (option_map op.Scalar (scalar_at n)) (row_of plain_rows n)

-- the operation with this number and this parameter
abbrev pub op_with : ℕ → Param → Option Op
op_with n (param.Depth d) = row_of (depth_rows d) n
op_with n (param.Symbol s) = row_of (symbol_rows s) n
op_with n (param.Kind k) = row_of (kind_rows k) n
op_with n p = None

-- .. and these parameters, of which it has one at most
abbrev pub op_of : ℕ → List Param → Option Op
op_of n [] = bare_at n
op_of n (p ∷ ps) = op_with n p

-- how many parameters it has
abbrev pub count_of : ℕ → ℕ
count_of n = if is_some (bare_at n) then 0 else 1
