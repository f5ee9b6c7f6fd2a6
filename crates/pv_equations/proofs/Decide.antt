-- Whether two expressions are equal as written. Operations are compared by codes, which are lists of lists of numbers.
use Rattle.std.proofs.Common.{◌≡◌, ◌≢◌, ℕ, ℤ, pos, negsuc, List, [], ◌∷◌, ◌⊎◌, inl, inr, ⊎_elim, refl, sym, ap, ◌∙◌, arith, ◌==◌, if◌then◌else◌}
use Rattle.pv_equations.proofs.Words.{Op, Exp, Exps, Name, Over, NoExp, Then}
use Rattle.pv_value.specs.declared.name.Sym.{Sym}
use Rattle.pv_value.specs.declared.heap.Kind.{Kind}
use Rattle.pv_value.specs.declared.heap.Kind.TheVariants as kind
use Rattle.pv_value.specs.declared.operation.ScalarOp.{ScalarOp}
use Rattle.pv_value.specs.declared.operation.ScalarOp.TheVariants as scalar
use Rattle.pv_graph.specs.declared.node.Op.TheVariants as op
use Rattle.pv_graph.specs.declared.node.OpSort.{OpSort}
use Rattle.pv_graph.specs.declared.node.OpSort.TheVariants as sort

-- ---- numbers, and lists of them

num : (a b : ℕ) → (a ≡ b) ⊎ (a ≢ b)
num a b = grind arith

list : {A : Type 0} → ((a b : A) → (a ≡ b) ⊎ (a ≢ b)) → (xs ys : List A) → (xs ≡ ys) ⊎ (xs ≢ ys)
list same [] [] = inl refl
list same [] (y ∷ ys) = inr (λ e. absurd (cc))
list same (x ∷ xs) [] = inr (λ e. absurd (cc))
list {A} same (x ∷ xs) (y ∷ ys) = ⊎_elim
    (λ p. ⊎_elim (λ q. inl (ap (λ (z : A). z ∷ xs) p ∙ ap (λ (zs : List A). y ∷ zs) q)) (λ n. inr (λ e. n (let z : xs ≡ ys = cc in z))) (list same xs ys))
    (λ n. inr (λ e. n (let z : x ≡ y = cc in z))) (same x y)

abbrev pub Code : Type 0
Code = List (List ℕ)

code : (a b : Code) → (a ≡ b) ⊎ (a ≢ b)
code a b = list (λ x y. list num x y) a b

-- what codes tell apart
by_code : {A : Type 0} (to : A → Code) (from : Code → A) → ((a : A) → from (to a) ≡ a) → (a b : A) → (a ≡ b) ⊎ (a ≢ b)
by_code to from back a b = ⊎_elim (λ e. inl (sym (back a) ∙ ap from e ∙ back b)) (λ n. inr (λ e. n (ap to e))) (code (to a) (to b))

-- ---- codes of what operations hold

abbrev of_number : ℤ → List ℕ
of_number (pos n) = 0 ∷ n ∷ []
of_number (negsuc n) = 1 ∷ n ∷ []

abbrev number : List ℕ → ℤ
number (t ∷ n ∷ []) = if t == 0 then pos n else negsuc n
number ns = pos 0

number_back : (n : ℤ) → number (of_number n) ≡ n
number_back (pos n) = refl
number_back (negsuc n) = refl

abbrev of_sort : OpSort → ℕ
of_sort sort.I = 0
of_sort sort.L = 1
of_sort sort.A = 2
of_sort sort.N = 3
of_sort sort.F = 4
of_sort sort.T = 5
of_sort sort.H = 6
of_sort sort.R = 7

abbrev sort_of : ℕ → OpSort
sort_of n = if n == 0 then sort.I else if n == 1 then sort.L else if n == 2 then sort.A else if n == 3 then sort.N else if n == 4 then sort.F else if n == 5 then sort.T else if n == 6 then sort.H else sort.R

sort_back : (v : OpSort) → sort_of (of_sort v) ≡ v
sort_back sort.I = refl
sort_back sort.L = refl
sort_back sort.A = refl
sort_back sort.N = refl
sort_back sort.F = refl
sort_back sort.T = refl
sort_back sort.H = refl
sort_back sort.R = refl

abbrev of_kind : Kind → ℕ
of_kind kind.Int = 0
of_kind kind.Long = 1
of_kind kind.Ref = 2
of_kind kind.Byte = 3
of_kind kind.Char = 4
of_kind kind.Short = 5

abbrev kind_of : ℕ → Kind
kind_of n = if n == 0 then kind.Int else if n == 1 then kind.Long else if n == 2 then kind.Ref else if n == 3 then kind.Byte else if n == 4 then kind.Char else kind.Short

kind_back : (v : Kind) → kind_of (of_kind v) ≡ v
kind_back kind.Int = refl
kind_back kind.Long = refl
kind_back kind.Ref = refl
kind_back kind.Byte = refl
kind_back kind.Char = refl
kind_back kind.Short = refl

abbrev of_scalar : ScalarOp → ℕ
of_scalar scalar.Iadd = 0
of_scalar scalar.Isub = 1
of_scalar scalar.Imul = 2
of_scalar scalar.Idiv = 3
of_scalar scalar.Irem = 4
of_scalar scalar.Ishl = 5
of_scalar scalar.Ishr = 6
of_scalar scalar.Iushr = 7
of_scalar scalar.Iand = 8
of_scalar scalar.Ior = 9
of_scalar scalar.Ixor = 10
of_scalar scalar.Ieq = 11
of_scalar scalar.Ilt = 12
of_scalar scalar.Ineg = 13
of_scalar scalar.I2b = 14
of_scalar scalar.I2c = 15
of_scalar scalar.I2s = 16
of_scalar scalar.I2l = 17
of_scalar scalar.Ladd = 18
of_scalar scalar.Lsub = 19
of_scalar scalar.Lmul = 20
of_scalar scalar.Ldiv = 21
of_scalar scalar.Lrem = 22
of_scalar scalar.Lshl = 23
of_scalar scalar.Lshr = 24
of_scalar scalar.Lushr = 25
of_scalar scalar.Land = 26
of_scalar scalar.Lor = 27
of_scalar scalar.Lxor = 28
of_scalar scalar.Leq = 29
of_scalar scalar.Lcmp = 30
of_scalar scalar.Lneg = 31
of_scalar scalar.L2i = 32

abbrev scalar_of : ℕ → ScalarOp
scalar_of n = if n == 0 then scalar.Iadd else if n == 1 then scalar.Isub else if n == 2 then scalar.Imul else if n == 3 then scalar.Idiv else if n == 4 then scalar.Irem else if n == 5 then scalar.Ishl else if n == 6 then scalar.Ishr else if n == 7 then scalar.Iushr else if n == 8 then scalar.Iand else if n == 9 then scalar.Ior else if n == 10 then scalar.Ixor else if n == 11 then scalar.Ieq else if n == 12 then scalar.Ilt else if n == 13 then scalar.Ineg else if n == 14 then scalar.I2b else if n == 15 then scalar.I2c else if n == 16 then scalar.I2s else if n == 17 then scalar.I2l else if n == 18 then scalar.Ladd else if n == 19 then scalar.Lsub else if n == 20 then scalar.Lmul else if n == 21 then scalar.Ldiv else if n == 22 then scalar.Lrem else if n == 23 then scalar.Lshl else if n == 24 then scalar.Lshr else if n == 25 then scalar.Lushr else if n == 26 then scalar.Land else if n == 27 then scalar.Lor else if n == 28 then scalar.Lxor else if n == 29 then scalar.Leq else if n == 30 then scalar.Lcmp else if n == 31 then scalar.Lneg else scalar.L2i

scalar_back : (v : ScalarOp) → scalar_of (of_scalar v) ≡ v
scalar_back scalar.Iadd = refl
scalar_back scalar.Isub = refl
scalar_back scalar.Imul = refl
scalar_back scalar.Idiv = refl
scalar_back scalar.Irem = refl
scalar_back scalar.Ishl = refl
scalar_back scalar.Ishr = refl
scalar_back scalar.Iushr = refl
scalar_back scalar.Iand = refl
scalar_back scalar.Ior = refl
scalar_back scalar.Ixor = refl
scalar_back scalar.Ieq = refl
scalar_back scalar.Ilt = refl
scalar_back scalar.Ineg = refl
scalar_back scalar.I2b = refl
scalar_back scalar.I2c = refl
scalar_back scalar.I2s = refl
scalar_back scalar.I2l = refl
scalar_back scalar.Ladd = refl
scalar_back scalar.Lsub = refl
scalar_back scalar.Lmul = refl
scalar_back scalar.Ldiv = refl
scalar_back scalar.Lrem = refl
scalar_back scalar.Lshl = refl
scalar_back scalar.Lshr = refl
scalar_back scalar.Lushr = refl
scalar_back scalar.Land = refl
scalar_back scalar.Lor = refl
scalar_back scalar.Lxor = refl
scalar_back scalar.Leq = refl
scalar_back scalar.Lcmp = refl
scalar_back scalar.Lneg = refl
scalar_back scalar.L2i = refl

abbrev first : Code → List ℕ
first [] = []
first (x ∷ xs) = x

abbrev rest : Code → Code
rest [] = []
rest (x ∷ xs) = xs

abbrev at_0 : List ℕ → ℕ
at_0 [] = 0
at_0 (n ∷ ns) = n

abbrev at_1 : List ℕ → ℕ
at_1 [] = 0
at_1 (n ∷ ns) = at_0 ns

abbrev of_symbol : Sym → Code
of_symbol s = s.class ∷ s.name ∷ s.desc ∷ []

abbrev symbol : Code → Sym
symbol c = record { class = first c; name = first (rest c); desc = first (rest (rest c)) }

-- ---- operations

abbrev pub of_op : Op → Code
of_op (op.Int c) = (0 ∷ []) ∷ of_number c ∷ []
of_op (op.Long c) = (1 ∷ []) ∷ of_number c ∷ []
of_op op.Null = (2 ∷ []) ∷ []
of_op (op.Literal t) = (3 ∷ []) ∷ t ∷ []
of_op (op.Param j s) = (4 ∷ []) ∷ (j ∷ of_sort s ∷ []) ∷ []
of_op op.This = (5 ∷ []) ∷ []
of_op op.Heap0 = (6 ∷ []) ∷ []
of_op op.Unit = (7 ∷ []) ∷ []
of_op op.Never = (8 ∷ []) ∷ []
of_op op.Clear = (9 ∷ []) ∷ []
of_op op.FNull = (10 ∷ []) ∷ []
of_op op.FArith = (11 ∷ []) ∷ []
of_op op.FIndex = (12 ∷ []) ∷ []
of_op op.Zero = (13 ∷ []) ∷ []
of_op op.Succ = (14 ∷ []) ∷ []
of_op op.Thrown = (15 ∷ []) ∷ []
of_op op.IsClear = (16 ∷ []) ∷ []
of_op op.Both = (17 ∷ []) ∷ []
of_op op.Phi = (18 ∷ []) ∷ []
of_op (op.Theta d) = (19 ∷ []) ∷ (d ∷ []) ∷ []
of_op (op.Eval d) = (20 ∷ []) ∷ (d ∷ []) ∷ []
of_op (op.Pass d) = (21 ∷ []) ∷ (d ∷ []) ∷ []
of_op (op.Shift d) = (22 ∷ []) ∷ (d ∷ []) ∷ []
of_op op.Root = (23 ∷ []) ∷ []
of_op (op.Scalar o) = (24 ∷ []) ∷ (of_scalar o ∷ []) ∷ []
of_op op.Aeq = (25 ∷ []) ∷ []
of_op (op.GetStatic s) = (26 ∷ []) ∷ of_symbol s
of_op (op.PutStatic s) = (27 ∷ []) ∷ of_symbol s
of_op (op.GetField s) = (28 ∷ []) ∷ of_symbol s
of_op (op.PutField s) = (29 ∷ []) ∷ of_symbol s
of_op (op.Load k) = (30 ∷ []) ∷ (of_kind k ∷ []) ∷ []
of_op (op.Store k) = (31 ∷ []) ∷ (of_kind k ∷ []) ∷ []
of_op op.Length = (32 ∷ []) ∷ []
of_op (op.CallEnd s) = (33 ∷ []) ∷ of_symbol s
of_op (op.CallRes s) = (34 ∷ []) ∷ of_symbol s
of_op (op.CallFault s) = (35 ∷ []) ∷ of_symbol s
of_op (op.CallHeap s) = (36 ∷ []) ∷ of_symbol s
of_op (op.Var j s) = (37 ∷ []) ∷ (j ∷ of_sort s ∷ []) ∷ []

abbrev op_at : ℕ → Code → Op
op_at n c = if n == 0 then op.Int (number (first c)) else if n == 1 then op.Long (number (first c)) else if n == 2 then op.Null else if n == 3 then op.Literal (first c) else if n == 4 then op.Param (at_0 (first c)) (sort_of (at_1 (first c))) else if n == 5 then op.This else if n == 6 then op.Heap0 else if n == 7 then op.Unit else if n == 8 then op.Never else if n == 9 then op.Clear else if n == 10 then op.FNull else if n == 11 then op.FArith else if n == 12 then op.FIndex else if n == 13 then op.Zero else if n == 14 then op.Succ else if n == 15 then op.Thrown else if n == 16 then op.IsClear else if n == 17 then op.Both else if n == 18 then op.Phi else if n == 19 then op.Theta (at_0 (first c)) else if n == 20 then op.Eval (at_0 (first c)) else if n == 21 then op.Pass (at_0 (first c)) else if n == 22 then op.Shift (at_0 (first c)) else if n == 23 then op.Root else if n == 24 then op.Scalar (scalar_of (at_0 (first c))) else if n == 25 then op.Aeq else if n == 26 then op.GetStatic (symbol c) else if n == 27 then op.PutStatic (symbol c) else if n == 28 then op.GetField (symbol c) else if n == 29 then op.PutField (symbol c) else if n == 30 then op.Load (kind_of (at_0 (first c))) else if n == 31 then op.Store (kind_of (at_0 (first c))) else if n == 32 then op.Length else if n == 33 then op.CallEnd (symbol c) else if n == 34 then op.CallRes (symbol c) else if n == 35 then op.CallFault (symbol c) else if n == 36 then op.CallHeap (symbol c) else op.Var (at_0 (first c)) (sort_of (at_1 (first c)))

abbrev pub op_of : Code → Op
op_of c = op_at (at_0 (first c)) (rest c)

pub op_back : (o : Op) → op_of (of_op o) ≡ o
op_back (op.Int c) = ap op.Int (number_back c)
op_back (op.Long c) = ap op.Long (number_back c)
op_back op.Null = refl
op_back (op.Literal t) = refl
op_back (op.Param j s) = ap (op.Param j) (sort_back s)
op_back op.This = refl
op_back op.Heap0 = refl
op_back op.Unit = refl
op_back op.Never = refl
op_back op.Clear = refl
op_back op.FNull = refl
op_back op.FArith = refl
op_back op.FIndex = refl
op_back op.Zero = refl
op_back op.Succ = refl
op_back op.Thrown = refl
op_back op.IsClear = refl
op_back op.Both = refl
op_back op.Phi = refl
op_back (op.Theta d) = refl
op_back (op.Eval d) = refl
op_back (op.Pass d) = refl
op_back (op.Shift d) = refl
op_back op.Root = refl
op_back (op.Scalar o) = ap op.Scalar (scalar_back o)
op_back op.Aeq = refl
op_back (op.GetStatic s) = refl
op_back (op.PutStatic s) = refl
op_back (op.GetField s) = refl
op_back (op.PutField s) = refl
op_back (op.Load k) = ap op.Load (kind_back k)
op_back (op.Store k) = ap op.Store (kind_back k)
op_back op.Length = refl
op_back (op.CallEnd s) = refl
op_back (op.CallRes s) = refl
op_back (op.CallFault s) = refl
op_back (op.CallHeap s) = refl
op_back (op.Var j s) = ap (op.Var j) (sort_back s)

pub operation : (a b : Op) → (a ≡ b) ⊎ (a ≢ b)
operation a b = by_code of_op op_of op_back a b

-- ---- expressions

mutual
  pub exp : (a b : Exp) → (a ≡ b) ⊎ (a ≢ b)
  exp (Name h s) (Name k t) = ⊎_elim
      (λ x. ⊎_elim (λ y. inl (ap (λ (h : ℕ). Name h s) x ∙ ap (Name k) y)) (λ n. inr (λ e. n (let z : s ≡ t = cc in z))) (num s t))
      (λ n. inr (λ e. n (let z : h ≡ k = cc in z))) (num h k)
  exp (Over o es) (Over p fs) = ⊎_elim
      (λ x. ⊎_elim (λ y. inl (ap (λ (o : Op). Over o es) x ∙ ap (Over p) y)) (λ n. inr (λ e. n (let z : es ≡ fs = cc in z))) (exps es fs))
      (λ n. inr (λ e. n (let z : o ≡ p = cc in z))) (operation o p)
  exp (Name h s) (Over p fs) = inr (λ e. absurd (cc))
  exp (Over o es) (Name k t) = inr (λ e. absurd (cc))

  exps : (a b : Exps) → (a ≡ b) ⊎ (a ≢ b)
  exps NoExp NoExp = inl refl
  exps (Then a es) (Then b fs) = ⊎_elim
      (λ x. ⊎_elim (λ y. inl (ap (λ (a : Exp). Then a es) x ∙ ap (Then b) y)) (λ n. inr (λ e. n (let z : es ≡ fs = cc in z))) (exps es fs))
      (λ n. inr (λ e. n (let z : a ≡ b = cc in z))) (exp a b)
  exps NoExp (Then b fs) = inr (λ e. absurd (cc))
  exps (Then a es) NoExp = inr (λ e. absurd (cc))
