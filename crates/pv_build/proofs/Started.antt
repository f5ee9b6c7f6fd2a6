-- The operations with which a method begins.
use Rattle.std.proofs.Common.{◌≡◌, ℕ, zero, suc, ◌+◌, ◌<◌, ◌≤◌, Bool, true, false, List, [], ◌∷◌, ◌++◌, length, take, get_or, Some, slice_get, ◌⊎◌, inl, inr, refl, ap, ◌∙◌, subst, arith}
use Rattle.pv_build.proofs.Words.{take_more, JType, Sort, Op, param_ops, passed_ops, op_at, Graph, sort_over, Over, NoExp, Named, Reads, Grows, ReadsOver, HasItsSort, Cell, op_sort, IsCellOf, IsKnown, AreOpsOf, IsFirstOp, this_ops}
use Rattle.pv_value.specs.declared.descriptor.JType.TheVariants as jtype
use Rattle.pv_frame.specs.declared.sort.Sort.TheVariants as sort
use Rattle.pv_graph.specs.declared.node.Op.TheVariants as op
use Rattle.pv_graph.specs.declared.node.OpSort.TheVariants as opsort
use Rattle.pv_build.proofs.Kept.{has_no_kids, read_no_kids, cell_kept, reads_kept}

pub passed_is : (b : Bool) (types : List JType) → this_ops b ++ param_ops 0 types ≡ passed_ops b types
passed_is true types = refl
passed_is false types = refl

-- the operations of one parameter more
params_last : (j k : ℕ) (types : List JType) (t : JType) → j + length types ≡ k → param_ops j (types ++ t ∷ []) ≡ param_ops j types ++ param_ops k (t ∷ [])
params_last j k [] t e = ap (λ (n : ℕ). param_ops n (t ∷ [])) (let z : j ≡ k = omega arith in z)
params_last j k (jtype.J ∷ types) t e = ap (λ (os : List Op). op.Param j opsort.L ∷ op.Unit ∷ os) (params_last (suc j) k types t (omega arith))
params_last j k (jtype.A ∷ types) t e = ap (λ (os : List Op). op.Param j opsort.A ∷ os) (params_last (suc j) k types t (omega arith))
params_last j k (jtype.D ∷ types) t e = ap (λ (os : List Op). op.Unit ∷ op.Unit ∷ os) (params_last (suc j) k types t (omega arith))
params_last j k (jtype.F ∷ types) t e = ap (λ (os : List Op). op.Unit ∷ os) (params_last (suc j) k types t (omega arith))
params_last j k (jtype.Z ∷ types) t e = ap (λ (os : List Op). op.Param j opsort.I ∷ os) (params_last (suc j) k types t (omega arith))
params_last j k (jtype.B ∷ types) t e = ap (λ (os : List Op). op.Param j opsort.I ∷ os) (params_last (suc j) k types t (omega arith))
params_last j k (jtype.C ∷ types) t e = ap (λ (os : List Op). op.Param j opsort.I ∷ os) (params_last (suc j) k types t (omega arith))
params_last j k (jtype.S ∷ types) t e = ap (λ (os : List Op). op.Param j opsort.I ∷ os) (params_last (suc j) k types t (omega arith))
params_last j k (jtype.I ∷ types) t e = ap (λ (os : List Op). op.Param j opsort.I ∷ os) (params_last (suc j) k types t (omega arith))

take_length : {A : Type 0} → (xs : List A) (n : ℕ) → n ≤ length xs → length (take n xs) ≡ n
take_length xs zero le = refl
take_length [] (suc n) le = absurd (omega arith)
take_length (x ∷ xs) (suc n) le = ap suc (take_length xs n (omega arith))

pub params_more : (types : List JType) (n : ℕ) (d : JType) → n < length types → param_ops 0 (take (n + 1) types) ≡ param_ops 0 (take n types) ++ param_ops n (get_or types n d ∷ [])
params_more types n d low = ap (param_ops 0) (take_more types n d low) ∙ params_last 0 n (take n types) (get_or types n d) (let z : length (take n types) ≡ n = take_length types n (omega arith) in omega arith)

-- ---- the operation of a local

op_none : (ops : List Op) (k : ℕ) → length ops ≤ k → op.Unit ≡ op_at ops k
op_none [] k le = refl
op_none (o ∷ ops) zero le = absurd (omega arith)
op_none (o ∷ ops) (suc k) le = op_none ops k (omega arith)

op_some : (ops : List Op) (k : ℕ) (x : Op) → k < length ops → x ≡ get_or ops k x → x ≡ op_at ops k
op_some [] k x low e = absurd (omega arith)
op_some (o ∷ ops) zero x low e = e
op_some (o ∷ ops) (suc k) x low e = op_some ops k x (omega arith) e

abbrev pub IsOneOf : Sort → Type 0
IsOneOf t = (t ≡ sort.Int) ⊎ ((t ≡ sort.Long) ⊎ (t ≡ sort.Ref))

is_first : (ops : List Op) (k : ℕ) (t : Sort) (o : Op) → IsOneOf t → o ≡ op_at ops k → IsFirstOp ops k t o
is_first ops k sort.Int o is e = e
is_first ops k sort.Long o is e = e
is_first ops k sort.Ref o is e = e
is_first ops k sort.Unknown o (inl is) e = absurd (cc)
is_first ops k sort.Unknown o (inr (inl is)) e = absurd (cc)
is_first ops k sort.Unknown o (inr (inr is)) e = absurd (cc)

pub first_none : (ops : List Op) (k : ℕ) (t : Sort) → IsOneOf t → length ops ≤ k → IsFirstOp ops k t op.Unit
first_none ops k t is le = is_first ops k t op.Unit is (op_none ops k le)

pub first_some : (ops : List Op) (k : ℕ) (t : Sort) (x o : Op) → IsOneOf t → k < length ops → x ≡ get_or ops k x → o ≡ x → IsFirstOp ops k t o
first_some ops k t x o is low e same = is_first ops k t o is (same ∙ op_some ops k x low e)

first_is : (ops : List Op) (k : ℕ) (t : Sort) (o : Op) → IsFirstOp ops k t o → IsKnown t → o ≡ op_at ops k
first_is ops k sort.Int o is known = is
first_is ops k sort.Long o is known = is
first_is ops k sort.Ref o is known = is
first_is ops k sort.Unknown o is known = absurd (known refl)

-- it has the sort of the local
pub first_sort : (ops : List Op) (sorts : List Sort) (k : ℕ) (t : Sort) (o : Op) → AreOpsOf ops sorts → slice_get sorts k ≡ Some t → IsFirstOp ops k t o → sort_over o [] ≡ Some (op_sort t)
first_sort ops sorts k sort.Int o are at is = ap (λ (o : Op). sort_over o []) is ∙ are k sort.Int at (λ e. absurd (cc))
first_sort ops sorts k sort.Long o are at is = ap (λ (o : Op). sort_over o []) is ∙ are k sort.Long at (λ e. absurd (cc))
first_sort ops sorts k sort.Ref o are at is = ap (λ (o : Op). sort_over o []) is ∙ are k sort.Ref at (λ e. absurd (cc))
first_sort ops sorts k sort.Unknown o are at is = ap (λ (o : Op). sort_over o []) is

-- a cell of a local where the method begins
pub record StartCell (g : Graph) (ops : List Op) (sorts : List Sort) (i : ℕ) (c : Cell) : Type 0 where
  pub of : Sort
  pub at : slice_get sorts i ≡ Some of
  pub is : IsCellOf g c of
  pub reads : (names : List Named) → IsKnown c.sort → Reads g.nodes names c.node (Over (op_at ops i) NoExp)

pub start_cell_kept : (old new : Graph) → Grows old new → (ops : List Op) (sorts : List Sort) (i : ℕ) (c : Cell) → StartCell old ops sorts i c → StartCell new ops sorts i c
start_cell_kept old new grows ops sorts i c s = record { of = s.of; at = s.at; is = cell_kept old new grows c s.of s.is; reads = λ names known. reads_kept old new grows names c.node (Over (op_at ops i) NoExp) (s.reads names known) }

pub start_cell : (old new : Graph) (ops : List Op) (sorts : List Sort) (k : ℕ) (t : Sort) (o : Op) (n : ℕ) → AreOpsOf ops sorts → slice_get sorts k ≡ Some t → IsFirstOp ops k t o → ReadsOver old o [] new n → HasItsSort old o [] new n
    → StartCell new ops sorts k (record { sort = t; node = n })
start_cell old new ops sorts k t o n are at is reads sorted = record {
  of = t;
  at = at;
  is = (refl, sorted (op_sort t) (has_no_kids old o (op_sort t) (first_sort ops sorts k t o are at is)));
  reads = λ names known. subst (λ (o : Op). Reads new.nodes names n (Over o NoExp)) (first_is ops k t o is known) (read_no_kids old new names o n reads);
}

pub known_of : (t : Sort) → IsOneOf t → IsKnown t
known_of t (inl is) e = absurd (cc)
known_of t (inr (inl is)) e = absurd (cc)
known_of t (inr (inr is)) e = absurd (cc)
