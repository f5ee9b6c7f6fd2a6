-- Parts of the sorts of operations, as the code has them.
use Rattle.std.specs.Prelude.{◌≡◌, ℕ, Bool, false, ◌==◌, List, map, Option, Some, None, if◌then◌else◌}
use Rattle.pv_value.specs.declared.operation.ScalarOp.{ScalarOp}
use Rattle.pv_value.specs.declared.name.Sym.{Sym}
use Rattle.pv_value.specs.Operations.{takes, gives}
use Rattle.pv_value.specs.Spelled.{bind}
use Rattle.pv_graph.specs.declared.node.Op.{Op}
use Rattle.pv_graph.specs.declared.node.Op.TheVariants as op
use Rattle.pv_graph.specs.declared.node.OpSort.{OpSort}
use Rattle.pv_graph.specs.declared.node.OpSort.TheVariants.{I, L, A, N, F, T, H, R}
use Rattle.pv_graph.specs.Ops.{exactly, word_sort, kind_sort, field_sort, call_sorts, is_depth}

-- the sort of an operation on numbers
abbrev pub scalar_sort : ScalarOp → List OpSort → Option OpSort
scalar_sort o ks = exactly (map word_sort (takes o)) (word_sort (gives o)) ks

-- the sort, where the depth is one of loops
abbrev pub in_loop : ℕ → Option OpSort → Option OpSort
in_loop d sort = if is_depth d then sort else None

-- an operation on this field
abbrev pub IsOnField : Op → Sym → Type 0
IsOnField (op.GetStatic s) sym = s ≡ sym
IsOnField (op.PutStatic s) sym = s ≡ sym
IsOnField (op.GetField s) sym = s ≡ sym
IsOnField (op.PutField s) sym = s ≡ sym
IsOnField o sym = ⊥

-- the sort of a call's result, if it has one
abbrev pub own_result : Sym → Option OpSort
own_result s = bind (call_sorts s) (λ c. c.result)

-- the sort that an operation gives, whatever its kids are
abbrev pub own_sort : Op → Option OpSort
own_sort (op.Int c) = Some I
own_sort (op.Long c) = Some L
own_sort op.Null = Some A
own_sort (op.Literal t) = Some A
own_sort (op.Param j s) = Some s
own_sort op.This = Some A
own_sort op.Heap0 = Some H
own_sort op.Unit = Some T
own_sort op.Never = Some T
own_sort op.Clear = Some F
own_sort op.FNull = Some F
own_sort op.FArith = Some F
own_sort op.FIndex = Some F
own_sort op.Zero = Some N
own_sort op.Succ = Some N
own_sort op.Thrown = Some F
own_sort op.IsClear = Some I
own_sort op.Both = Some T
own_sort (op.Pass d) = Some N
own_sort op.Root = Some R
own_sort (op.Scalar o) = Some (word_sort (gives o))
own_sort op.Aeq = Some I
own_sort (op.GetStatic s) = field_sort s
own_sort (op.PutStatic s) = Some H
own_sort (op.GetField s) = field_sort s
own_sort (op.PutField s) = Some H
own_sort (op.Load k) = Some (kind_sort k)
own_sort (op.Store k) = Some H
own_sort op.Length = Some I
own_sort (op.CallEnd s) = Some T
own_sort (op.CallRes s) = own_result s
own_sort (op.CallFault s) = Some F
own_sort (op.CallHeap s) = Some H
own_sort (op.Var j s) = Some s
own_sort o = None

-- the kid at this place is the one whose sort the operation takes: a phi's second, and the first of a theta, an eval or a shift
abbrev pub is_source : Op → ℕ → Bool
is_source op.Phi place = place == 1
is_source (op.Theta d) place = place == 0
is_source (op.Eval d) place = place == 0
is_source (op.Shift d) place = place == 0
is_source o place = false
