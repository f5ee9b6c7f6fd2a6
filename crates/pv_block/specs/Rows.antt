-- The tests and exits of each instruction as data, over the heap and its operands, and the chain that they are.
use Rattle.std.specs.Prelude.{◌≡◌, ℕ, suc, pos, Bool, true, false, List, [], ◌∷◌, Option, Some, None, if◌then◌else◌}
use Rattle.std.specs.List.{AllByRecursion}
use Rattle.pv_pool.specs.Readers.{◌>>=◌}
use Rattle.pv_value.specs.declared.descriptor.JType.{JType}
use Rattle.pv_value.specs.declared.descriptor.JType.TheVariants as jtype
use Rattle.pv_value.specs.declared.name.Sym.{Sym}
use Rattle.pv_value.specs.declared.operation.ScalarOp.{ScalarOp}
use Rattle.pv_value.specs.declared.operation.ScalarOp.TheVariants.{Iand, Ieq, Ilt, I2b, I2c, I2s, Leq}
use Rattle.pv_value.specs.Operations as operation
use Rattle.pv_insn.specs.declared.insn.Case.{Case}
use Rattle.pv_types.specs.Facts as types
use Rattle.pv_frame.specs.declared.sort.Sort.{Sort}
use Rattle.pv_frame.specs.declared.sort.Sort.TheVariants as sort
use Rattle.pv_frame.specs.declared.action.Comparison.{Comparison}
use Rattle.pv_frame.specs.declared.action.Comparison.TheVariants as comparison
use Rattle.pv_frame.specs.declared.action.Test.{Test}
use Rattle.pv_frame.specs.declared.action.Test.TheVariants as test
use Rattle.pv_frame.specs.declared.action.Action.{Action}
use Rattle.pv_frame.specs.declared.action.Action.TheVariants as act
use Rattle.pv_frame.specs.Stacks.{fits}
use Rattle.pv_frame.specs.Effects.{sort_of_word}
use Rattle.pv_graph.specs.declared.node.Op.TheVariants as op
use Rattle.pv_graph.specs.declared.node.Node.{Node}
use Rattle.pv_graph.specs.declared.node.OpSort.{OpSort}
use Rattle.pv_graph.specs.declared.node.OpSort.TheVariants.{I, F}
use Rattle.pv_graph.specs.Ops.{HaveSorts}
use Rattle.pv_graph.specs.Graphs.{Graph}
use Rattle.pv_equations.specs.Flow as flow
use Rattle.pv_equations.specs.Flow.{Part, Exit, Chain, Leave}
use Rattle.pv_terms.specs.Reads.{Stand}
use Rattle.pv_runs.specs.Held.{unit_part}
use Rattle.pv_runs.specs.Held as parts
use Rattle.pv_runs.specs.Chains.{to, throw}
use Rattle.pv_runs.specs.Chains as chains
use Rattle.pv_block.specs.declared.held.Cell.{Cell}
use Rattle.pv_block.specs.declared.held.Held.{Held}
use Rattle.pv_block.specs.declared.line.Line.{Line}
use Rattle.pv_block.specs.declared.line.Kid.{Kid}
use Rattle.pv_block.specs.declared.line.Kid.TheVariants.{Given, Made}
use Rattle.pv_block.specs.declared.line.Kids.TheVariants.{WithHeap, Zero, One, Two, Three}
use Rattle.pv_block.specs.declared.row.Row.{Row}
use Rattle.pv_block.specs.declared.row.Way.{Way}
use Rattle.pv_block.specs.declared.row.Way.TheVariants.{Goes, GoesWith, Throws, ThrowsAfter, Gives, Ends}
use Rattle.pv_block.specs.declared.ran.Ending.{Ending}
use Rattle.pv_block.specs.declared.ran.Leaving.{Leaving}
use Rattle.pv_block.specs.declared.ran.Ran.{Ran}
use Rattle.pv_block.specs.declared.ran.Leaving.TheVariants as leaving
use Rattle.pv_block.specs.Sorted.{op_sort}
use Rattle.pv_block.specs.Standing.{Entry, HoldsFor}
use Rattle.pv_block.specs.Lines.{line, pick, all_made, sort_made, part_made, node_at, Stands}
use Rattle.pv_block.specs.Leaving.{state_of, ended, faulted, EndsFor, LeavesBy, AreSortedExits}

-- ---- actions that go on

abbrev pub only : Way → Row
only w = record { lines = []; tests = []; exits = w ∷ [] }

abbrev pub compares : Comparison → Kid → Kid → Line
compares comparison.Eq a b = line (op.Scalar Ieq) (Two a b)
compares comparison.Ne a b = line (op.Scalar Ieq) (Two a b)
compares comparison.Lt a b = line (op.Scalar Ilt) (Two a b)
compares comparison.Ge a b = line (op.Scalar Ilt) (Two a b)
compares comparison.Gt a b = line (op.Scalar Ilt) (Two b a)
compares comparison.Le a b = line (op.Scalar Ilt) (Two b a)

-- whether a branch is taken where the test is true
abbrev pub on_true : Comparison → Bool
on_true comparison.Eq = true
on_true comparison.Lt = true
on_true comparison.Gt = true
on_true c = false

abbrev pub ways : Bool → ℕ → ℕ → List Way
ways true target next = Goes target ∷ Goes next ∷ []
ways false target next = Goes next ∷ Goes target ∷ []

abbrev pub zero_branch : Comparison → ℕ → ℕ → Row
zero_branch c target next = record { lines = line (op.Int (pos 0)) Zero ∷ compares c (Given 2) (Made 0) ∷ []; tests = Made 1 ∷ []; exits = ways (on_true c) target next }

abbrev pub ints_branch : Comparison → ℕ → ℕ → Row
ints_branch c target next = record { lines = compares c (Given 2) (Given 3) ∷ []; tests = Made 0 ∷ []; exits = ways (on_true c) target next }

abbrev pub same_branch : Bool → ℕ → ℕ → Row
same_branch b target next = record { lines = line op.Aeq (Two (Given 2) (Given 3)) ∷ []; tests = Made 0 ∷ []; exits = ways b target next }

abbrev pub null_branch : Bool → ℕ → ℕ → Row
null_branch b target next = record { lines = line op.Null Zero ∷ line op.Aeq (Two (Given 2) (Made 0)) ∷ []; tests = Made 1 ∷ []; exits = ways b target next }

abbrev pub branch : Test → ℕ → ℕ → Row
branch (test.Zero c) target next = zero_branch c target next
branch (test.Ints c) target next = ints_branch c target next
branch test.Same target next = same_branch true target next
branch test.Other target next = same_branch false target next
branch test.Null target next = null_branch true target next
branch test.NonNull target next = null_branch false target next

-- two lines for each case, after k others, and the test that the second makes
abbrev pub case_lines : ℕ → List Case → List Line
case_lines k [] = []
case_lines k (c ∷ cs) = line (op.Int c.key) Zero ∷ line (op.Scalar Ieq) (Two (Given 2) (Made k)) ∷ case_lines (suc (suc k)) cs

abbrev pub case_tests : ℕ → List Case → List Kid
case_tests k [] = []
case_tests k (c ∷ cs) = Made (suc k) ∷ case_tests (suc (suc k)) cs

abbrev pub case_exits : ℕ → List Case → List Way
case_exits default [] = Goes default ∷ []
case_exits default (c ∷ cs) = Goes c.target ∷ case_exits default cs

abbrev pub switch : ℕ → List Case → Row
switch default cases = record { lines = case_lines 0 cases; tests = case_tests 0 cases; exits = case_exits default cases }

abbrev pub unless_zero : Sort → ℕ → Row
unless_zero sort.Long next = record { lines = line (op.Long (pos 0)) Zero ∷ line (op.Scalar Leq) (Two (Given 3) (Made 0)) ∷ line op.FArith Zero ∷ []; tests = Made 1 ∷ []; exits = Throws (Made 2) ∷ Goes next ∷ [] }
unless_zero s next = record { lines = line (op.Int (pos 0)) Zero ∷ line (op.Scalar Ieq) (Two (Given 3) (Made 0)) ∷ line op.FArith Zero ∷ []; tests = Made 1 ∷ []; exits = Throws (Made 2) ∷ Goes next ∷ [] }

abbrev pub unless_null : ℕ → Row
unless_null next = record { lines = line op.Null Zero ∷ line op.Aeq (Two (Given 2) (Made 0)) ∷ line op.FNull Zero ∷ []; tests = Made 1 ∷ []; exits = Throws (Made 2) ∷ Goes next ∷ [] }

abbrev pub within : ℕ → Row
within next = record {
  lines =
      line op.Null Zero
      ∷ line op.Aeq (Two (Given 2) (Made 0))
      ∷ line (op.Int (pos 0)) Zero
      ∷ line (op.Scalar Ilt) (Two (Given 3) (Made 2))
      ∷ line op.Length (One (Given 2))
      ∷ line (op.Scalar Ilt) (Two (Given 3) (Made 4))
      ∷ line op.FNull Zero
      ∷ line op.FIndex Zero
      ∷ [];
  tests = Made 1 ∷ Made 3 ∷ Made 5 ∷ [];
  exits = Throws (Made 6) ∷ Throws (Made 7) ∷ Goes next ∷ Throws (Made 7) ∷ [];
}

abbrev pub stores_ref : ℕ → Row
stores_ref next = record {
  lines =
      line op.Null Zero
      ∷ line op.Aeq (Two (Given 2) (Made 0))
      ∷ line (op.Int (pos 0)) Zero
      ∷ line (op.Scalar Ilt) (Two (Given 3) (Made 2))
      ∷ line op.Length (One (Given 2))
      ∷ line (op.Scalar Ilt) (Two (Given 3) (Made 4))
      ∷ line (op.Scalar Ieq) (Two (Made 5) (Made 2))
      ∷ line op.Aeq (Two (Given 4) (Made 0))
      ∷ line op.Heap0 Zero
      ∷ line (op.CallRes types.fits_sym) (Three (Made 8) (Given 2) (Given 4))
      ∷ line op.FNull Zero
      ∷ line op.FIndex Zero
      ∷ line (op.Literal types.store_text) Zero
      ∷ line op.Thrown (One (Made 12))
      ∷ [];
  tests = Made 1 ∷ Made 3 ∷ Made 6 ∷ Made 7 ∷ Made 9 ∷ [];
  exits = Throws (Made 10) ∷ Throws (Made 11) ∷ Throws (Made 11) ∷ Goes next ∷ Goes next ∷ Throws (Made 13) ∷ [];
}

-- whether the first operand, an object, is of a class; what the world tells stands at this heap
abbrev pub is_of : List ℕ → Kid → Line
is_of class start = line (op.CallRes (types.is_sym class)) (Two start (Given 2))

-- the object of a literal that is thrown by a cast
abbrev pub cast_literal : Line
cast_literal = line (op.Literal types.cast_text) Zero

abbrev pub unless_other : List ℕ → ℕ → Row
unless_other class next = record {
  lines =
      line op.Null Zero
      ∷ line op.Aeq (Two (Given 2) (Made 0))
      ∷ line op.Heap0 Zero
      ∷ is_of class (Made 2)
      ∷ cast_literal
      ∷ line op.Thrown (One (Made 4))
      ∷ [];
  tests = Made 1 ∷ Made 3 ∷ [];
  exits = Goes next ∷ Goes next ∷ Throws (Made 5) ∷ [];
}

abbrev pub asks_class : List ℕ → ℕ → Row
asks_class class next = record {
  lines =
      line (op.Int (pos 1)) Zero
      ∷ line op.Null Zero
      ∷ line op.Aeq (Two (Given 2) (Made 1))
      ∷ line op.Heap0 Zero
      ∷ is_of class (Made 3)
      ∷ [];
  tests = Made 2 ∷ Made 4 ∷ [];
  exits = Goes next ∷ GoesWith next (Made 0) ∷ Goes next ∷ [];
}

abbrev pub unless_thrown : Sym → ℕ → Row
unless_thrown f next = record { lines = line (op.CallFault f) WithHeap ∷ line op.IsClear (One (Made 0)) ∷ []; tests = Made 1 ∷ []; exits = Goes next ∷ ThrowsAfter (Made 0) ∷ [] }

abbrev pub unless_null_or_thrown : Sym → ℕ → Row
unless_null_or_thrown f next = record {
  lines = line (op.CallFault f) WithHeap ∷ line op.Null Zero ∷ line op.Aeq (Two (Given 2) (Made 1)) ∷ line op.FNull Zero ∷ line op.IsClear (One (Made 0)) ∷ [];
  tests = Made 2 ∷ Made 4 ∷ [];
  exits = Throws (Made 3) ∷ Goes next ∷ ThrowsAfter (Made 0) ∷ [];
}

-- ---- actions that end the method

abbrev pub narrowed : ScalarOp → Row
narrowed o = record { lines = line (op.Scalar o) (One (Given 2)) ∷ []; tests = []; exits = Gives (Made 0) ∷ [] }

abbrev pub give : Option JType → Row
give None = only Ends
give (Some jtype.Z) = record { lines = line (op.Int (pos 1)) Zero ∷ line (op.Scalar Iand) (Two (Given 2) (Made 0)) ∷ []; tests = []; exits = Gives (Made 1) ∷ [] }
give (Some jtype.B) = narrowed I2b
give (Some jtype.C) = narrowed I2c
give (Some jtype.S) = narrowed I2s
give (Some t) = only (Gives (Given 2))

abbrev pub throw_row : Row
throw_row = record {
  lines = line op.Null Zero ∷ line op.Aeq (Two (Given 2) (Made 0)) ∷ line op.FNull Zero ∷ line op.Thrown (One (Given 2)) ∷ [];
  tests = Made 1 ∷ [];
  exits = Throws (Made 2) ∷ Throws (Made 3) ∷ [];
}

-- ---- all actions

abbrev pub row_for : Option JType → ℕ → Action → Row
row_for result next (act.Branch t target) = branch t target next
row_for result next (act.Jump target) = only (Goes target)
row_for result next (act.Switch default cases) = switch default cases
row_for result next (act.Divide o) = unless_zero (sort_of_word (operation.gives o)) next
row_for result next (act.GetField t f) = unless_null next
row_for result next (act.PutField t f) = unless_null next
row_for result next act.Length = unless_null next
row_for result next (act.LoadElement k) = within next
row_for result next (act.StoreElement k) = within next
row_for result next act.StoreRef = stores_ref next
row_for result next (act.Cast class) = unless_other class next
row_for result next (act.InstanceOf class) = asks_class class next
row_for result next (act.Call d f) = unless_thrown f next
row_for result next (act.CallOn d f) = unless_null_or_thrown f next
row_for result next (act.Give s) = give result
row_for result next act.Throw = throw_row
row_for result next a = only (Goes next)

-- ---- a row in parts

-- another int in place of the one on top of the stack
abbrev pub with_int : Part → List parts.Cell → Option (List parts.Cell)
with_int p [] = None
with_int p (c ∷ cs) = if fits c.sort sort.Int then Some (record { sort = sort.Int; part = p } ∷ cs) else None

-- the exit of a way, where h is held before the action without its operands, and o after it
abbrev pub exit_by : List Part → List Part → parts.Held → Option parts.Held → Way → Option Exit
exit_by given made h o (Goes m) = o >>= λ g. Some (to m g)
exit_by given made h o (GoesWith m k) = pick given made k >>= λ p. o >>= λ g. with_int p g.stack >>= λ stack. Some (to m (record g { stack = stack }))
exit_by given made h o (Throws k) = pick given made k >>= λ p. Some (throw p h)
exit_by given made h o (ThrowsAfter k) = pick given made k >>= λ p. o >>= λ g. Some (throw p g)
exit_by given made h o (Gives k) = pick given made k >>= λ p. Some (chains.give p h)
exit_by given made h o Ends = Some (chains.give unit_part h)

abbrev pub chain_by : List Part → List Part → parts.Held → Option parts.Held → List Kid → List Way → Option Chain
chain_by given made h o [] (w ∷ []) = exit_by given made h o w >>= λ x. Some (Leave x)
chain_by given made h o (t ∷ ts) (w ∷ ws) = pick given made t >>= λ p. exit_by given made h o w >>= λ x. chain_by given made h o ts ws >>= λ c. Some (flow.Test p x c)
chain_by given made h o ts ws = None

abbrev pub row_chain : Row → List Part → parts.Held → Option parts.Held → Option Chain
row_chain row given h o = all_made part_made given row.lines [] >>= λ made. chain_by given made h o row.tests row.exits

-- ---- a row in sorts, of a method whose result has this sort

abbrev pub WayFits : List OpSort → List OpSort → Sort → Way → Type 0
WayFits given made s (Goes m) = Unit {0}
WayFits given made s (GoesWith m k) = pick given made k ≡ Some I
WayFits given made s (Throws k) = pick given made k ≡ Some F
WayFits given made s (ThrowsAfter k) = pick given made k ≡ Some F
WayFits given made s (Gives k) = pick given made k ≡ Some (op_sort s)
WayFits given made s Ends = s ≡ sort.Unknown

pub record RowFits (given : List OpSort) (s : Sort) (row : Row) : Type 0 where
  pub made : List OpSort
  pub are : all_made sort_made given row.lines [] ≡ Some made
  pub tests : AllByRecursion (λ k. pick given made k ≡ Some I) row.tests
  pub exits : AllByRecursion (WayFits given made s) row.exits

-- ---- a row in nodes

abbrev pub with_int_node : ℕ → List Cell → List Cell
with_int_node n [] = []
with_int_node n (c ∷ cs) = record { sort = sort.Int; node = n } ∷ cs

abbrev pub leaving_by : List ℕ → List ℕ → Ending → Held → Way → Leaving
leaving_by given made ends c (Goes m) = leaving.Goes m (state_of c)
leaving_by given made ends c (GoesWith m k) = leaving.Goes m (state_of (record c { stack = with_int_node (node_at given made k) c.stack }))
leaving_by given made ends c (Throws k) = faulted ends (node_at given made k)
leaving_by given made ends c (ThrowsAfter k) = faulted (ended c) (node_at given made k)
leaving_by given made ends c (Gives k) = leaving.Returns (record ends { result = node_at given made k })
leaving_by given made ends c Ends = leaving.Returns ends

-- ---- what the tests and exits of a row stand for, and their sorts

abbrev pub LeavesByRow : Row → List Node → List ℕ → Ending → Held → List Node → Ran → Type 0
LeavesByRow row old given ends c new ran = (at : Entry) (ps : List Part) (h : parts.Held) (o : Option parts.Held) (x : Chain) → Stand at.nodes old → Stands at old given ps → EndsFor at old ends h
    → ((g : parts.Held) → o ≡ Some g → HoldsFor at old c g) → row_chain row ps h o ≡ Some x → LeavesBy at new o ran x

abbrev pub KeepsSorts : Row → Graph → List ℕ → Graph → Ran → Type 0
KeepsSorts row old given new ran = (ss : List OpSort) (s : Sort) → HaveSorts old.sorts given ss → RowFits ss s row → AreSortedExits new s ran
