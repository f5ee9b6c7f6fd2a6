-- Small flows as data, for examples.
use Rattle.std.proofs.Common.{◌≡◌, ℕ, zero, suc, pos, not, List, [], ◌∷◌, refl}
use Rattle.pv_value.specs.declared.operation.ScalarOp.TheVariants.{Iadd, Ilt}
use Rattle.pv_graph.specs.declared.node.Op.{Op}
use Rattle.pv_graph.specs.declared.node.Op.TheVariants as op
use Rattle.pv_graph.specs.declared.node.OpSort.TheVariants as sort
use Rattle.pv_graph.specs.Ops.{shape, plain}
use Rattle.pv_equations.specs.Exp.{Exp, Over, NoExp, one, two, three}
use Rattle.pv_equations.specs.Flow.{Part, Slot, Of, NoPart, More, Return, Throw, Dest, To, End, Exit, Chain, Leave, Test, Flow}
use Rattle.pv_equations.specs.Equations.{Values, first_kid}
use Rattle.examples_flows.proofs.Tests.{member}
use Rattle.examples_flows.proofs.Evaluate.{Wanted}

-- ---- parts and exits; slots 0 to 3 are the token, the fault, the result and the heap, and locals follow

abbrev pub unit_part : Part
unit_part = Of op.Unit refl NoPart

abbrev pub clear_part : Part
clear_part = Of op.Clear refl NoPart

abbrev pub int_part : ℕ → Part
int_part n = Of (op.Int (pos n)) refl NoPart

abbrev pub add_part : Part → Part → Part
add_part a b = Of (op.Scalar Iadd) refl (More a (More b NoPart))

abbrev pub less_part : Part → Part → Part
less_part a b = Of (op.Scalar Ilt) refl (More a (More b NoPart))

abbrev pub slots_of : List Part → ℕ → Part
slots_of [] s = unit_part
slots_of (p ∷ ps) zero = p
slots_of (p ∷ ps) (suc s) = slots_of ps s

-- an exit: where it goes, and the first slots there; the others are unit
pub record Way : Type 0 where
  pub dest : Dest
  pub parts : List Part

-- the exits of a block: one, or one where a test is true, and others where it is false
pub data Ways : Type 0 where
  Go : Way → Ways
  If : Part → Way → Ways → Ways

abbrev pub exit_of : Way → Exit
exit_of w = record { dest = w.dest; slots = slots_of w.parts }

abbrev pub chain_of : Ways → Chain
chain_of (Go w) = Leave (exit_of w)
chain_of (If t w ws) = Test t (exit_of w) (chain_of ws)

-- on to a block, with these locals
abbrev pub goes : ℕ → List Part → Way
goes m locals = record { dest = To m; parts = Slot 0 ∷ clear_part ∷ unit_part ∷ Slot 3 ∷ locals }

abbrev pub returns : Part → Way
returns p = record { dest = End Return; parts = Slot 0 ∷ clear_part ∷ p ∷ Slot 3 ∷ [] }

abbrev pub throws : Part → Way
throws p = record { dest = End Throw; parts = Slot 0 ∷ p ∷ unit_part ∷ Slot 3 ∷ [] }

-- ---- flows

-- the exits of a block, the loops around it, and of a header the slots that its loop doesn't change
pub record Block : Type 0 where
  pub ways : Ways
  pub around : List ℕ
  pub kept : List ℕ

abbrev pub block : List ℕ → Ways → Block
block around ways = record { ways = ways; around = around; kept = [] }

abbrev pub header : List ℕ → List ℕ → Ways → Block
header around kept ways = record { ways = ways; around = around; kept = kept }

abbrev pub no_block : Block
no_block = block [] (Go (record { dest = End Return; parts = Slot 0 ∷ [] }))

abbrev pub block_at : List Block → ℕ → Block
block_at [] b = no_block
block_at (x ∷ xs) zero = x
block_at (x ∷ xs) (suc b) = block_at xs b

-- two int arguments
abbrev start_of : ℕ → Op
start_of (suc zero) = op.Clear
start_of (suc (suc (suc zero))) = op.Heap0
start_of (suc (suc (suc (suc zero)))) = op.Param 0 sort.I
start_of (suc (suc (suc (suc (suc zero))))) = op.Param 1 sort.I
start_of s = op.Unit

pub starts_plain : (s : ℕ) → shape (start_of s) ≡ plain
starts_plain zero = refl
starts_plain (suc zero) = refl
starts_plain (suc (suc zero)) = refl
starts_plain (suc (suc (suc zero))) = refl
starts_plain (suc (suc (suc (suc zero)))) = refl
starts_plain (suc (suc (suc (suc (suc zero))))) = refl
starts_plain (suc (suc (suc (suc (suc (suc s)))))) = refl

-- blocks, of which the first is the entry
abbrev pub flow_of : List Block → Flow
flow_of blocks = record {
  entry = 0;
  chain = λ b. chain_of (block_at blocks b).ways;
  around = λ b. (block_at blocks b).around;
  carried = λ h s. not (member (block_at blocks h).kept s);
  start = start_of;
  start_plain = starts_plain;
}

-- ---- what is wanted, and what comes of it

-- each of some slots
abbrev pub each : (ℕ → Wanted) → List ℕ → List Wanted
each w [] = []
each w (s ∷ ss) = w s ∷ each w ss

-- the kids of the theta of a slot
abbrev pub Kids : Values → ℕ → ℕ → Exp → Exp → Type 0
Kids v h s a b = (first_kid v h s ≡ a) × (v.again h s ≡ b)

abbrev pub int : ℕ → Exp
int n = Over (op.Int (pos n)) NoExp

abbrev pub add : Exp → Exp → Exp
add a b = Over (op.Scalar Iadd) (two a b)

abbrev pub less : Exp → Exp → Exp
less a b = Over (op.Scalar Ilt) (two a b)

abbrev pub phi : Exp → Exp → Exp → Exp
phi c a b = Over op.Phi (three c a b)

abbrev pub param : ℕ → Exp
param j = Over (op.Param j sort.I) NoExp

abbrev pub clear : Exp
clear = Over op.Clear NoExp

abbrev pub heap : Exp
heap = Over op.Heap0 NoExp

-- a, in the iteration of depth d in which the loop is left, where e says so
abbrev pub eval : ℕ → Exp → Exp → Exp
eval d a e = Over (op.Eval d) (two a (Over (op.Pass d) (one e)))
