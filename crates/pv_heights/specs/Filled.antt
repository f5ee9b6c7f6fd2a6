-- The sides of an axiom with its names filled in: a fold is the constant that it gives, a narrowing is the operation that it
-- stands for, and the operation of a family stands over all its kids. What is left are operations over holes.
use Rattle.std.specs.Prelude.{ℕ, suc, zero, pos, [], Option, Some, None, ◌==◌, if◌then◌else◌}
use Rattle.pv_value.specs.Spelled.{bind}
use Rattle.pv_value.specs.declared.name.Sym.{Sym}
use Rattle.pv_value.specs.declared.heap.Kind.{Kind}
use Rattle.pv_value.specs.declared.descriptor.JType.{JType}
use Rattle.pv_value.specs.declared.descriptor.JType.TheVariants as jtype
use Rattle.pv_value.specs.declared.operation.ScalarOp.TheVariants.{Iand, I2b, I2c, I2s}
use Rattle.pv_value.specs.declared.number.Num.{Num}
use Rattle.pv_value.specs.declared.number.Num.TheVariants as num
use Rattle.pv_graph.specs.declared.node.Op.{Op}
use Rattle.pv_graph.specs.declared.node.Op.TheVariants as op
use Rattle.pv_pattern.specs.Patterns.{Each, bare, shifted, evaluated, Pattern, var, constant, fold, narrowed, over, over_each, Patterns, none, first}
use Rattle.pv_pattern.specs.Numbers.{op_number}
use Rattle.pv_pattern.specs.Instances.{Names, head_op, folded, type_by}

-- what the names of an axiom stand for: its depth, symbols, kinds and constants, and the operation of a family
pub record Params : Type 0 where
  pub depth : ℕ
  pub symbols : ℕ → Sym
  pub kinds : ℕ → Kind
  pub constants : ℕ → Num
  pub op_ : Op

-- the same with no nodes for kids and variables
abbrev pub named : Params → Names
named m = record { depth = m.depth; symbols = m.symbols; kinds = m.kinds; constants = m.constants; op_ = m.op_; kids = []; vars = [] }

-- what a side leaves open: a kid of its family by its place, or a variable by its number
pub data Hole : Type 0 where
  kid : ℕ → Hole
  variable : ℕ → Hole

mutual
  -- a hole, or an operation over such sides
  pub data Filled : Type 0 where
    at : Hole → Filled
    of : Op → Parts → Filled

  pub data Parts : Type 0 where
    no_part : Parts
    part : Filled → Parts → Parts

-- an operation over no kid, one, or two
abbrev pub over0 : Op → Filled
over0 o = of o no_part

abbrev pub over1 : Op → Filled → Filled
over1 o s = of o (part s no_part)

abbrev pub over2 : Op → Filled → Filled → Filled
over2 o s t = of o (part s (part t no_part))

-- the operation that is this constant, an int or a long
abbrev pub number_op : Num → Option Op
number_op (num.Int c) = Some (op.Int c)
number_op (num.Long c) = Some (op.Long c)
number_op (num.Ref r) = None

abbrev pub constant_part : Num → Option Filled
constant_part c = bind (number_op c) (λ o. Some (over0 o))

-- a side narrowed to a type: a boolean to its lowest bit, a byte, char or short to its bits, with the sign that the type has
abbrev pub narrow : JType → Filled → Filled
narrow jtype.Z s = over2 (op.Scalar Iand) s (over0 (op.Int (pos 1)))
narrow jtype.B s = over1 (op.Scalar I2b) s
narrow jtype.C s = over1 (op.Scalar I2c) s
narrow jtype.S s = over1 (op.Scalar I2s) s
narrow t s = s

-- what the operation of a family has in place of its i-th kid: the kid itself, its shift, or its eval at a variable
abbrev pub each_part : Params → Each → ℕ → Filled
each_part m bare i = at (kid i)
each_part m shifted i = over1 (op.Shift m.depth) (at (kid i))
each_part m (evaluated j) i = over2 (op.Eval m.depth) (at (kid i)) (at (variable j))

-- the same in place of n kids, from the i-th on
abbrev pub each_parts : Params → Each → ℕ → ℕ → Parts
each_parts m e i zero = no_part
each_parts m e i (suc n) = part (each_part m e i) (each_parts m e (suc i) n)

abbrev mutual
  -- the pattern filled in, where the operation of a family has n kids; none where a fold gives no constant, a descriptor no
  -- type, or the operation isn't of the family
  pub filled : Params → ℕ → Pattern → Option Filled
  filled m n (var j) = Some (at (variable j))
  filled m n (constant j) = constant_part (m.constants j)
  filled m n (fold o atoms) = bind (folded (named m) o atoms) constant_part
  filled m n (narrowed b p) = bind (type_by (named m) b) (λ t. bind (filled m n p) (λ s. Some (narrow t s)))
  filled m n (over h ps) = bind (all_filled m n ps) (λ ss. Some (of (head_op (named m) h) ss))
  filled m n (over_each k e) = if op_number m.op_ == k then Some (of m.op_ (each_parts m e 0 n)) else None

  pub all_filled : Params → ℕ → Patterns → Option Parts
  all_filled m n none = Some no_part
  all_filled m n (first p ps) = bind (filled m n p) (λ s. bind (all_filled m n ps) (λ ss. Some (part s ss)))
