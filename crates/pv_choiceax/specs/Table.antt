-- The axioms on operations over choices, on choices under choices, on truths and on conversions, in order of number.
use Rattle.std.specs.Prelude.{ℕ, ◌+◌, pos, List, [], ◌∷◌, ◌++◌}
use Rattle.pv_value.specs.Operations.{int}
use Rattle.pv_value.specs.declared.operation.ScalarOp.{ScalarOp}
use Rattle.pv_value.specs.declared.operation.ScalarOp.TheVariants.{Iadd, Isub, Imul, Idiv, Irem, Ishl, Ishr, Iushr, Iand, Ior, Ixor, Ieq, Ilt, Ineg, I2b, I2c, I2s, I2l, Ladd, Lsub, Lmul, Ldiv, Lrem, Lshl, Lshr, Lushr, Land, Lor, Lxor, Leq, Lcmp, Lneg, L2i}
use Rattle.pv_graph.specs.declared.node.Op.TheVariants as op
use Rattle.pv_pattern.specs.Patterns.{Head, fixed, getstatic, getfield, load, Pattern, var, over, none, first, Axiom}
use Rattle.pv_scalar.specs.Table.{rule, op2, sc1, sc2, phi, lit, zero_, one_, minus, x, y}

-- ---- operations over a choice: op(.., phi(c, a, b), ..) = phi(c, op(.., a, ..), op(.., b, ..)). The number is 3000, ten times the number
-- of the operation, and the place of the choice among the kids, from 0

-- an operation over one pattern, over two and over three
abbrev pub on1 : Head → Pattern → Pattern
on1 h p = over h (first p none)

abbrev pub on2 : Head → Pattern → Pattern → Pattern
on2 h p q = over h (first p (first q none))

abbrev pub on3 : Head → Pattern → Pattern → Pattern → Pattern
on3 h p q r = over h (first p (first q (first r none)))

-- an operation of one kid; variables are numbered by the order of their first places in the left side
abbrev pub choice_of_1 : ℕ → Head → Axiom
choice_of_1 n h = rule n (on1 h (phi (var 0) (var 1) (var 2))) (phi (var 0) (on1 h (var 1)) (on1 h (var 2))) []

-- .. of two, of which the first is a choice, and of which the second is one
abbrev pub first_of_2 : ℕ → Head → Axiom
first_of_2 n h = rule n (on2 h (phi (var 0) (var 1) (var 2)) (var 3)) (phi (var 0) (on2 h (var 1) (var 3)) (on2 h (var 2) (var 3))) []

abbrev pub second_of_2 : ℕ → Head → Axiom
second_of_2 n h = rule n (on2 h (var 0) (phi (var 1) (var 2) (var 3))) (phi (var 1) (on2 h (var 0) (var 2)) (on2 h (var 0) (var 3))) []

-- .. of three
abbrev pub first_of_3 : ℕ → Head → Axiom
first_of_3 n h = rule n (on3 h (phi (var 0) (var 1) (var 2)) (var 3) (var 4)) (phi (var 0) (on3 h (var 1) (var 3) (var 4)) (on3 h (var 2) (var 3) (var 4))) []

abbrev pub second_of_3 : ℕ → Head → Axiom
second_of_3 n h = rule n (on3 h (var 0) (phi (var 1) (var 2) (var 3)) (var 4)) (phi (var 1) (on3 h (var 0) (var 2) (var 4)) (on3 h (var 0) (var 3) (var 4))) []

abbrev pub third_of_3 : ℕ → Head → Axiom
third_of_3 n h = rule n (on3 h (var 0) (var 1) (phi (var 2) (var 3) (var 4))) (phi (var 2) (on3 h (var 0) (var 1) (var 3)) (on3 h (var 0) (var 1) (var 4))) []

-- operations on one number and on two, whose own numbers follow each other
abbrev pub singles : ℕ → List ScalarOp → List Axiom
singles n [] = []
singles n (o ∷ os) = choice_of_1 n (fixed (op.Scalar o)) ∷ singles (n + 10) os

abbrev pub pairs : ℕ → List ScalarOp → List Axiom
pairs n [] = []
pairs n (o ∷ os) = first_of_2 n (fixed (op.Scalar o)) ∷ (second_of_2 (n + 1) (fixed (op.Scalar o)) ∷ pairs (n + 10) os)

abbrev pub counts_and_faults : List Axiom
counts_and_faults = choice_of_1 3140 (fixed op.Succ) ∷ choice_of_1 3150 (fixed op.Thrown) ∷ choice_of_1 3160 (fixed op.IsClear) ∷ []

abbrev pub int_pairs : List Axiom
int_pairs = pairs 3300 (Iadd ∷ Isub ∷ Imul ∷ Idiv ∷ Irem ∷ Ishl ∷ Ishr ∷ Iushr ∷ Iand ∷ Ior ∷ Ixor ∷ Ieq ∷ Ilt ∷ [])

abbrev pub int_singles : List Axiom
int_singles = singles 3430 (Ineg ∷ I2b ∷ I2c ∷ I2s ∷ I2l ∷ [])

abbrev pub long_pairs : List Axiom
long_pairs = pairs 3500 (Ladd ∷ Lsub ∷ Lmul ∷ Ldiv ∷ Lrem ∷ Lshl ∷ Lshr ∷ Lushr ∷ Land ∷ Lor ∷ Lxor ∷ Leq ∷ Lcmp ∷ [])

abbrev pub long_singles : List Axiom
long_singles = singles 3630 (Lneg ∷ L2i ∷ [])

-- equal references, and what is read of a heap or of an array
abbrev pub reads : List Axiom
reads =
    first_of_2 3650 (fixed op.Aeq) ∷ second_of_2 3651 (fixed op.Aeq)
    ∷ choice_of_1 3700 (getstatic 0)
    ∷ first_of_2 3720 (getfield 0) ∷ second_of_2 3721 (getfield 0)
    ∷ first_of_3 3740 (load 0) ∷ second_of_3 3741 (load 0) ∷ third_of_3 3742 (load 0)
    ∷ choice_of_1 3760 (fixed op.Length)
    ∷ []

-- ---- choices under choices, and a choice by a test for 0

-- whether a number is 0
abbrev pub is_zero : Pattern → Pattern
is_zero t = sc2 Ieq t (zero_ int)

abbrev pub nested_choices : List Axiom
nested_choices =
    rule 4001 (phi (var 0) (var 1) (phi (var 2) (var 3) (var 4))) (phi (var 0) (var 1) (phi (var 2) (phi (var 0) (var 1) (var 3)) (phi (var 0) (var 1) (var 4)))) []
    ∷ rule 4002 (phi (var 0) (phi (var 1) (var 2) (var 3)) (var 4)) (phi (var 0) (phi (var 1) (phi (var 0) (var 2) (var 4)) (phi (var 0) (var 3) (var 4))) (var 4)) []
    ∷ rule 4003 (phi (is_zero (var 0)) (var 1) (var 2)) (phi (var 0) (var 2) (var 1)) []
    ∷ []

-- ---- truths

-- above 0 is not below 1, and below 0 is not above -1
abbrev pub bounds : List Axiom
bounds = rule 4004 (sc2 Ilt (zero_ int) x) (is_zero (sc2 Ilt x (one_ int))) [] ∷ rule 4005 (sc2 Ilt x (zero_ int)) (is_zero (sc2 Ilt (minus int) x)) [] ∷ []

-- a truth is 0 exactly where the test of it for 0 isn't
abbrev pub tested_twice : ℕ → Pattern → Axiom
tested_twice n t = rule n (is_zero (is_zero t)) t []

-- a truth has no bit but the lowest
abbrev pub lowest_bit : ℕ → Pattern → Axiom
lowest_bit n t = rule n (sc2 Iand t (one_ int)) t []

abbrev pub same_refs : Pattern
same_refs = op2 op.Aeq x y

abbrev pub truths : List Axiom
truths =
    tested_twice 4006 (sc2 Ieq x y) ∷ tested_twice 4007 (sc2 Ilt x y) ∷ tested_twice 4008 same_refs ∷ tested_twice 4009 (sc2 Leq x y)
    ∷ lowest_bit 4010 (sc2 Ieq x y) ∷ lowest_bit 4011 (sc2 Ilt x y) ∷ lowest_bit 4012 same_refs ∷ lowest_bit 4013 (sc2 Leq x y) ∷ []

-- ---- conversions

-- the low half of a long result is the result of the int operation on the low halves
abbrev pub low_half : ℕ → ScalarOp → ScalarOp → Axiom
low_half n of_longs of_ints = rule n (sc1 L2i (sc2 of_longs x y)) (sc2 of_ints (sc1 L2i x) (sc1 L2i y)) []

abbrev pub low_halves : List Axiom
low_halves =
    low_half 4014 Ladd Iadd ∷ low_half 4015 Lsub Isub ∷ low_half 4016 Lmul Imul ∷ low_half 4017 Land Iand ∷ low_half 4018 Lor Ior ∷ low_half 4019 Lxor Ixor
    ∷ rule 4020 (sc1 L2i (sc1 Lneg x)) (sc1 Ineg (sc1 L2i x)) []
    ∷ []

-- a narrowing of the bits that it keeps
abbrev pub masked : ScalarOp → ℕ → Pattern
masked o n = sc1 o (sc2 Iand x (lit int (pos n)))

abbrev pub narrowings : List Axiom
narrowings =
    rule 4021 (masked I2b 255) (sc1 I2b x) []
    ∷ rule 4022 (masked I2s 65535) (sc1 I2s x) []
    ∷ rule 4023 (masked I2c 65535) (sc1 I2c x) []
    ∷ rule 4024 (sc1 I2c x) (sc2 Iand x (lit int (pos 65535))) []
    ∷ []

-- ---- choices between 1 and 0

abbrev pub chosen_truths : List Axiom
chosen_truths = rule 4025 (phi x (one_ int) (zero_ int)) (is_zero (is_zero x)) [] ∷ rule 4026 (phi x (zero_ int) (one_ int)) (is_zero x) [] ∷ []

-- ---- the table

abbrev pub choice_axioms : List Axiom
choice_axioms =
    counts_and_faults ++ (int_pairs ++ (int_singles ++ (long_pairs ++ (long_singles ++ (reads ++ (nested_choices ++ (bounds ++ (truths ++ (low_halves ++ (narrowings ++ chosen_truths))))))))))
