-- The axioms on numbers, choices and tokens, in order of number.
use Rattle.std.specs.Prelude.{ℕ, ◌+◌, ℤ, pos, negsuc, List, [], ◌∷◌, ◌++◌}
use Rattle.pv_value.specs.Operations.{Word, int, long}
use Rattle.pv_value.specs.declared.operation.ScalarOp.{ScalarOp}
use Rattle.pv_value.specs.declared.operation.ScalarOp.TheVariants.{Iadd, Isub, Imul, Idiv, Irem, Ishl, Ishr, Iushr, Iand, Ior, Ixor, Ieq, Ilt, Ineg, I2b, I2c, I2s, I2l, Ladd, Lsub, Lmul, Ldiv, Lrem, Lshl, Lshr, Lushr, Land, Lor, Lxor, Leq, Lcmp, Lneg, L2i}
use Rattle.pv_graph.specs.declared.node.Op.{Op}
use Rattle.pv_graph.specs.declared.node.Op.TheVariants as op
use Rattle.pv_denote.specs.Denote.{num_of}
use Rattle.pv_pattern.specs.Patterns.{number, named, fixed, Pattern, var, constant, fold, over, none, first, Side, settled, Axiom}

abbrev pub rule : ℕ → Pattern → Pattern → List Side → Axiom
rule n l r sides = record { number = n; left = l; right = r; sides = sides }

-- an operation of the table's sides
abbrev pub op0 : Op → Pattern
op0 o = over (fixed o) none

abbrev pub op1 : Op → Pattern → Pattern
op1 o p = over (fixed o) (first p none)

abbrev pub op2 : Op → Pattern → Pattern → Pattern
op2 o p q = over (fixed o) (first p (first q none))

abbrev pub op3 : Op → Pattern → Pattern → Pattern → Pattern
op3 o p q r = over (fixed o) (first p (first q (first r none)))

abbrev pub sc1 : ScalarOp → Pattern → Pattern
sc1 o p = op1 (op.Scalar o) p

abbrev pub sc2 : ScalarOp → Pattern → Pattern → Pattern
sc2 o p q = op2 (op.Scalar o) p q

-- ---- of ints, and the same of longs

abbrev pub by_word : Word → ScalarOp → ScalarOp → ScalarOp
by_word int a b = a
by_word long a b = b

abbrev pub add : Word → ScalarOp
add s = by_word s Iadd Ladd

abbrev pub sub : Word → ScalarOp
sub s = by_word s Isub Lsub

abbrev pub mul : Word → ScalarOp
mul s = by_word s Imul Lmul

abbrev pub div : Word → ScalarOp
div s = by_word s Idiv Ldiv

abbrev pub rem : Word → ScalarOp
rem s = by_word s Irem Lrem

abbrev pub shl : Word → ScalarOp
shl s = by_word s Ishl Lshl

abbrev pub shr : Word → ScalarOp
shr s = by_word s Ishr Lshr

abbrev pub ushr : Word → ScalarOp
ushr s = by_word s Iushr Lushr

abbrev pub and : Word → ScalarOp
and s = by_word s Iand Land

abbrev pub or : Word → ScalarOp
or s = by_word s Ior Lor

abbrev pub xor : Word → ScalarOp
xor s = by_word s Ixor Lxor

abbrev pub neg : Word → ScalarOp
neg s = by_word s Ineg Lneg

-- a constant
abbrev pub lit : Word → ℤ → Pattern
lit int c = op0 (op.Int c)
lit long c = op0 (op.Long c)

abbrev pub zero_ : Word → Pattern
zero_ s = lit s (pos 0)

abbrev pub one_ : Word → Pattern
one_ s = lit s (pos 1)

abbrev pub minus : Word → Pattern
minus s = lit s (negsuc 0)

-- the long twin has the number plus 100
abbrev pub at : Word → ℕ → ℕ
at int n = n
at long n = n + 100

-- variables by the order of their first places in the left side: x, y and z
abbrev pub x : Pattern
x = var 0

abbrev pub y : Pattern
y = var 1

abbrev pub z : Pattern
z = var 2

-- sums and differences
abbrev pub sums : Word → List Axiom
sums s =
    rule (at s 1) (sc2 (add s) x y) (sc2 (add s) y x) []
    ∷ rule (at s 2) (sc2 (add s) (sc2 (add s) x y) z) (sc2 (add s) x (sc2 (add s) y z)) []
    ∷ rule (at s 3) (sc2 (add s) x (zero_ s)) x []
    ∷ rule (at s 4) (sc2 (sub s) x y) (sc2 (add s) x (sc1 (neg s) y)) []
    ∷ rule (at s 5) (sc1 (neg s) (sc1 (neg s) x)) x []
    ∷ rule (at s 6) (sc2 (add s) x (sc1 (neg s) x)) (zero_ s) (settled 0 ∷ [])
    ∷ rule (at s 7) (sc1 (neg s) (sc2 (add s) x y)) (sc2 (add s) (sc1 (neg s) x) (sc1 (neg s) y)) []
    ∷ []

-- products; a shift by a constant is one
abbrev pub products : Word → List Axiom
products s =
    rule (at s 8) (sc2 (mul s) x y) (sc2 (mul s) y x) []
    ∷ rule (at s 9) (sc2 (mul s) (sc2 (mul s) x y) z) (sc2 (mul s) x (sc2 (mul s) y z)) []
    ∷ rule (at s 10) (sc2 (mul s) x (one_ s)) x []
    ∷ rule (at s 11) (sc2 (mul s) x (zero_ s)) (zero_ s) (settled 0 ∷ [])
    ∷ rule (at s 12) (sc2 (mul s) (sc2 (add s) x y) z) (sc2 (add s) (sc2 (mul s) x z) (sc2 (mul s) y z)) []
    ∷ rule (at s 13) (sc2 (mul s) x (minus s)) (sc1 (neg s) x) []
    ∷ rule (at s 14) (sc2 (shl s) x (constant 1)) (sc2 (mul s) x (fold (shl s) (number (num_of s (pos 1)) ∷ named 1 ∷ []))) []
    ∷ []

-- bits that both have
abbrev pub ands : Word → List Axiom
ands s =
    rule (at s 15) (sc2 (and s) x y) (sc2 (and s) y x) []
    ∷ rule (at s 16) (sc2 (and s) (sc2 (and s) x y) z) (sc2 (and s) x (sc2 (and s) y z)) []
    ∷ rule (at s 17) (sc2 (and s) x x) x []
    ∷ rule (at s 18) (sc2 (and s) x (zero_ s)) (zero_ s) (settled 0 ∷ [])
    ∷ rule (at s 19) (sc2 (and s) x (minus s)) x []
    ∷ []

-- bits that one has
abbrev pub ors : Word → List Axiom
ors s =
    rule (at s 20) (sc2 (or s) x y) (sc2 (or s) y x) []
    ∷ rule (at s 21) (sc2 (or s) (sc2 (or s) x y) z) (sc2 (or s) x (sc2 (or s) y z)) []
    ∷ rule (at s 22) (sc2 (or s) x x) x []
    ∷ rule (at s 23) (sc2 (or s) x (zero_ s)) x []
    ∷ rule (at s 24) (sc2 (or s) x (minus s)) (minus s) (settled 0 ∷ [])
    ∷ []

-- bits that differ
abbrev pub xors : Word → List Axiom
xors s =
    rule (at s 25) (sc2 (xor s) x y) (sc2 (xor s) y x) []
    ∷ rule (at s 26) (sc2 (xor s) (sc2 (xor s) x y) z) (sc2 (xor s) x (sc2 (xor s) y z)) []
    ∷ rule (at s 27) (sc2 (xor s) x x) (zero_ s) (settled 0 ∷ [])
    ∷ rule (at s 28) (sc2 (xor s) x (zero_ s)) x []
    ∷ []

-- division by 1 and -1
abbrev pub quotients : Word → List Axiom
quotients s =
    rule (at s 29) (sc2 (div s) x (one_ s)) x []
    ∷ rule (at s 30) (sc2 (rem s) x (one_ s)) (zero_ s) (settled 0 ∷ [])
    ∷ rule (at s 31) (sc2 (div s) x (minus s)) (sc1 (neg s) x) []
    ∷ []

-- shifts by 0, where counts stay int
abbrev pub shifts : Word → List Axiom
shifts s =
    rule (at s 32) (sc2 (shl s) x (zero_ int)) x []
    ∷ rule (at s 33) (sc2 (shr s) x (zero_ int)) x []
    ∷ rule (at s 34) (sc2 (ushr s) x (zero_ int)) x []
    ∷ []

abbrev pub twins : Word → List Axiom
twins s = sums s ++ (products s ++ (ands s ++ (ors s ++ (xors s ++ (quotients s ++ shifts s)))))

-- without a long twin
abbrev pub ints : List Axiom
ints =
    rule 37 (sc2 Ieq x y) (sc2 Ieq y x) []
    ∷ rule 38 (sc2 Ieq x x) (one_ int) (settled 0 ∷ [])
    ∷ rule 39 (sc2 Ilt x x) (zero_ int) (settled 0 ∷ [])
    ∷ rule 40 (sc1 I2b (sc1 I2b x)) (sc1 I2b x) []
    ∷ rule 41 (sc1 I2c (sc1 I2c x)) (sc1 I2c x) []
    ∷ rule 42 (sc1 I2s (sc1 I2s x)) (sc1 I2s x) []
    ∷ rule 43 (sc1 L2i (sc1 I2l x)) x []
    ∷ []

abbrev pub refs : List Axiom
refs =
    rule 44 (op2 op.Aeq x y) (op2 op.Aeq y x) []
    ∷ rule 45 (op2 op.Aeq x x) (one_ int) (settled 0 ∷ [])
    ∷ rule 46 (op2 op.Aeq (op0 op.This) (op0 op.Null)) (zero_ int) []
    ∷ []

abbrev pub longs : List Axiom
longs =
    rule 137 (sc2 Leq x y) (sc2 Leq y x) []
    ∷ rule 138 (sc2 Leq x x) (one_ int) (settled 0 ∷ [])
    ∷ rule 139 (sc2 Lcmp x x) (zero_ int) (settled 0 ∷ [])
    ∷ []

-- ---- folds of two constants and of one

abbrev pub folded2 : ℕ → ScalarOp → Axiom
folded2 n o = rule n (sc2 o (constant 0) (constant 1)) (fold o (named 0 ∷ named 1 ∷ [])) []

abbrev pub folded1 : ℕ → ScalarOp → Axiom
folded1 n o = rule n (sc1 o (constant 0)) (fold o (named 0 ∷ [])) []

abbrev pub int_folds : List Axiom
int_folds =
    folded2 60 Iadd ∷ folded2 61 Isub ∷ folded2 62 Imul ∷ folded2 63 Idiv ∷ folded2 64 Irem ∷ folded2 65 Ishl ∷ folded2 66 Ishr ∷ folded2 67 Iushr
    ∷ folded2 68 Iand ∷ folded2 69 Ior ∷ folded2 70 Ixor ∷ folded2 71 Ieq ∷ folded2 72 Ilt
    ∷ folded1 73 Ineg ∷ folded1 74 I2b ∷ folded1 75 I2c ∷ folded1 76 I2s ∷ folded1 77 I2l ∷ []

abbrev pub long_folds : List Axiom
long_folds =
    folded2 160 Ladd ∷ folded2 161 Lsub ∷ folded2 162 Lmul ∷ folded2 163 Ldiv ∷ folded2 164 Lrem ∷ folded2 165 Lshl ∷ folded2 166 Lshr ∷ folded2 167 Lushr
    ∷ folded2 168 Land ∷ folded2 169 Lor ∷ folded2 170 Lxor ∷ folded2 171 Leq ∷ folded2 172 Lcmp
    ∷ folded1 173 Lneg ∷ folded1 174 L2i ∷ []

-- ---- choices and tokens

abbrev pub phi : Pattern → Pattern → Pattern → Pattern
phi c a b = op3 op.Phi c a b

abbrev pub both : Pattern → Pattern → Pattern
both a b = op2 op.Both a b

abbrev pub choices : List Axiom
choices =
    rule 201 (phi (zero_ int) (var 0) (var 1)) (var 1) []
    ∷ rule 202 (phi (one_ int) (var 0) (var 1)) (var 0) []
    ∷ rule 203 (phi (var 0) (var 1) (var 1)) (var 1) (settled 0 ∷ [])
    ∷ rule 204 (phi (var 0) (phi (var 0) (var 1) (var 2)) (var 3)) (phi (var 0) (var 1) (var 3)) []
    ∷ rule 205 (phi (var 0) (var 1) (phi (var 0) (var 2) (var 3))) (phi (var 0) (var 1) (var 3)) []
    ∷ rule 206 (phi (phi (var 0) (var 1) (var 2)) (var 3) (var 4)) (phi (var 0) (phi (var 1) (var 3) (var 4)) (phi (var 2) (var 3) (var 4))) []
    ∷ []

abbrev pub tokens : List Axiom
tokens =
    rule 210 (both (var 0) (var 1)) (both (var 1) (var 0)) []
    ∷ rule 211 (both (both (var 0) (var 1)) (var 2)) (both (var 0) (both (var 1) (var 2))) []
    ∷ rule 212 (both (var 0) (var 0)) (var 0) []
    ∷ rule 213 (both (op0 op.Unit) (var 0)) (var 0) []
    ∷ []

abbrev pub scalar_axioms : List Axiom
scalar_axioms = twins int ++ (ints ++ (refs ++ (int_folds ++ (twins long ++ (longs ++ (long_folds ++ (choices ++ tokens)))))))
