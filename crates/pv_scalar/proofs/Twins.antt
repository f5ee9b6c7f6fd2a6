-- The laws of the axioms on numbers.
use Rattle.std.specs.Prelude.{ℕ, zero, suc, pos, negsuc, [], ◌∷◌, FitsSigned, refl}
use Rattle.std.specs.Int.{w8, w16, w32, w64}
use Rattle.std.proofs.Common.{lit<}
use Rattle.pv_value.specs.Operations.{Word, int, long, width_of, int_distance, long_distance}
use Rattle.pv_value.specs.declared.operation.ScalarOp.TheVariants.{Iadd, Isub, Imul, Idiv, Irem, Ishl, Ishr, Iushr, Iand, Ior, Ixor, Ieq, Ilt, Ineg, I2b, I2c, I2s, I2l, Ladd, Lsub, Lmul, Ldiv, Lrem, Lshl, Lshr, Lushr, Land, Lor, Lxor, Leq, Lcmp, Lneg, L2i}
use Rattle.pv_denote.specs.Denote.{num_of}
use Rattle.pv_pattern.specs.Patterns.{number, named, constant, fold, settled}
use Rattle.pv_pattern.specs.Laws.{Law, Laws}
use Rattle.pv_scalar.specs.Table.{rule, sc1, sc2, add, sub, mul, div, rem, shl, shr, ushr, and, or, xor, neg, zero_, one_, minus, at, x, y, z, twins, ints, longs, int_folds, long_folds}
use Rattle.pv_scalar.proofs.Terms.{v_, k_, lit, one, two, fold1, fold2, l_, c_, scalar_law}
use Rattle.pv_denote.proofs.Cited.{low_fits}
use Rattle.pv_pattern.proofs.Cited.{e33, e37, e38, e39, e139, e19, e24, byte_fits, short_fits, e40, e41, e43, e1, e2, e3, e4, e5, e6, e7, e8, e9, e10, e11, e12, e13, e14, e15, e16, e17, e18, e20, e21, e22, e23, e25, e26, e27, e28, e29, e30, e31, e32, e34}

zero_fits : (s : Word) → FitsSigned (width_of s) (pos 0)
zero_fits int = record { sfits = lit< tt }
zero_fits long = record { sfits = lit< tt }

minus_fits : (s : Word) → FitsSigned (width_of s) (negsuc 0)
minus_fits int = record { sfits = lit< tt }
minus_fits long = record { sfits = lit< tt }

-- the sizes of variables, where the second one is a count
abbrev counts : Word → ℕ → Word
counts s zero = s
counts s (suc j) = int

t1 : (s : Word) → Law (rule (at s 1) (sc2 (add s) x y) (sc2 (add s) y x) [])
t1 int = scalar_law 1 (λ j. int) (two Iadd (v_ 0) (v_ 1)) (two Iadd (v_ 1) (v_ 0)) [] refl (λ e f. e1 w32 (e 0) (e 1))
t1 long = scalar_law 101 (λ j. long) (two Ladd (v_ 0) (v_ 1)) (two Ladd (v_ 1) (v_ 0)) [] refl (λ e f. e1 w64 (e 0) (e 1))

t2 : (s : Word) → Law (rule (at s 2) (sc2 (add s) (sc2 (add s) x y) z) (sc2 (add s) x (sc2 (add s) y z)) [])
t2 int = scalar_law 2 (λ j. int) (two Iadd (two Iadd (v_ 0) (v_ 1)) (v_ 2)) (two Iadd (v_ 0) (two Iadd (v_ 1) (v_ 2))) [] refl (λ e f. e2 w32 (e 0) (e 1) (e 2))
t2 long = scalar_law 102 (λ j. long) (two Ladd (two Ladd (v_ 0) (v_ 1)) (v_ 2)) (two Ladd (v_ 0) (two Ladd (v_ 1) (v_ 2))) [] refl (λ e f. e2 w64 (e 0) (e 1) (e 2))

t3 : (s : Word) → Law (rule (at s 3) (sc2 (add s) x (zero_ s)) x [])
t3 int = scalar_law 3 (λ j. int) (two Iadd (v_ 0) (lit int (pos 0))) (v_ 0) [] refl (λ e f. e3 w32 (e 0) (f 0))
t3 long = scalar_law 103 (λ j. long) (two Ladd (v_ 0) (lit long (pos 0))) (v_ 0) [] refl (λ e f. e3 w64 (e 0) (f 0))

t4 : (s : Word) → Law (rule (at s 4) (sc2 (sub s) x y) (sc2 (add s) x (sc1 (neg s) y)) [])
t4 int = scalar_law 4 (λ j. int) (two Isub (v_ 0) (v_ 1)) (two Iadd (v_ 0) (one Ineg (v_ 1))) [] refl (λ e f. e4 w32 (e 0) (e 1))
t4 long = scalar_law 104 (λ j. long) (two Lsub (v_ 0) (v_ 1)) (two Ladd (v_ 0) (one Lneg (v_ 1))) [] refl (λ e f. e4 w64 (e 0) (e 1))

t5 : (s : Word) → Law (rule (at s 5) (sc1 (neg s) (sc1 (neg s) x)) x [])
t5 int = scalar_law 5 (λ j. int) (one Ineg (one Ineg (v_ 0))) (v_ 0) [] refl (λ e f. e5 w32 (e 0) (f 0))
t5 long = scalar_law 105 (λ j. long) (one Lneg (one Lneg (v_ 0))) (v_ 0) [] refl (λ e f. e5 w64 (e 0) (f 0))

t6 : (s : Word) → Law (rule (at s 6) (sc2 (add s) x (sc1 (neg s) x)) (zero_ s) (settled 0 ∷ []))
t6 int = scalar_law 6 (λ j. int) (two Iadd (v_ 0) (one Ineg (v_ 0))) (lit int (pos 0)) (settled 0 ∷ []) refl (λ e f. e6 w32 (zero_fits int) (e 0))
t6 long = scalar_law 106 (λ j. long) (two Ladd (v_ 0) (one Lneg (v_ 0))) (lit long (pos 0)) (settled 0 ∷ []) refl (λ e f. e6 w64 (zero_fits long) (e 0))

t7 : (s : Word) → Law (rule (at s 7) (sc1 (neg s) (sc2 (add s) x y)) (sc2 (add s) (sc1 (neg s) x) (sc1 (neg s) y)) [])
t7 int = scalar_law 7 (λ j. int) (one Ineg (two Iadd (v_ 0) (v_ 1))) (two Iadd (one Ineg (v_ 0)) (one Ineg (v_ 1))) [] refl (λ e f. e7 w32 (e 0) (e 1))
t7 long = scalar_law 107 (λ j. long) (one Lneg (two Ladd (v_ 0) (v_ 1))) (two Ladd (one Lneg (v_ 0)) (one Lneg (v_ 1))) [] refl (λ e f. e7 w64 (e 0) (e 1))

t8 : (s : Word) → Law (rule (at s 8) (sc2 (mul s) x y) (sc2 (mul s) y x) [])
t8 int = scalar_law 8 (λ j. int) (two Imul (v_ 0) (v_ 1)) (two Imul (v_ 1) (v_ 0)) [] refl (λ e f. e8 w32 (e 0) (e 1))
t8 long = scalar_law 108 (λ j. long) (two Lmul (v_ 0) (v_ 1)) (two Lmul (v_ 1) (v_ 0)) [] refl (λ e f. e8 w64 (e 0) (e 1))

t9 : (s : Word) → Law (rule (at s 9) (sc2 (mul s) (sc2 (mul s) x y) z) (sc2 (mul s) x (sc2 (mul s) y z)) [])
t9 int = scalar_law 9 (λ j. int) (two Imul (two Imul (v_ 0) (v_ 1)) (v_ 2)) (two Imul (v_ 0) (two Imul (v_ 1) (v_ 2))) [] refl (λ e f. e9 w32 (e 0) (e 1) (e 2))
t9 long = scalar_law 109 (λ j. long) (two Lmul (two Lmul (v_ 0) (v_ 1)) (v_ 2)) (two Lmul (v_ 0) (two Lmul (v_ 1) (v_ 2))) [] refl (λ e f. e9 w64 (e 0) (e 1) (e 2))

t10 : (s : Word) → Law (rule (at s 10) (sc2 (mul s) x (one_ s)) x [])
t10 int = scalar_law 10 (λ j. int) (two Imul (v_ 0) (lit int (pos 1))) (v_ 0) [] refl (λ e f. e10 w32 (e 0) (f 0))
t10 long = scalar_law 110 (λ j. long) (two Lmul (v_ 0) (lit long (pos 1))) (v_ 0) [] refl (λ e f. e10 w64 (e 0) (f 0))

t11 : (s : Word) → Law (rule (at s 11) (sc2 (mul s) x (zero_ s)) (zero_ s) (settled 0 ∷ []))
t11 int = scalar_law 11 (λ j. int) (two Imul (v_ 0) (lit int (pos 0))) (lit int (pos 0)) (settled 0 ∷ []) refl (λ e f. e11 w32 (zero_fits int) (e 0))
t11 long = scalar_law 111 (λ j. long) (two Lmul (v_ 0) (lit long (pos 0))) (lit long (pos 0)) (settled 0 ∷ []) refl (λ e f. e11 w64 (zero_fits long) (e 0))

t12 : (s : Word) → Law (rule (at s 12) (sc2 (mul s) (sc2 (add s) x y) z) (sc2 (add s) (sc2 (mul s) x z) (sc2 (mul s) y z)) [])
t12 int = scalar_law 12 (λ j. int) (two Imul (two Iadd (v_ 0) (v_ 1)) (v_ 2)) (two Iadd (two Imul (v_ 0) (v_ 2)) (two Imul (v_ 1) (v_ 2))) [] refl (λ e f. e12 w32 (e 0) (e 1) (e 2))
t12 long = scalar_law 112 (λ j. long) (two Lmul (two Ladd (v_ 0) (v_ 1)) (v_ 2)) (two Ladd (two Lmul (v_ 0) (v_ 2)) (two Lmul (v_ 1) (v_ 2))) [] refl (λ e f. e12 w64 (e 0) (e 1) (e 2))

t13 : (s : Word) → Law (rule (at s 13) (sc2 (mul s) x (minus s)) (sc1 (neg s) x) [])
t13 int = scalar_law 13 (λ j. int) (two Imul (v_ 0) (lit int (negsuc 0))) (one Ineg (v_ 0)) [] refl (λ e f. e13 w32 (e 0))
t13 long = scalar_law 113 (λ j. long) (two Lmul (v_ 0) (lit long (negsuc 0))) (one Lneg (v_ 0)) [] refl (λ e f. e13 w64 (e 0))

t14 : (s : Word) → Law (rule (at s 14) (sc2 (shl s) x (constant 1)) (sc2 (mul s) x (fold (shl s) (number (num_of s (pos 1)) ∷ named 1 ∷ []))) [])
t14 int = scalar_law 14 (counts int) (two Ishl (v_ 0) (k_ 1)) (two Imul (v_ 0) (fold2 Ishl (l_ int (pos 1)) (c_ 1))) [] refl (λ e f. e14 w32 (e 0) (int_distance (e 1)))
t14 long = scalar_law 114 (counts long) (two Lshl (v_ 0) (k_ 1)) (two Lmul (v_ 0) (fold2 Lshl (l_ long (pos 1)) (c_ 1))) [] refl (λ e f. e14 w64 (e 0) (long_distance (e 1)))

t15 : (s : Word) → Law (rule (at s 15) (sc2 (and s) x y) (sc2 (and s) y x) [])
t15 int = scalar_law 15 (λ j. int) (two Iand (v_ 0) (v_ 1)) (two Iand (v_ 1) (v_ 0)) [] refl (λ e f. e15 w32 (e 0) (e 1))
t15 long = scalar_law 115 (λ j. long) (two Land (v_ 0) (v_ 1)) (two Land (v_ 1) (v_ 0)) [] refl (λ e f. e15 w64 (e 0) (e 1))

t16 : (s : Word) → Law (rule (at s 16) (sc2 (and s) (sc2 (and s) x y) z) (sc2 (and s) x (sc2 (and s) y z)) [])
t16 int = scalar_law 16 (λ j. int) (two Iand (two Iand (v_ 0) (v_ 1)) (v_ 2)) (two Iand (v_ 0) (two Iand (v_ 1) (v_ 2))) [] refl (λ e f. e16 w32 (e 0) (e 1) (e 2) (f 0) (f 1) (f 2))
t16 long = scalar_law 116 (λ j. long) (two Land (two Land (v_ 0) (v_ 1)) (v_ 2)) (two Land (v_ 0) (two Land (v_ 1) (v_ 2))) [] refl (λ e f. e16 w64 (e 0) (e 1) (e 2) (f 0) (f 1) (f 2))

t17 : (s : Word) → Law (rule (at s 17) (sc2 (and s) x x) x [])
t17 int = scalar_law 17 (λ j. int) (two Iand (v_ 0) (v_ 0)) (v_ 0) [] refl (λ e f. e17 w32 (e 0) (f 0))
t17 long = scalar_law 117 (λ j. long) (two Land (v_ 0) (v_ 0)) (v_ 0) [] refl (λ e f. e17 w64 (e 0) (f 0))

t18 : (s : Word) → Law (rule (at s 18) (sc2 (and s) x (zero_ s)) (zero_ s) (settled 0 ∷ []))
t18 int = scalar_law 18 (λ j. int) (two Iand (v_ 0) (lit int (pos 0))) (lit int (pos 0)) (settled 0 ∷ []) refl (λ e f. e18 w32 (zero_fits int) (e 0))
t18 long = scalar_law 118 (λ j. long) (two Land (v_ 0) (lit long (pos 0))) (lit long (pos 0)) (settled 0 ∷ []) refl (λ e f. e18 w64 (zero_fits long) (e 0))

t19 : (s : Word) → Law (rule (at s 19) (sc2 (and s) x (minus s)) x [])
t19 int = scalar_law 19 (λ j. int) (two Iand (v_ 0) (lit int (negsuc 0))) (v_ 0) [] refl (λ e f. e19 w32 (e 0) (f 0) refl)
t19 long = scalar_law 119 (λ j. long) (two Land (v_ 0) (lit long (negsuc 0))) (v_ 0) [] refl (λ e f. e19 w64 (e 0) (f 0) refl)

t20 : (s : Word) → Law (rule (at s 20) (sc2 (or s) x y) (sc2 (or s) y x) [])
t20 int = scalar_law 20 (λ j. int) (two Ior (v_ 0) (v_ 1)) (two Ior (v_ 1) (v_ 0)) [] refl (λ e f. e20 w32 (e 0) (e 1))
t20 long = scalar_law 120 (λ j. long) (two Lor (v_ 0) (v_ 1)) (two Lor (v_ 1) (v_ 0)) [] refl (λ e f. e20 w64 (e 0) (e 1))

t21 : (s : Word) → Law (rule (at s 21) (sc2 (or s) (sc2 (or s) x y) z) (sc2 (or s) x (sc2 (or s) y z)) [])
t21 int = scalar_law 21 (λ j. int) (two Ior (two Ior (v_ 0) (v_ 1)) (v_ 2)) (two Ior (v_ 0) (two Ior (v_ 1) (v_ 2))) [] refl (λ e f. e21 w32 (e 0) (e 1) (e 2) (f 0) (f 1) (f 2))
t21 long = scalar_law 121 (λ j. long) (two Lor (two Lor (v_ 0) (v_ 1)) (v_ 2)) (two Lor (v_ 0) (two Lor (v_ 1) (v_ 2))) [] refl (λ e f. e21 w64 (e 0) (e 1) (e 2) (f 0) (f 1) (f 2))

t22 : (s : Word) → Law (rule (at s 22) (sc2 (or s) x x) x [])
t22 int = scalar_law 22 (λ j. int) (two Ior (v_ 0) (v_ 0)) (v_ 0) [] refl (λ e f. e22 w32 (e 0) (f 0))
t22 long = scalar_law 122 (λ j. long) (two Lor (v_ 0) (v_ 0)) (v_ 0) [] refl (λ e f. e22 w64 (e 0) (f 0))

t23 : (s : Word) → Law (rule (at s 23) (sc2 (or s) x (zero_ s)) x [])
t23 int = scalar_law 23 (λ j. int) (two Ior (v_ 0) (lit int (pos 0))) (v_ 0) [] refl (λ e f. e23 w32 (e 0) (f 0))
t23 long = scalar_law 123 (λ j. long) (two Lor (v_ 0) (lit long (pos 0))) (v_ 0) [] refl (λ e f. e23 w64 (e 0) (f 0))

t24 : (s : Word) → Law (rule (at s 24) (sc2 (or s) x (minus s)) (minus s) (settled 0 ∷ []))
t24 int = scalar_law 24 (λ j. int) (two Ior (v_ 0) (lit int (negsuc 0))) (lit int (negsuc 0)) (settled 0 ∷ []) refl (λ e f. e24 w32 (e 0) (f 0) (minus_fits int) refl)
t24 long = scalar_law 124 (λ j. long) (two Lor (v_ 0) (lit long (negsuc 0))) (lit long (negsuc 0)) (settled 0 ∷ []) refl (λ e f. e24 w64 (e 0) (f 0) (minus_fits long) refl)

t25 : (s : Word) → Law (rule (at s 25) (sc2 (xor s) x y) (sc2 (xor s) y x) [])
t25 int = scalar_law 25 (λ j. int) (two Ixor (v_ 0) (v_ 1)) (two Ixor (v_ 1) (v_ 0)) [] refl (λ e f. e25 w32 (e 0) (e 1))
t25 long = scalar_law 125 (λ j. long) (two Lxor (v_ 0) (v_ 1)) (two Lxor (v_ 1) (v_ 0)) [] refl (λ e f. e25 w64 (e 0) (e 1))

t26 : (s : Word) → Law (rule (at s 26) (sc2 (xor s) (sc2 (xor s) x y) z) (sc2 (xor s) x (sc2 (xor s) y z)) [])
t26 int = scalar_law 26 (λ j. int) (two Ixor (two Ixor (v_ 0) (v_ 1)) (v_ 2)) (two Ixor (v_ 0) (two Ixor (v_ 1) (v_ 2))) [] refl (λ e f. e26 w32 (e 0) (e 1) (e 2) (f 0) (f 1) (f 2))
t26 long = scalar_law 126 (λ j. long) (two Lxor (two Lxor (v_ 0) (v_ 1)) (v_ 2)) (two Lxor (v_ 0) (two Lxor (v_ 1) (v_ 2))) [] refl (λ e f. e26 w64 (e 0) (e 1) (e 2) (f 0) (f 1) (f 2))

t27 : (s : Word) → Law (rule (at s 27) (sc2 (xor s) x x) (zero_ s) (settled 0 ∷ []))
t27 int = scalar_law 27 (λ j. int) (two Ixor (v_ 0) (v_ 0)) (lit int (pos 0)) (settled 0 ∷ []) refl (λ e f. e27 w32 (zero_fits int) (e 0))
t27 long = scalar_law 127 (λ j. long) (two Lxor (v_ 0) (v_ 0)) (lit long (pos 0)) (settled 0 ∷ []) refl (λ e f. e27 w64 (zero_fits long) (e 0))

t28 : (s : Word) → Law (rule (at s 28) (sc2 (xor s) x (zero_ s)) x [])
t28 int = scalar_law 28 (λ j. int) (two Ixor (v_ 0) (lit int (pos 0))) (v_ 0) [] refl (λ e f. e28 w32 (e 0) (f 0))
t28 long = scalar_law 128 (λ j. long) (two Lxor (v_ 0) (lit long (pos 0))) (v_ 0) [] refl (λ e f. e28 w64 (e 0) (f 0))

t29 : (s : Word) → Law (rule (at s 29) (sc2 (div s) x (one_ s)) x [])
t29 int = scalar_law 29 (λ j. int) (two Idiv (v_ 0) (lit int (pos 1))) (v_ 0) [] refl (λ e f. e29 w32 (e 0) (f 0))
t29 long = scalar_law 129 (λ j. long) (two Ldiv (v_ 0) (lit long (pos 1))) (v_ 0) [] refl (λ e f. e29 w64 (e 0) (f 0))

t30 : (s : Word) → Law (rule (at s 30) (sc2 (rem s) x (one_ s)) (zero_ s) (settled 0 ∷ []))
t30 int = scalar_law 30 (λ j. int) (two Irem (v_ 0) (lit int (pos 1))) (lit int (pos 0)) (settled 0 ∷ []) refl (λ e f. e30 w32 (zero_fits int) (e 0))
t30 long = scalar_law 130 (λ j. long) (two Lrem (v_ 0) (lit long (pos 1))) (lit long (pos 0)) (settled 0 ∷ []) refl (λ e f. e30 w64 (zero_fits long) (e 0))

t31 : (s : Word) → Law (rule (at s 31) (sc2 (div s) x (minus s)) (sc1 (neg s) x) [])
t31 int = scalar_law 31 (λ j. int) (two Idiv (v_ 0) (lit int (negsuc 0))) (one Ineg (v_ 0)) [] refl (λ e f. e31 w32 (e 0))
t31 long = scalar_law 131 (λ j. long) (two Ldiv (v_ 0) (lit long (negsuc 0))) (one Lneg (v_ 0)) [] refl (λ e f. e31 w64 (e 0))

t32 : (s : Word) → Law (rule (at s 32) (sc2 (shl s) x (zero_ int)) x [])
t32 int = scalar_law 32 (λ j. int) (two Ishl (v_ 0) (lit int (pos 0))) (v_ 0) [] refl (λ e f. e32 w32 (e 0) (f 0))
t32 long = scalar_law 132 (λ j. long) (two Lshl (v_ 0) (lit int (pos 0))) (v_ 0) [] refl (λ e f. e32 w64 (e 0) (f 0))

t33 : (s : Word) → Law (rule (at s 33) (sc2 (shr s) x (zero_ int)) x [])
t33 int = scalar_law 33 (λ j. int) (two Ishr (v_ 0) (lit int (pos 0))) (v_ 0) [] refl (λ e f. e33 w32 (e 0) (f 0))
t33 long = scalar_law 133 (λ j. long) (two Lshr (v_ 0) (lit int (pos 0))) (v_ 0) [] refl (λ e f. e33 w64 (e 0) (f 0))

t34 : (s : Word) → Law (rule (at s 34) (sc2 (ushr s) x (zero_ int)) x [])
t34 int = scalar_law 34 (λ j. int) (two Iushr (v_ 0) (lit int (pos 0))) (v_ 0) [] refl (λ e f. e34 w32 (e 0) (f 0))
t34 long = scalar_law 134 (λ j. long) (two Lushr (v_ 0) (lit int (pos 0))) (v_ 0) [] refl (λ e f. e34 w64 (e 0) (f 0))

pub twin_laws : (s : Word) → Laws (twins s)
twin_laws s =
    (t1 s, (t2 s, (t3 s, (t4 s, (t5 s, (t6 s, (t7 s, (t8 s, (t9 s, (t10 s, (t11 s, (t12 s, (t13 s, (t14 s, (t15 s, (t16 s, (t17 s, (t18 s, (t19 s, (t20 s, (t21 s, (t22 s, (t23 s, (t24 s, (t25 s, (t26 s, (t27 s, (t28 s, (t29 s, (t30 s, (t31 s, (t32 s, (t33 s, (t34 s, tt))))))))))))))))))))))))))))))))))

pub int_laws : Laws ints
int_laws = (
  scalar_law 37 (λ j. int) (two Ieq (v_ 0) (v_ 1)) (two Ieq (v_ 1) (v_ 0)) [] refl (λ e f. e37 (e 0) (e 1)),
  (
    scalar_law 38 (λ j. int) (two Ieq (v_ 0) (v_ 0)) (lit int (pos 1)) (settled 0 ∷ []) refl (λ e f. e38 (e 0)),
    (
      scalar_law 39 (λ j. int) (two Ilt (v_ 0) (v_ 0)) (lit int (pos 0)) (settled 0 ∷ []) refl (λ e f. e39 (e 0)),
      (
        scalar_law 40 (λ j. int) (one I2b (one I2b (v_ 0))) (one I2b (v_ 0)) [] refl (λ e f. e40 w8 (e 0) (byte_fits (e 0))),
        (
          scalar_law 41 (λ j. int) (one I2c (one I2c (v_ 0))) (one I2c (v_ 0)) [] refl (λ e f. e41 (e 0) (low_fits (e 0) 65536 (lit< tt) (lit< tt))),
          (
            scalar_law 42 (λ j. int) (one I2s (one I2s (v_ 0))) (one I2s (v_ 0)) [] refl (λ e f. e40 w16 (e 0) (short_fits (e 0))),
            (scalar_law 43 (λ j. int) (one L2i (one I2l (v_ 0))) (v_ 0) [] refl (λ e f. e43 (e 0) (f 0)), tt),
          ),
        ),
      ),
    ),
  ),
)

pub long_laws : Laws longs
long_laws = (
  scalar_law 137 (λ j. long) (two Leq (v_ 0) (v_ 1)) (two Leq (v_ 1) (v_ 0)) [] refl (λ e f. e37 (e 0) (e 1)),
  (
    scalar_law 138 (λ j. long) (two Leq (v_ 0) (v_ 0)) (lit int (pos 1)) (settled 0 ∷ []) refl (λ e f. e38 (e 0)),
    (scalar_law 139 (λ j. long) (two Lcmp (v_ 0) (v_ 0)) (lit int (pos 0)) (settled 0 ∷ []) refl (λ e f. e139 (e 0)), tt),
  ),
)

pub int_fold_laws : Laws int_folds
int_fold_laws = (
  scalar_law 60 (λ j. int) (two Iadd (k_ 0) (k_ 1)) (fold2 Iadd (c_ 0) (c_ 1)) [] refl (λ e f. refl),
  (
    scalar_law 61 (λ j. int) (two Isub (k_ 0) (k_ 1)) (fold2 Isub (c_ 0) (c_ 1)) [] refl (λ e f. refl),
    (
      scalar_law 62 (λ j. int) (two Imul (k_ 0) (k_ 1)) (fold2 Imul (c_ 0) (c_ 1)) [] refl (λ e f. refl),
      (
        scalar_law 63 (λ j. int) (two Idiv (k_ 0) (k_ 1)) (fold2 Idiv (c_ 0) (c_ 1)) [] refl (λ e f. refl),
        (
          scalar_law 64 (λ j. int) (two Irem (k_ 0) (k_ 1)) (fold2 Irem (c_ 0) (c_ 1)) [] refl (λ e f. refl),
          (
            scalar_law 65 (λ j. int) (two Ishl (k_ 0) (k_ 1)) (fold2 Ishl (c_ 0) (c_ 1)) [] refl (λ e f. refl),
            (
              scalar_law 66 (λ j. int) (two Ishr (k_ 0) (k_ 1)) (fold2 Ishr (c_ 0) (c_ 1)) [] refl (λ e f. refl),
              (
                scalar_law 67 (λ j. int) (two Iushr (k_ 0) (k_ 1)) (fold2 Iushr (c_ 0) (c_ 1)) [] refl (λ e f. refl),
                (
                  scalar_law 68 (λ j. int) (two Iand (k_ 0) (k_ 1)) (fold2 Iand (c_ 0) (c_ 1)) [] refl (λ e f. refl),
                  (
                    scalar_law 69 (λ j. int) (two Ior (k_ 0) (k_ 1)) (fold2 Ior (c_ 0) (c_ 1)) [] refl (λ e f. refl),
                    (
                      scalar_law 70 (λ j. int) (two Ixor (k_ 0) (k_ 1)) (fold2 Ixor (c_ 0) (c_ 1)) [] refl (λ e f. refl),
                      (
                        scalar_law 71 (λ j. int) (two Ieq (k_ 0) (k_ 1)) (fold2 Ieq (c_ 0) (c_ 1)) [] refl (λ e f. refl),
                        (
                          scalar_law 72 (λ j. int) (two Ilt (k_ 0) (k_ 1)) (fold2 Ilt (c_ 0) (c_ 1)) [] refl (λ e f. refl),
                          (
                            scalar_law 73 (λ j. int) (one Ineg (k_ 0)) (fold1 Ineg (c_ 0)) [] refl (λ e f. refl),
                            (
                              scalar_law 74 (λ j. int) (one I2b (k_ 0)) (fold1 I2b (c_ 0)) [] refl (λ e f. refl),
                              (
                                scalar_law 75 (λ j. int) (one I2c (k_ 0)) (fold1 I2c (c_ 0)) [] refl (λ e f. refl),
                                (
                                  scalar_law 76 (λ j. int) (one I2s (k_ 0)) (fold1 I2s (c_ 0)) [] refl (λ e f. refl),
                                  (
                                    scalar_law 77 (λ j. int) (one I2l (k_ 0)) (fold1 I2l (c_ 0)) [] refl (λ e f. refl),
                                    tt,
                                  ),
                                ),
                              ),
                            ),
                          ),
                        ),
                      ),
                    ),
                  ),
                ),
              ),
            ),
          ),
        ),
      ),
    ),
  ),
)

pub long_fold_laws : Laws long_folds
long_fold_laws = (
  scalar_law 160 (λ j. long) (two Ladd (k_ 0) (k_ 1)) (fold2 Ladd (c_ 0) (c_ 1)) [] refl (λ e f. refl),
  (
    scalar_law 161 (λ j. long) (two Lsub (k_ 0) (k_ 1)) (fold2 Lsub (c_ 0) (c_ 1)) [] refl (λ e f. refl),
    (
      scalar_law 162 (λ j. long) (two Lmul (k_ 0) (k_ 1)) (fold2 Lmul (c_ 0) (c_ 1)) [] refl (λ e f. refl),
      (
        scalar_law 163 (λ j. long) (two Ldiv (k_ 0) (k_ 1)) (fold2 Ldiv (c_ 0) (c_ 1)) [] refl (λ e f. refl),
        (
          scalar_law 164 (λ j. long) (two Lrem (k_ 0) (k_ 1)) (fold2 Lrem (c_ 0) (c_ 1)) [] refl (λ e f. refl),
          (
            scalar_law 165 (counts long) (two Lshl (k_ 0) (k_ 1)) (fold2 Lshl (c_ 0) (c_ 1)) [] refl (λ e f. refl),
            (
              scalar_law 166 (counts long) (two Lshr (k_ 0) (k_ 1)) (fold2 Lshr (c_ 0) (c_ 1)) [] refl (λ e f. refl),
              (
                scalar_law 167 (counts long) (two Lushr (k_ 0) (k_ 1)) (fold2 Lushr (c_ 0) (c_ 1)) [] refl (λ e f. refl),
                (
                  scalar_law 168 (λ j. long) (two Land (k_ 0) (k_ 1)) (fold2 Land (c_ 0) (c_ 1)) [] refl (λ e f. refl),
                  (
                    scalar_law 169 (λ j. long) (two Lor (k_ 0) (k_ 1)) (fold2 Lor (c_ 0) (c_ 1)) [] refl (λ e f. refl),
                    (
                      scalar_law 170 (λ j. long) (two Lxor (k_ 0) (k_ 1)) (fold2 Lxor (c_ 0) (c_ 1)) [] refl (λ e f. refl),
                      (
                        scalar_law 171 (λ j. long) (two Leq (k_ 0) (k_ 1)) (fold2 Leq (c_ 0) (c_ 1)) [] refl (λ e f. refl),
                        (
                          scalar_law 172 (λ j. long) (two Lcmp (k_ 0) (k_ 1)) (fold2 Lcmp (c_ 0) (c_ 1)) [] refl (λ e f. refl),
                          (
                            scalar_law 173 (λ j. long) (one Lneg (k_ 0)) (fold1 Lneg (c_ 0)) [] refl (λ e f. refl),
                            (
                              scalar_law 174 (λ j. long) (one L2i (k_ 0)) (fold1 L2i (c_ 0)) [] refl (λ e f. refl),
                              tt,
                            ),
                          ),
                        ),
                      ),
                    ),
                  ),
                ),
              ),
            ),
          ),
        ),
      ),
    ),
  ),
)
