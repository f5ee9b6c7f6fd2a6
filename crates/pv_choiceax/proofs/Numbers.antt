-- The laws of the axioms on numbers: bounds, truths and conversions.
use Rattle.std.specs.Prelude.{pos, negsuc, [], int_lt, refl}
use Rattle.std.specs.Ordering.{int_eq}
use Rattle.pv_value.specs.Operations.{int, long}
use Rattle.pv_value.specs.declared.operation.ScalarOp.TheVariants.{Iadd, Isub, Imul, Iand, Ior, Ixor, Ieq, Ilt, Ineg, I2b, I2c, I2s, Ladd, Lsub, Lmul, Land, Lor, Lxor, Leq, Lneg, L2i}
use Rattle.pv_pattern.specs.Laws.{Laws}
use Rattle.pv_scalar.proofs.Cited.{Term, v_, lit, one, two, scalar_law}
use Rattle.pv_choiceax.specs.Table.{bounds, truths, low_halves, narrowings}
use Rattle.pv_choiceax.proofs.Nested.{law_4008, law_4012}
use Rattle.pv_choiceax.proofs.Equations.{twice_no_truth, low_truth, e4004, e4005, e4014, e4015, e4016, e4017, e4018, e4019, e4020, e4021, e4022, e4023, e4024}

abbrev x : Term
x = v_ 0

abbrev y : Term
y = v_ 1

abbrev is_zero : Term → Term
is_zero t = two Ieq t (lit int (pos 0))

abbrev bit : Term → Term
bit t = two Iand t (lit int (pos 1))

pub bound_laws : Laws bounds
bound_laws = (
  scalar_law 4004 (λ j. int) (two Ilt (lit int (pos 0)) x) (is_zero (two Ilt x (lit int (pos 1)))) [] refl (λ e f. e4004 (e 0)),
  (scalar_law 4005 (λ j. int) (two Ilt x (lit int (pos 0))) (is_zero (two Ilt (lit int (negsuc 0)) x)) [] refl (λ e f. e4005 (e 0)), tt),
)

pub truth_laws : Laws truths
truth_laws = (
  scalar_law 4006 (λ j. int) (is_zero (is_zero (two Ieq x y))) (two Ieq x y) [] refl (λ e f. twice_no_truth (int_eq (e 0) (e 1))),
  (
    scalar_law 4007 (λ j. int) (is_zero (is_zero (two Ilt x y))) (two Ilt x y) [] refl (λ e f. twice_no_truth (int_lt (e 0) (e 1))),
    (
      law_4008,
      (
        scalar_law 4009 (λ j. long) (is_zero (is_zero (two Leq x y))) (two Leq x y) [] refl (λ e f. twice_no_truth (int_eq (e 0) (e 1))),
        (
          scalar_law 4010 (λ j. int) (bit (two Ieq x y)) (two Ieq x y) [] refl (λ e f. low_truth (int_eq (e 0) (e 1))),
          (
            scalar_law 4011 (λ j. int) (bit (two Ilt x y)) (two Ilt x y) [] refl (λ e f. low_truth (int_lt (e 0) (e 1))),
            (law_4012, (scalar_law 4013 (λ j. long) (bit (two Leq x y)) (two Leq x y) [] refl (λ e f. low_truth (int_eq (e 0) (e 1))), tt)),
          ),
        ),
      ),
    ),
  ),
)

pub half_laws : Laws low_halves
half_laws = (
  scalar_law 4014 (λ j. long) (one L2i (two Ladd x y)) (two Iadd (one L2i x) (one L2i y)) [] refl (λ e f. e4014 (e 0) (e 1)),
  (
    scalar_law 4015 (λ j. long) (one L2i (two Lsub x y)) (two Isub (one L2i x) (one L2i y)) [] refl (λ e f. e4015 (e 0) (e 1)),
    (
      scalar_law 4016 (λ j. long) (one L2i (two Lmul x y)) (two Imul (one L2i x) (one L2i y)) [] refl (λ e f. e4016 (e 0) (e 1)),
      (
        scalar_law 4017 (λ j. long) (one L2i (two Land x y)) (two Iand (one L2i x) (one L2i y)) [] refl (λ e f. e4017 (e 0) (e 1) (f 0) (f 1)),
        (
          scalar_law 4018 (λ j. long) (one L2i (two Lor x y)) (two Ior (one L2i x) (one L2i y)) [] refl (λ e f. e4018 (e 0) (e 1) (f 0) (f 1)),
          (
            scalar_law 4019 (λ j. long) (one L2i (two Lxor x y)) (two Ixor (one L2i x) (one L2i y)) [] refl (λ e f. e4019 (e 0) (e 1) (f 0) (f 1)),
            (scalar_law 4020 (λ j. long) (one L2i (one Lneg x)) (one Ineg (one L2i x)) [] refl (λ e f. e4020 (e 0)), tt),
          ),
        ),
      ),
    ),
  ),
)

pub narrowing_laws : Laws narrowings
narrowing_laws = (
  scalar_law 4021 (λ j. int) (one I2b (two Iand x (lit int (pos 255)))) (one I2b x) [] refl (λ e f. e4021 (e 0) (f 0)),
  (
    scalar_law 4022 (λ j. int) (one I2s (two Iand x (lit int (pos 65535)))) (one I2s x) [] refl (λ e f. e4022 (e 0) (f 0)),
    (
      scalar_law 4023 (λ j. int) (one I2c (two Iand x (lit int (pos 65535)))) (one I2c x) [] refl (λ e f. e4023 (e 0) (f 0)),
      (scalar_law 4024 (λ j. int) (one I2c x) (two Iand x (lit int (pos 65535))) [] refl (λ e f. e4024 (e 0) (f 0)), tt),
    ),
  ),
)
