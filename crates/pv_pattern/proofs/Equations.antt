-- Equations on numbers of a width, and on the values of operations on them.
use Rattle.std.specs.Prelude.{◌≡◌, ℕ, zero, suc, ◌<◌, ◌-◌, ◌/◌, ◌%◌, ◌^◌, ℤ, pos, negsuc, neg_ℤ, ◌+ℤ◌, ◌-ℤ◌, ◌*ℤ◌, true, false, unsigned_abs, int_div, int_rem, int_lt, FitsSigned, refl}
use Rattle.std.specs.Int.{Width, w8, w16, w32, w64, int_wrap, int_div_euclid, int_rem_euclid, int_bit_and, int_bit_or, int_bit_xor, cast_unsigned, cast_signed}
use Rattle.std.specs.Int.Bits.{or_add_and, bit_and, bit_or, bit_xor, and_self, and_zero_r, or_self, or_zero_r, xor_self, xor_zero_r, and_lt}
use Rattle.std.specs.Ordering.{int_eq}
use Rattle.std.proofs.Common.{sym, ap, ◌∙◌, arith, lit<, lit≤, lt_of_lt_of_le}
use Rattle.std.proofs.Math.IntN.{suc_ℤ-*ℤ, *ℤ_comm, *ℤ-zero, *ℤ-negsuc, neg_ℤ-neg_ℤ}
use Rattle.std.proofs.Math.Nat.{mod-lt}
use Rattle.std.proofs.Math.Facts.{Fits-of_z, sfits_to_z, sfits_widen, sfits_lit, to_z_pos}
use Rattle.std.proofs.lemmas.Int.{ints, to_z-of_z, of_z-to_z, int_wrap_fits, int_wrap-add_left, int_wrap-add_right, int_wrap-sub_right, int_wrap-mul_left, int_wrap-mul_right, SFits-int_wrap}
use Rattle.std.proofs.lemmas.Nat.{and_mask, and_comm, or_comm, xor_comm, or_lt, xor_lt}
use Rattle.std.proofs.lemmas.Nat.Bits.{bit_at_and, bit_at_or, bit_at_xor, same_from_bits}
use mir.Val.{bits}
use Rattle.pv_value.specs.Operations.{truth, quotient, remainder, sign_of_difference, shifted_left, shifted_right, shifted_right_unsigned}

-- ---- whole numbers

add_comm : (a b : ℤ) → a +ℤ b ≡ b +ℤ a
add_comm a b = omega (arith, ints)

add_assoc : (a b c : ℤ) → (a +ℤ b) +ℤ c ≡ a +ℤ (b +ℤ c)
add_assoc a b c = omega (arith, ints)

sub_is : (a b : ℤ) → a -ℤ b ≡ a +ℤ neg_ℤ b
sub_is a b = omega (arith, ints)

neg_is : (a : ℤ) → neg_ℤ a ≡ pos 0 -ℤ a
neg_is a = omega (arith, ints)

add_neg : (a : ℤ) → a +ℤ neg_ℤ a ≡ pos 0
add_neg a = omega (arith, ints)

neg_add : (a b : ℤ) → neg_ℤ (a +ℤ b) ≡ neg_ℤ a +ℤ neg_ℤ b
neg_add a b = omega (arith, ints)

add_zero : (a : ℤ) → a +ℤ pos 0 ≡ a
add_zero a = omega (arith, ints)

-- products, by the second factor
swap_four : (p q a b : ℤ) → (p +ℤ q) +ℤ (a +ℤ b) ≡ (p +ℤ a) +ℤ (q +ℤ b)
swap_four p q a b = omega (arith, ints)

neg_from_sum : (a b : ℤ) → a +ℤ b ≡ pos 0 → b ≡ neg_ℤ a
neg_from_sum a b e = omega (arith, ints)

mul_suc : (a : ℤ) (n : ℕ) → a *ℤ pos (suc n) ≡ (a *ℤ pos n) +ℤ a
mul_suc a n = *ℤ_comm a (pos (suc n)) ∙ suc_ℤ-*ℤ (pos n) a ∙ ap (λ (q : ℤ). q +ℤ a) (*ℤ_comm (pos n) a)

mul_add_pos : (a b : ℤ) (n : ℕ) → (a +ℤ b) *ℤ pos n ≡ (a *ℤ pos n) +ℤ (b *ℤ pos n)
mul_add_pos a b zero = *ℤ-zero (a +ℤ b) ∙ sym (ap (λ (q : ℤ). q +ℤ (b *ℤ pos 0)) (*ℤ-zero a) ∙ ap (λ (q : ℤ). pos 0 +ℤ q) (*ℤ-zero b))
mul_add_pos a b (suc n) =
    mul_suc (a +ℤ b) n ∙ ap (λ (q : ℤ). q +ℤ (a +ℤ b)) (mul_add_pos a b n) ∙ swap_four (a *ℤ pos n) (b *ℤ pos n) a b
    ∙ sym (ap (λ (q : ℤ). q +ℤ (b *ℤ pos (suc n))) (mul_suc a n) ∙ ap (λ (q : ℤ). ((a *ℤ pos n) +ℤ a) +ℤ q) (mul_suc b n))

mul_add : (a b c : ℤ) → (a +ℤ b) *ℤ c ≡ (a *ℤ c) +ℤ (b *ℤ c)
mul_add a b (pos n) = mul_add_pos a b n
mul_add a b (negsuc n) =
    *ℤ-negsuc (a +ℤ b) n ∙ ap neg_ℤ (mul_add_pos a b (suc n)) ∙ neg_add (a *ℤ pos (suc n)) (b *ℤ pos (suc n))
    ∙ sym (ap (λ (q : ℤ). q +ℤ (b *ℤ negsuc n)) (*ℤ-negsuc a n) ∙ ap (λ (q : ℤ). neg_ℤ (a *ℤ pos (suc n)) +ℤ q) (*ℤ-negsuc b n))

add_mul : (a b c : ℤ) → c *ℤ (a +ℤ b) ≡ (c *ℤ a) +ℤ (c *ℤ b)
add_mul a b c = *ℤ_comm c (a +ℤ b) ∙ mul_add a b c ∙ ap (λ (q : ℤ). q +ℤ (b *ℤ c)) (*ℤ_comm a c) ∙ ap (λ (q : ℤ). (c *ℤ a) +ℤ q) (*ℤ_comm b c)

mul_neg : (a b : ℤ) → a *ℤ neg_ℤ b ≡ neg_ℤ (a *ℤ b)
mul_neg a b = neg_from_sum (a *ℤ b) (a *ℤ neg_ℤ b) (sym (add_mul b (neg_ℤ b) a) ∙ ap (λ (q : ℤ). a *ℤ q) (add_neg b) ∙ *ℤ-zero a)

mul_assoc_pos : (a b : ℤ) (n : ℕ) → (a *ℤ b) *ℤ pos n ≡ a *ℤ (b *ℤ pos n)
mul_assoc_pos a b zero = *ℤ-zero (a *ℤ b) ∙ sym (ap (λ (q : ℤ). a *ℤ q) (*ℤ-zero b) ∙ *ℤ-zero a)
mul_assoc_pos a b (suc n) =
    mul_suc (a *ℤ b) n ∙ ap (λ (q : ℤ). q +ℤ (a *ℤ b)) (mul_assoc_pos a b n) ∙ sym (ap (λ (q : ℤ). a *ℤ q) (mul_suc b n) ∙ add_mul (b *ℤ pos n) b a)

mul_assoc_ : (a b c : ℤ) → (a *ℤ b) *ℤ c ≡ a *ℤ (b *ℤ c)
mul_assoc_ a b (pos n) = mul_assoc_pos a b n
mul_assoc_ a b (negsuc n) = *ℤ-negsuc (a *ℤ b) n ∙ ap neg_ℤ (mul_assoc_pos a b (suc n)) ∙ sym (ap (λ (q : ℤ). a *ℤ q) (*ℤ-negsuc b n) ∙ mul_neg a (b *ℤ pos (suc n)))

mul_minus : (a : ℤ) → a *ℤ negsuc 0 ≡ neg_ℤ a
mul_minus a = omega (arith, ints)

mul_one : (a : ℤ) → a *ℤ pos 1 ≡ a
mul_one a = omega (arith, ints)

mul_zero : (a : ℤ) → a *ℤ pos 0 ≡ pos 0
mul_zero a = omega (arith, ints)

one_mul : (a : ℤ) → pos 1 *ℤ a ≡ a
one_mul a = *ℤ_comm (pos 1) a ∙ mul_one a

euclid_one : (a : ℤ) → int_div_euclid a (pos 1) ≡ a
euclid_one (pos n) = grind (arith, ints)
euclid_one (negsuc n) = grind (arith, ints)

div_one : (a : ℤ) → int_div a (pos 1) ≡ a
div_one (pos n) = grind (arith, ints)
div_one (negsuc n) = grind (arith, ints)

rem_one : (a : ℤ) → int_rem a (pos 1) ≡ pos 0
rem_one (pos n) = grind (arith, ints)
rem_one (negsuc n) = grind (arith, ints)

div_minus : (a : ℤ) → int_div a (negsuc 0) ≡ neg_ℤ a
div_minus (pos n) = grind (arith, ints)
div_minus (negsuc n) = grind (arith, ints)

-- ---- bits

and_assoc_ : (a b c : ℕ) → bit_and (bit_and a b) c ≡ bit_and a (bit_and b c)
and_assoc_ a b c = same_from_bits (bit_and (bit_and a b) c) (bit_and a (bit_and b c)) (λ i. omega (arith, bit_at_and (bit_and a b) c i, bit_at_and a b i, bit_at_and a (bit_and b c) i, bit_at_and b c i))

or_assoc_ : (a b c : ℕ) → bit_or (bit_or a b) c ≡ bit_or a (bit_or b c)
or_assoc_ a b c = same_from_bits (bit_or (bit_or a b) c) (bit_or a (bit_or b c)) (λ i. omega (arith, bit_at_or (bit_or a b) c i, bit_at_or a b i, bit_at_or a (bit_or b c) i, bit_at_or b c i))

xor_assoc_ : (a b c : ℕ) → bit_xor (bit_xor a b) c ≡ bit_xor a (bit_xor b c)
xor_assoc_ a b c = same_from_bits (bit_xor (bit_xor a b) c) (bit_xor a (bit_xor b c)) (λ i. omega (arith, bit_at_xor (bit_xor a b) c i, bit_at_xor a b i, bit_at_xor a (bit_xor b c) i, bit_at_xor b c i))

-- ---- at a width

unsigned_lt : (w : Width) (a : ℤ) → FitsSigned w a → cast_unsigned w a < 2 ^ bits w
unsigned_lt w a f = (Fits-of_z f).fits

mod_below : (n m : ℕ) → n < m → n % m ≡ n
mod_below n m h = grind arith

all_ones : (w : Width) (n : ℕ) → n < 2 ^ bits w → bit_and n (2 ^ bits w - 1) ≡ n
all_ones w n h = and_mask n (bits w) ∙ mod_below n (2 ^ bits w) h

or_ones : (w : Width) (n : ℕ) → n < 2 ^ bits w → bit_or n (2 ^ bits w - 1) ≡ 2 ^ bits w - 1
or_ones w n h = let a = or_add_and n (2 ^ bits w - 1) in let b = all_ones w n h in omega arith

wrap_unsigned : (w : Width) (a : ℤ) → FitsSigned w a → int_wrap w (pos (cast_unsigned w a)) ≡ a
unfolding int_wrap
wrap_unsigned w a f = ap (cast_signed w) (mod_below (cast_unsigned w a) (2 ^ bits w) (unsigned_lt w a f)) ∙ to_z-of_z w a f

module _ (w : Width) where
  wrap_neg : (a : ℤ) → int_wrap w (neg_ℤ (int_wrap w a)) ≡ int_wrap w (neg_ℤ a)
  wrap_neg a = ap (int_wrap w) (neg_is (int_wrap w a)) ∙ int_wrap-sub_right w (pos 0) a ∙ ap (int_wrap w) (sym (neg_is a))

  pub e1 : (a b : ℤ) → int_wrap w (a +ℤ b) ≡ int_wrap w (b +ℤ a)
  e1 a b = ap (int_wrap w) (add_comm a b)

  pub e2 : (a b c : ℤ) → int_wrap w (int_wrap w (a +ℤ b) +ℤ c) ≡ int_wrap w (a +ℤ int_wrap w (b +ℤ c))
  e2 a b c = int_wrap-add_left w (a +ℤ b) c ∙ ap (int_wrap w) (add_assoc a b c) ∙ sym (int_wrap-add_right w a (b +ℤ c))

  pub e3 : (a : ℤ) → FitsSigned w a → int_wrap w (a +ℤ pos 0) ≡ a
  e3 a f = ap (int_wrap w) (add_zero a) ∙ int_wrap_fits w a f

  pub e4 : (a b : ℤ) → int_wrap w (a -ℤ b) ≡ int_wrap w (a +ℤ int_wrap w (neg_ℤ b))
  e4 a b = ap (int_wrap w) (sub_is a b) ∙ sym (int_wrap-add_right w a (neg_ℤ b))

  pub e5 : (a : ℤ) → FitsSigned w a → int_wrap w (neg_ℤ (int_wrap w (neg_ℤ a))) ≡ a
  e5 a f = wrap_neg (neg_ℤ a) ∙ ap (int_wrap w) (neg_ℤ-neg_ℤ a) ∙ int_wrap_fits w a f

  pub e6 : FitsSigned w (pos 0) → (a : ℤ) → int_wrap w (a +ℤ int_wrap w (neg_ℤ a)) ≡ pos 0
  e6 z a = int_wrap-add_right w a (neg_ℤ a) ∙ ap (int_wrap w) (add_neg a) ∙ int_wrap_fits w (pos 0) z

  pub e7 : (a b : ℤ) → int_wrap w (neg_ℤ (int_wrap w (a +ℤ b))) ≡ int_wrap w (int_wrap w (neg_ℤ a) +ℤ int_wrap w (neg_ℤ b))
  e7 a b = wrap_neg (a +ℤ b) ∙ ap (int_wrap w) (neg_add a b) ∙ sym (int_wrap-add_left w (neg_ℤ a) (int_wrap w (neg_ℤ b)) ∙ int_wrap-add_right w (neg_ℤ a) (neg_ℤ b))

  pub e8 : (a b : ℤ) → int_wrap w (a *ℤ b) ≡ int_wrap w (b *ℤ a)
  e8 a b = ap (int_wrap w) (*ℤ_comm a b)

  pub e9 : (a b c : ℤ) → int_wrap w (int_wrap w (a *ℤ b) *ℤ c) ≡ int_wrap w (a *ℤ int_wrap w (b *ℤ c))
  e9 a b c = int_wrap-mul_left w (a *ℤ b) c ∙ ap (int_wrap w) (mul_assoc_ a b c) ∙ sym (int_wrap-mul_right w a (b *ℤ c))

  pub e10 : (a : ℤ) → FitsSigned w a → int_wrap w (a *ℤ pos 1) ≡ a
  e10 a f = ap (int_wrap w) (mul_one a) ∙ int_wrap_fits w a f

  pub e11 : FitsSigned w (pos 0) → (a : ℤ) → int_wrap w (a *ℤ pos 0) ≡ pos 0
  e11 z a = ap (int_wrap w) (mul_zero a) ∙ int_wrap_fits w (pos 0) z

  pub e12 : (a b c : ℤ) → int_wrap w (int_wrap w (a +ℤ b) *ℤ c) ≡ int_wrap w (int_wrap w (a *ℤ c) +ℤ int_wrap w (b *ℤ c))
  e12 a b c = int_wrap-mul_left w (a +ℤ b) c ∙ ap (int_wrap w) (mul_add a b c) ∙ sym (int_wrap-add_left w (a *ℤ c) (int_wrap w (b *ℤ c)) ∙ int_wrap-add_right w (a *ℤ c) (b *ℤ c))

  pub e13 : (a : ℤ) → int_wrap w (a *ℤ negsuc 0) ≡ int_wrap w (neg_ℤ a)
  e13 a = ap (int_wrap w) (mul_minus a)

  -- a shift is a product
  pub e14 : (a : ℤ) (n : ℕ) → int_wrap w (shifted_left a n) ≡ int_wrap w (a *ℤ int_wrap w (shifted_left (pos 1) n))
  e14 a n = ap (λ (q : ℤ). int_wrap w (a *ℤ q)) (sym (one_mul (pos (2 ^ n)))) ∙ sym (int_wrap-mul_right w a (pos 1 *ℤ pos (2 ^ n)))

  -- the bits of two numbers fit
  and_fits : (a b : ℤ) → FitsSigned w a → FitsSigned w b → FitsSigned w (int_bit_and w a b)
  and_fits a b f g = sfits_to_z (record { fits = and_lt (bits w) (cast_unsigned w a) (cast_unsigned w b) (unsigned_lt w a f) (unsigned_lt w b g) })

  or_fits : (a b : ℤ) → FitsSigned w a → FitsSigned w b → FitsSigned w (int_bit_or w a b)
  or_fits a b f g = sfits_to_z (record { fits = or_lt (bits w) (cast_unsigned w a) (cast_unsigned w b) (unsigned_lt w a f) (unsigned_lt w b g) })

  xor_fits : (a b : ℤ) → FitsSigned w a → FitsSigned w b → FitsSigned w (int_bit_xor w a b)
  xor_fits a b f g = sfits_to_z (record { fits = xor_lt (bits w) (cast_unsigned w a) (cast_unsigned w b) (unsigned_lt w a f) (unsigned_lt w b g) })

  and_stays : (a b : ℤ) → FitsSigned w a → FitsSigned w b → int_wrap w (int_bit_and w a b) ≡ int_bit_and w a b
  and_stays a b f g = int_wrap_fits w (int_bit_and w a b) (and_fits a b f g)

  or_stays : (a b : ℤ) → FitsSigned w a → FitsSigned w b → int_wrap w (int_bit_or w a b) ≡ int_bit_or w a b
  or_stays a b f g = int_wrap_fits w (int_bit_or w a b) (or_fits a b f g)

  xor_stays : (a b : ℤ) → FitsSigned w a → FitsSigned w b → int_wrap w (int_bit_xor w a b) ≡ int_bit_xor w a b
  xor_stays a b f g = int_wrap_fits w (int_bit_xor w a b) (xor_fits a b f g)

  and_cast : (a b : ℤ) → FitsSigned w a → FitsSigned w b → cast_unsigned w (int_bit_and w a b) ≡ bit_and (cast_unsigned w a) (cast_unsigned w b)
  and_cast a b f g = of_z-to_z w _ (and_lt (bits w) (cast_unsigned w a) (cast_unsigned w b) (unsigned_lt w a f) (unsigned_lt w b g))

  or_cast : (a b : ℤ) → FitsSigned w a → FitsSigned w b → cast_unsigned w (int_bit_or w a b) ≡ bit_or (cast_unsigned w a) (cast_unsigned w b)
  or_cast a b f g = of_z-to_z w _ (or_lt (bits w) (cast_unsigned w a) (cast_unsigned w b) (unsigned_lt w a f) (unsigned_lt w b g))

  xor_cast : (a b : ℤ) → FitsSigned w a → FitsSigned w b → cast_unsigned w (int_bit_xor w a b) ≡ bit_xor (cast_unsigned w a) (cast_unsigned w b)
  xor_cast a b f g = of_z-to_z w _ (xor_lt (bits w) (cast_unsigned w a) (cast_unsigned w b) (unsigned_lt w a f) (unsigned_lt w b g))

  pub e15 : (a b : ℤ) → int_wrap w (int_bit_and w a b) ≡ int_wrap w (int_bit_and w b a)
  e15 a b = ap (λ (n : ℕ). int_wrap w (cast_signed w n)) (and_comm (cast_unsigned w a) (cast_unsigned w b))

  pub e16 : (a b c : ℤ) → FitsSigned w a → FitsSigned w b → FitsSigned w c → int_wrap w (int_bit_and w (int_wrap w (int_bit_and w a b)) c) ≡ int_wrap w (int_bit_and w a (int_wrap w (int_bit_and w b c)))
  e16 a b c f g h =
      ap (λ (z : ℤ). int_wrap w (int_bit_and w z c)) (and_stays a b f g)
      ∙ ap (λ (k : ℕ). int_wrap w (cast_signed w (bit_and k (cast_unsigned w c)))) (and_cast a b f g)
      ∙ ap (λ (k : ℕ). int_wrap w (cast_signed w k)) (and_assoc_ (cast_unsigned w a) (cast_unsigned w b) (cast_unsigned w c))
      ∙ ap (λ (k : ℕ). int_wrap w (cast_signed w (bit_and (cast_unsigned w a) k))) (sym (and_cast b c g h))
      ∙ ap (λ (z : ℤ). int_wrap w (int_bit_and w a z)) (sym (and_stays b c g h))

  pub e17 : (a : ℤ) → FitsSigned w a → int_wrap w (int_bit_and w a a) ≡ a
  e17 a f = ap (λ (k : ℕ). int_wrap w (cast_signed w k)) (and_self (cast_unsigned w a)) ∙ ap (int_wrap w) (to_z-of_z w a f) ∙ int_wrap_fits w a f

  pub e20 : (a b : ℤ) → int_wrap w (int_bit_or w a b) ≡ int_wrap w (int_bit_or w b a)
  e20 a b = ap (λ (n : ℕ). int_wrap w (cast_signed w n)) (or_comm (cast_unsigned w a) (cast_unsigned w b))

  pub e21 : (a b c : ℤ) → FitsSigned w a → FitsSigned w b → FitsSigned w c → int_wrap w (int_bit_or w (int_wrap w (int_bit_or w a b)) c) ≡ int_wrap w (int_bit_or w a (int_wrap w (int_bit_or w b c)))
  e21 a b c f g h =
      ap (λ (z : ℤ). int_wrap w (int_bit_or w z c)) (or_stays a b f g)
      ∙ ap (λ (k : ℕ). int_wrap w (cast_signed w (bit_or k (cast_unsigned w c)))) (or_cast a b f g)
      ∙ ap (λ (k : ℕ). int_wrap w (cast_signed w k)) (or_assoc_ (cast_unsigned w a) (cast_unsigned w b) (cast_unsigned w c))
      ∙ ap (λ (k : ℕ). int_wrap w (cast_signed w (bit_or (cast_unsigned w a) k))) (sym (or_cast b c g h))
      ∙ ap (λ (z : ℤ). int_wrap w (int_bit_or w a z)) (sym (or_stays b c g h))

  pub e22 : (a : ℤ) → FitsSigned w a → int_wrap w (int_bit_or w a a) ≡ a
  e22 a f = ap (λ (k : ℕ). int_wrap w (cast_signed w k)) (or_self (cast_unsigned w a)) ∙ ap (int_wrap w) (to_z-of_z w a f) ∙ int_wrap_fits w a f

  pub e25 : (a b : ℤ) → int_wrap w (int_bit_xor w a b) ≡ int_wrap w (int_bit_xor w b a)
  e25 a b = ap (λ (n : ℕ). int_wrap w (cast_signed w n)) (xor_comm (cast_unsigned w a) (cast_unsigned w b))

  pub e26 : (a b c : ℤ) → FitsSigned w a → FitsSigned w b → FitsSigned w c → int_wrap w (int_bit_xor w (int_wrap w (int_bit_xor w a b)) c) ≡ int_wrap w (int_bit_xor w a (int_wrap w (int_bit_xor w b c)))
  e26 a b c f g h =
      ap (λ (z : ℤ). int_wrap w (int_bit_xor w z c)) (xor_stays a b f g)
      ∙ ap (λ (k : ℕ). int_wrap w (cast_signed w (bit_xor k (cast_unsigned w c)))) (xor_cast a b f g)
      ∙ ap (λ (k : ℕ). int_wrap w (cast_signed w k)) (xor_assoc_ (cast_unsigned w a) (cast_unsigned w b) (cast_unsigned w c))
      ∙ ap (λ (k : ℕ). int_wrap w (cast_signed w (bit_xor (cast_unsigned w a) k))) (sym (xor_cast b c g h))
      ∙ ap (λ (z : ℤ). int_wrap w (int_bit_xor w a z)) (sym (xor_stays b c g h))

  -- with 0, whose bits are 0
  pub e18 : FitsSigned w (cast_signed w 0) → (a : ℤ) → int_wrap w (int_bit_and w a (pos 0)) ≡ cast_signed w 0
  e18 z a = ap (λ (k : ℕ). int_wrap w (cast_signed w k)) (and_zero_r (cast_unsigned w a)) ∙ int_wrap_fits w (cast_signed w 0) z

  pub e23 : (a : ℤ) → FitsSigned w a → int_wrap w (int_bit_or w a (pos 0)) ≡ a
  e23 a f = ap (λ (k : ℕ). int_wrap w (cast_signed w k)) (or_zero_r (cast_unsigned w a)) ∙ ap (int_wrap w) (to_z-of_z w a f) ∙ int_wrap_fits w a f

  pub e27 : FitsSigned w (cast_signed w 0) → (a : ℤ) → int_wrap w (int_bit_xor w a a) ≡ cast_signed w 0
  e27 z a = ap (λ (k : ℕ). int_wrap w (cast_signed w k)) (xor_self (cast_unsigned w a)) ∙ int_wrap_fits w (cast_signed w 0) z

  pub e28 : (a : ℤ) → FitsSigned w a → int_wrap w (int_bit_xor w a (pos 0)) ≡ a
  e28 a f = ap (λ (k : ℕ). int_wrap w (cast_signed w k)) (xor_zero_r (cast_unsigned w a)) ∙ ap (int_wrap w) (to_z-of_z w a f) ∙ int_wrap_fits w a f

  pub e29 : (a : ℤ) → FitsSigned w a → int_wrap w (quotient a (pos 1)) ≡ a
  e29 a f = ap (int_wrap w) (div_one a) ∙ int_wrap_fits w a f

  pub e30 : FitsSigned w (pos 0) → (a : ℤ) → int_wrap w (remainder a (pos 1)) ≡ pos 0
  e30 z a = ap (int_wrap w) (rem_one a) ∙ int_wrap_fits w (pos 0) z

  pub e31 : (a : ℤ) → int_wrap w (quotient a (negsuc 0)) ≡ int_wrap w (neg_ℤ a)
  e31 a = ap (int_wrap w) (div_minus a)

  -- shifts by 0
  pub e32 : (a : ℤ) → FitsSigned w a → int_wrap w (shifted_left a 0) ≡ a
  e32 a f = e10 a f

  pub e33 : (a : ℤ) → FitsSigned w a → int_wrap w (shifted_right a 0) ≡ a
  e33 a f = ap (int_wrap w) (euclid_one a) ∙ int_wrap_fits w a f

  pub e34 : (a : ℤ) → FitsSigned w a → int_wrap w (shifted_right_unsigned w a 0) ≡ a
  e34 a f = let p : cast_unsigned w a / 2 ^ 0 ≡ cast_unsigned w a = omega arith in ap (λ (k : ℕ). int_wrap w (pos k)) p ∙ wrap_unsigned w a f

  -- with -1, whose bits are 1
  pub e19 : (a : ℤ) → FitsSigned w a → cast_unsigned w (negsuc 0) ≡ 2 ^ bits w - 1 → int_wrap w (int_bit_and w a (negsuc 0)) ≡ a
  e19 a f e =
      ap (λ (k : ℕ). int_wrap w (cast_signed w (bit_and (cast_unsigned w a) k))) e ∙ ap (λ (k : ℕ). int_wrap w (cast_signed w k)) (all_ones w (cast_unsigned w a) (unsigned_lt w a f))
      ∙ ap (int_wrap w) (to_z-of_z w a f) ∙ int_wrap_fits w a f

  pub e24 : (a : ℤ) → FitsSigned w a → FitsSigned w (negsuc 0) → cast_unsigned w (negsuc 0) ≡ 2 ^ bits w - 1 → int_wrap w (int_bit_or w a (negsuc 0)) ≡ negsuc 0
  e24 a f g e =
      ap (λ (k : ℕ). int_wrap w (cast_signed w (bit_or (cast_unsigned w a) k))) e ∙ ap (λ (k : ℕ). int_wrap w (cast_signed w k)) (or_ones w (cast_unsigned w a) (unsigned_lt w a f) ∙ sym e)
      ∙ ap (int_wrap w) (to_z-of_z w (negsuc 0) g) ∙ int_wrap_fits w (negsuc 0) g

-- ---- comparisons

eq_turned : (a b : ℤ) → int_eq a b ≡ int_eq b a
eq_turned a b = grind (arith, ints)

eq_self : (a : ℤ) → int_eq a a ≡ true
eq_self a = grind (arith, ints)

lt_self : (a : ℤ) → int_lt a a ≡ false
lt_self a = grind (arith, ints)

pub e37 : (a b : ℤ) → int_wrap w32 (truth (int_eq a b)) ≡ int_wrap w32 (truth (int_eq b a))
e37 a b = ap (λ t. int_wrap w32 (truth t)) (eq_turned a b)

pub e38 : (a : ℤ) → int_wrap w32 (truth (int_eq a a)) ≡ pos 1
e38 a = ap (λ t. int_wrap w32 (truth t)) (eq_self a) ∙ int_wrap_fits w32 (pos 1) (sfits_lit tt)

pub e39 : (a : ℤ) → int_wrap w32 (truth (int_lt a a)) ≡ pos 0
e39 a = ap (λ t. int_wrap w32 (truth t)) (lt_self a) ∙ int_wrap_fits w32 (pos 0) (sfits_lit tt)

no_difference : (a : ℤ) → sign_of_difference a a ≡ pos 0
no_difference a = let e = lt_self a in rw e refl

pub e139 : (a : ℤ) → int_wrap w32 (sign_of_difference a a) ≡ pos 0
e139 a = ap (int_wrap w32) (no_difference a) ∙ int_wrap_fits w32 (pos 0) (sfits_lit tt)

-- ---- narrowing

-- what is cut to a width stays as it is at a wider one
pub wrap_wider : (w : Width) (a : ℤ) → FitsSigned w32 (int_wrap w a) → int_wrap w32 (int_wrap w a) ≡ int_wrap w a
wrap_wider w a f = int_wrap_fits w32 (int_wrap w a) f

pub byte_fits : (a : ℤ) → FitsSigned w32 (int_wrap w8 a)
byte_fits a = sfits_widen tt (SFits-int_wrap w8 a)

pub short_fits : (a : ℤ) → FitsSigned w32 (int_wrap w16 a)
short_fits a = sfits_widen tt (SFits-int_wrap w16 a)

pub e40 : (w : Width) (a : ℤ) → FitsSigned w32 (int_wrap w a) → int_wrap w32 (int_wrap w (int_wrap w32 (int_wrap w a))) ≡ int_wrap w32 (int_wrap w a)
e40 w a f = ap (λ (z : ℤ). int_wrap w32 (int_wrap w z)) (wrap_wider w a f) ∙ ap (int_wrap w32) (int_wrap_fits w (int_wrap w a) (SFits-int_wrap w a))

-- the low bits of the low bits
pub rem_again : (a : ℤ) (d : ℕ) → 0 < d → int_rem_euclid (int_rem_euclid a (pos d)) (pos d) ≡ int_rem_euclid a (pos d)
rem_again (pos n) d h = ap pos (mod_below (n % d) d (mod-lt n h))
rem_again (negsuc n) d h = ap pos (mod_below (d - 1 - n % d) d (omega (arith, h)))

-- the lowest bit
parity : (a : ℤ) → FitsSigned w32 a → cast_unsigned w32 a % 2 ≡ unsigned_abs (int_rem_euclid a (pos 2))
parity (pos n) f = refl
parity (negsuc n) f = let h : n < 2147483648 = f.sfits in omega (arith, h)

low_is : (a : ℤ) → pos (unsigned_abs (int_rem_euclid a (pos 2))) ≡ int_rem_euclid a (pos 2)
low_is (pos n) = refl
low_is (negsuc n) = refl

pub and_one : (a : ℤ) → FitsSigned w32 a → int_bit_and w32 a (pos 1) ≡ int_rem_euclid a (pos 2)
and_one a f =
    ap (cast_signed w32) (and_mask (cast_unsigned w32 a) 1) ∙ to_z_pos w32 (lt_of_lt_of_le (mod-lt (cast_unsigned w32 a) (lit< tt)) (lit≤ tt)) ∙ ap pos (parity a f) ∙ low_is a

pub e41 : (a : ℤ) → FitsSigned w32 (int_rem_euclid a (pos 65536)) → int_wrap w32 (int_rem_euclid (int_wrap w32 (int_rem_euclid a (pos 65536))) (pos 65536)) ≡ int_wrap w32 (int_rem_euclid a (pos 65536))
e41 a f = ap (λ (z : ℤ). int_wrap w32 (int_rem_euclid z (pos 65536))) (int_wrap_fits w32 (int_rem_euclid a (pos 65536)) f) ∙ ap (int_wrap w32) (rem_again a 65536 (lit< tt))

pub e43 : (a : ℤ) → FitsSigned w32 a → int_wrap w32 (int_wrap w64 a) ≡ a
e43 a f = ap (int_wrap w32) (int_wrap_fits w64 a (sfits_widen tt f)) ∙ int_wrap_fits w32 a f
