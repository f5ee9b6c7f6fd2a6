-- Bytes, and the numbers that they spell.
use Rattle.std.proofs.Common.{◌≡◌, ℕ, zero, suc, ◌<◌, List, [], ◌∷◌, ◌++◌, length, get_or, refl, ap, subst, arith}
use Rattle.std.specs.Int.{Width, w8, w16, w32, w64, byte_len, from_be_bytes, to_be_bytes}
use Rattle.std.proofs.lemmas.Nat.{be_bytes_2, be_bytes_4, be_bytes_8, from_be_bytes-to_be_bytes_2, from_be_bytes-to_be_bytes_4, from_be_bytes-to_be_bytes_8}
use Rattle.pv_format.specs.Numbers.{FitsNumber}

abbrev pub IsBytes : List ℕ → Type 0
IsBytes bytes = (i : ℕ) → get_or bytes i 0 < 256

pub IsBytes-left : (t rest : List ℕ) → IsBytes (t ++ rest) → IsBytes t
IsBytes-left [] rest h i = omega arith
IsBytes-left (b ∷ t) rest h zero = h zero
IsBytes-left (b ∷ t) rest h (suc i) = IsBytes-left t rest (λ j. h (suc j)) i

pub IsBytes-right : (t rest : List ℕ) → IsBytes (t ++ rest) → IsBytes rest
IsBytes-right [] rest h = h
IsBytes-right (b ∷ t) rest h = IsBytes-right t rest (λ j. h (suc j))

-- bytes after others
pub bytes_after : (bytes t rest : List ℕ) → bytes ≡ t ++ rest → IsBytes bytes → IsBytes rest
bytes_after bytes t rest e fits = IsBytes-right t rest (subst IsBytes e fits)

-- ---- what a text spells

-- an item, and then one that may depend on it
pub record Then (A B : Type 0) (S : List ℕ → A → Type 0) (T : A → List ℕ → B → Type 0) (t : List ℕ) (y : B) : Type 0 where
  pub first : A
  pub front : List ℕ
  pub back : List ℕ
  pub parts : t ≡ front ++ back
  pub fits : S front first
  pub others : T first back y

abbrev pub Done : {B : Type 0} → B → List ℕ → B → Type 0
Done y t z = (t ≡ []) × (z ≡ y)

abbrev pub Number : Width → List ℕ → ℕ → Type 0
Number w t n = (t ≡ to_be_bytes w n) × FitsNumber w n

abbrev pub Run : ℕ → List ℕ → List ℕ → Type 0
Run n t x = (t ≡ x) × (length x ≡ n)

-- ---- numbers of a width

pub record IsWide (w : Width) : Type 0 where
  pub len : (n : ℕ) → length (to_be_bytes w n) ≡ byte_len w
  pub back : (bytes : List ℕ) → length bytes ≡ byte_len w → IsBytes bytes → to_be_bytes w (from_be_bytes w bytes) ≡ bytes
  pub again : (n : ℕ) → FitsNumber w n → from_be_bytes w (to_be_bytes w n) ≡ n
  pub below : (bytes : List ℕ) → IsBytes bytes → FitsNumber w (from_be_bytes w bytes)
  pub zero_fits : FitsNumber w 0

one_byte : (bytes : List ℕ) → length bytes ≡ 1 → IsBytes bytes → to_be_bytes w8 (from_be_bytes w8 bytes) ≡ bytes
one_byte [] len fits = absurd (omega arith)
one_byte (b ∷ []) len fits = let small : b < 256 = fits 0 in ap (λ (n : ℕ). n ∷ []) (omega (arith, small))
one_byte (b ∷ c ∷ bytes) len fits = absurd (omega arith)

pub wide8 : IsWide w8
wide8 = record {
  len = λ n. refl;
  back = one_byte;
  again = λ n lt. omega (arith, lt);
  below = λ bytes fits. omega (arith, fits 0);
  zero_fits = omega arith;
}

pub wide16 : IsWide w16
wide16 = record {
  len = λ n. refl;
  back = λ bytes len fits. be_bytes_2 bytes _ len fits refl;
  again = λ n lt. from_be_bytes-to_be_bytes_2 n lt;
  below = λ bytes fits. omega (arith, fits 0, fits 1);
  zero_fits = omega arith;
}

pub wide32 : IsWide w32
wide32 = record {
  len = λ n. refl;
  back = λ bytes len fits. be_bytes_4 bytes _ len fits refl;
  again = λ n lt. from_be_bytes-to_be_bytes_4 n lt;
  below = λ bytes fits. omega (arith, fits 0, fits 1, fits 2, fits 3);
  zero_fits = omega arith;
}

pub wide64 : IsWide w64
wide64 = record {
  len = λ n. refl;
  back = λ bytes len fits. be_bytes_8 bytes _ len fits refl;
  again = λ n lt. from_be_bytes-to_be_bytes_8 n lt;
  below = λ bytes fits. omega (arith, fits 0, fits 1, fits 2, fits 3, fits 4, fits 5, fits 6, fits 7);
  zero_fits = omega arith;
}
