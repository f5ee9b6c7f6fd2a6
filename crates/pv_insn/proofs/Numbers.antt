-- The texts of numbers, in two's complement too, and of lists of them.
use Rattle.std.proofs.Common.{◌≡◌, ◌↔◌, ℕ, zero, suc, ℤ, ◌+◌, ◌*◌, ◌%◌, ◌^◌, ◌<◌, List, [], ◌∷◌, ◌++◌, length, FitsSigned, refl, sym, ap, subst, ◌∙◌, arith}
use Rattle.std.specs.List.{flat_map, AllByRecursion}
use Rattle.std.specs.Int.{Width, w8, w16, w32, w64, w128, byte_len, to_be_bytes, cast_unsigned, cast_signed}
use mir.Val.{bits}
use Rattle.std.proofs.Math.Facts.{sfits_to_z, Fits-of_lt, Fits-of_z, Fits-lt-pow}
use Rattle.std.proofs.lemmas.Int.{to_z-of_z, of_z-to_z}
use Rattle.std.proofs.lemmas.Grind.{flat_map-append}
use Rattle.std.proofs.lemmas.List.{append-nil}
use Rattle.pv_format.specs.Grammars.{give, bind, run}
use Rattle.pv_format.specs.FreeGrammars.{many}
use Rattle.pv_format.proofs.Cited.{IsTexts, same_texts, then_texts, give_texts, number_texts, made_texts, run_texts, IsWide, wide32, all-append}
use Rattle.pv_insn.specs.Pieces.{IsUnsigned, IsSigned, signed, IsAligned}
use Rattle.pv_format.specs.ByteReading.{cut, number}
use Rattle.pv_insn.specs.Reading.{Reads, integer, padding}

pub unsigned_texts : (w : Width) → IsWide w → IsTexts (number w) 0 (λ t n. IsUnsigned w n t)
unsigned_texts w wide = same_texts (number_texts 0 cut w wide) (λ t n s. (s.1, s.0)) (λ t n s. (s.1, s.0))

whole : (w : Width) → 8 * byte_len w ≡ bits w
whole w8 = refl
whole w16 = refl
whole w32 = refl
whole w64 = refl
whole w128 = refl

pub signed_texts : (w : Width) → IsWide w → IsTexts (integer w) 0 (λ t z. IsSigned w z t)
signed_texts w wide =
    same_texts (made_texts (cast_signed w) (unsigned_texts w wide))
    (λ t z m.
    let lt : m.item < 2 ^ bits w = rw (whole w) at m.fits.0 in
    subst (λ n. IsSigned w n t) (sym m.is) (sfits_to_z (Fits-of_lt lt), m.fits.1 ∙ ap (to_be_bytes w) (sym (of_z-to_z w m.item lt))))
    (λ t z is. record { item = cast_unsigned w z; fits = (rw (whole w) (Fits-lt-pow (Fits-of_z is.0)), is.1); is = sym (to_z-of_z w z is.0) })

-- ---- lists of numbers

abbrev AllFit : List ℤ → Type 0
AllFit ns = AllByRecursion (FitsSigned w32) ns

-- numbers of four bytes, of which something is made
abbrev pub Numbers : {A : Type 0} → (List ℤ → A → Type 0) → List ℕ → A → Type 0
Numbers S t x = (ns : List ℤ) × (t ≡ flat_map (signed w32) ns) × AllFit ns × S ns x

abbrev pub TakesNumbers : {A : Type 0} → Reads A → (List ℤ → A → Type 0) → Type 0
TakesNumbers g S = IsTexts g 0 (Numbers S)

pub same_numbers : {A : Type 0} {g : Reads A} {S T : List ℤ → A → Type 0} → TakesNumbers g S → ((ns : List ℤ) (x : A) → S ns x ↔ T ns x) → TakesNumbers g T
same_numbers f same = same_texts f (λ t x (ns, e, all, s). (ns, e, all, (same ns x).0 s)) (λ t x (ns, e, all, s). (ns, e, all, (same ns x).1 s))

pub no_numbers : {A : Type 0} (y : A) → TakesNumbers (give y) (λ ns x. (ns ≡ []) × (x ≡ y))
no_numbers y = same_texts (give_texts y) (λ t x d. ([], d.0, tt, (refl, d.1))) (λ t x (ns, e, all, (none, is)). (e ∙ ap (flat_map (signed w32)) none, is))

pub one_number : TakesNumbers (integer w32) (λ ns n. ns ≡ n ∷ [])
one_number =
    same_texts (signed_texts w32 wide32) (λ t n s. (n ∷ [], s.1 ∙ sym (append-nil (signed w32 n)), (s.0, tt), refl))
    (λ t n (ns, e, all, is). let fits = subst AllFit is all in (fits.0, e ∙ ap (flat_map (signed w32)) is ∙ append-nil (signed w32 n)))

all_parts : (ms ns : List ℤ) → AllFit (ms ++ ns) → AllFit ms × AllFit ns
all_parts [] ns all = (tt, all)
all_parts (m ∷ ms) ns all = let p = all_parts ms ns all.1 in ((all.0, p.0), p.1)

pub numbers_then : {A B : Type 0} {g : Reads A} {k : A → Reads B} (f : A → List ℤ) (T : A → List ℤ → B → Type 0) → TakesNumbers g (λ ns x. ns ≡ f x) → ((x : A) → TakesNumbers (k x) (T x))
    → TakesNumbers (bind g k) (λ ns y. (x : A) × (ms : List ℤ) × (ns ≡ f x ++ ms) × T x ms y)
numbers_then f T one others =
    let text = flat_map (signed w32) in
    same_texts (then_texts one others)
    (λ t y s.
    let (ns, e, fits, is) = s.fits in
    let (ms, h, all, more) = s.others in
    (ns ++ ms, s.parts ∙ ap (λ (u : List ℕ). u ++ s.back) e ∙ ap (λ (u : List ℕ). text ns ++ u) h ∙ sym (flat_map-append (signed w32) ns ms), all-append (FitsSigned w32) ns ms fits all, (s.first, ms, ap (λ (u : List ℤ). u ++ ms) is, more)))
    (λ t y (ns, e, all, (x, ms, is, more)).
    let fits = all_parts (f x) ms (subst AllFit is all) in
    record { first = x; front = text (f x); back = text ms; parts = e ∙ ap text is ∙ flat_map-append (signed w32) (f x) ms; fits = (f x, refl, fits.0, refl); others = (ms, refl, fits.1, more) })

pub made_numbers : {A B : Type 0} {g : Reads A} (make : A → B) (S : List ℤ → A → Type 0) → TakesNumbers g S → TakesNumbers (bind g (λ x. give (make x))) (λ ns y. (x : A) × S ns x × (y ≡ make x))
made_numbers make S f = same_texts (made_texts make f)
    (λ t y m. let (ns, e, all, s) = m.fits in (ns, e, all, (m.item, s, m.is)))
    (λ t y (ns, e, all, (x, s, is)). record { item = x; fits = (ns, e, all, s); is = is })

-- n items, each of its numbers
abbrev pub Kept : {A : Type 0} → (A → List ℤ) → ℕ → List ℤ → List A → Type 0
Kept f n ns xs = (length xs ≡ n) × (ns ≡ flat_map f xs)

none_kept : {A : Type 0} (f : A → List ℤ) (ns : List ℤ) (xs : List A) → Kept f 0 ns xs → (ns ≡ []) × (xs ≡ [])
none_kept f ns [] s = (s.1, refl)
none_kept f ns (x ∷ xs) s = absurd (let long = s.0 in omega arith)

one_kept : {A : Type 0} (f : A → List ℤ) (n : ℕ) (ns : List ℤ) (ys : List A) → Kept f (suc n) ns ys → (x : A) × (ms : List ℤ) × (ns ≡ f x ++ ms) × ((xs : List A) × Kept f n ms xs × (ys ≡ x ∷ xs))
one_kept f n ns [] s = absurd (let long = s.0 in omega arith)
one_kept f n ns (x ∷ xs) s = (x, flat_map f xs, s.1, (xs, (let long = s.0 in omega arith, refl), refl))

pub many_numbers : {A : Type 0} {g : Reads A} (f : A → List ℤ) → TakesNumbers g (λ ns x. ns ≡ f x) → (n : ℕ) → TakesNumbers (many n g) (Kept f n)
unfolding many
many_numbers f one zero = same_numbers (no_numbers []) (λ ns xs. (λ s. (ap length s.1, s.0 ∙ ap (flat_map f) (sym s.1)), none_kept f ns xs))
many_numbers f one (suc n) =
    same_numbers (numbers_then f _ one (λ x. made_numbers (λ xs. x ∷ xs) (Kept f n) (many_numbers f one n)))
    (λ ns ys. (λ (x, ms, e, (xs, s, is)). subst (Kept f (suc n) ns) (sym is) (ap suc s.0, e ∙ ap (λ (u : List ℤ). f x ++ u) s.1), one_kept f n ns ys))

-- numbers after padding
pub aligned_numbers : {A : Type 0} {g : Reads A} (at : ℕ) (S : List ℤ → A → Type 0) → TakesNumbers g S → IsTexts (bind (run 0 cut (padding at)) (λ skipped. g)) 0 (λ t x. (ns : List ℤ) × IsAligned at ns t × S ns x)
aligned_numbers at S f =
    same_texts (then_texts (run_texts 0 cut (padding at)) (λ skipped. f))
    (λ t x s.
    let (ns, e, all, more) = s.others in
    let long : length s.front ≡ padding at = ap length s.fits.0 ∙ s.fits.1 in
    (ns, record { padding = s.front; few = omega arith; reaches = ap (λ (n : ℕ). (at + n) % 4) long ∙ omega arith; fits = all; spelled = s.parts ∙ ap (λ (u : List ℕ). s.front ++ u) e }, more))
    (λ t x (ns, a, more). record { first = a.padding; front = a.padding; back = flat_map (signed w32) ns; parts = a.spelled; fits = (refl, padded at (length a.padding) a.few a.reaches); others = (ns, refl, a.fits, more) }) where
      padded : (at n : ℕ) → n < 4 → (at + n) % 4 ≡ 0 → n ≡ padding at
      padded at n lt e = omega arith
