-- The pieces of a cut, one after another, are the whole.
use Rattle.std.proofs.Common.{◌≡◌, ℕ, ◌+◌, ◌-◌, ◌*◌, ◌/◌, ◌%◌, ◌<◌, ◌≤◌, List, [], ◌∷◌, Some, length, suc, zero, take, drop, ◌++◌, refl, sym, ap, subst, ◌∙◌, arith}
use Rattle.std.specs.Prelude.{slice_get}
use Rattle.std.specs.List.{flat_map}
use Rattle.std.proofs.Math.Seq.{take-add, take-length}
use Rattle.std.proofs.Math.Nat.{suc-mul, div-add-mod, min-le_left}
use Rattle.std.proofs.lemmas.List.Concat.{flat_map-append}
use Rattle.pv_pieces.specs.Cut.{start_of, between, nth_piece, joined}

-- the first items up to place b are those up to place a and those between
take_between : {X : Type 0} (xs : List X) (a b : ℕ) → a ≤ b → take b xs ≡ take a xs ++ between xs a b
take_between xs a b le = subst (λ (n : ℕ). take n xs ≡ take a xs ++ take (b - a) (drop a xs)) (omega (arith, le)) (take-add a (b - a) xs)

-- no items stand between a place and itself
pub between_none : {X : Type 0} (xs : List X) (a : ℕ) → between xs a a ≡ []
between_none xs a = let none : a - a ≡ 0 = omega arith in ap (λ (n : ℕ). take n (drop a xs)) none

-- the items from the first place to the end are all
pub between_all : {X : Type 0} (xs : List X) → between xs 0 (length xs) ≡ xs
between_all xs = let all : length xs - 0 ≡ length xs = omega arith in ap (λ (n : ℕ). take n xs) all ∙ take-length xs

get_drop : {X : Type 0} (a : ℕ) (xs : List X) (i : ℕ) → slice_get (drop a xs) i ≡ slice_get xs (a + i)
get_drop zero xs i = ap (slice_get xs) (let z : i ≡ 0 + i = omega arith in z)
get_drop (suc a) [] i = refl
get_drop (suc a) (x ∷ xs) i = get_drop a xs i ∙ ap (slice_get (x ∷ xs)) (let z : suc (a + i) ≡ suc a + i = omega arith in z)

take_next : {X : Type 0} (xs : List X) (i : ℕ) (x : X) → slice_get xs i ≡ Some x → take (suc i) xs ≡ take i xs ++ x ∷ []
take_next [] i x at = absurd (cc at)
take_next {X = X} (y ∷ xs) zero x at = let same : y ≡ x = cc at in ap (λ (z : X). z ∷ []) same
take_next {X = X} (y ∷ xs) (suc i) x at = ap (λ (zs : List X). y ∷ zs) (take_next xs i x at)

-- .. and between it and a later one one item more than before that
pub between_next : {X : Type 0} (xs : List X) (a k : ℕ) (x : X) → a ≤ k → slice_get xs k ≡ Some x → between xs a (k + 1) ≡ between xs a k ++ x ∷ []
between_next {X = X} xs a k x le at =
    let next : k + 1 - a ≡ suc (k - a) = omega (arith, le) in
    let there : a + (k - a) ≡ k = omega (arith, le) in
    ap (λ (n : ℕ). take n (drop a xs)) next
    ∙ take_next (drop a xs) (k - a) x (get_drop a xs (k - a) ∙ ap (λ (n : ℕ). slice_get xs n) there ∙ at)

pub start_first : (n w : ℕ) → start_of n w 0 ≡ 0
start_first n w = grind (arith, min-le_left 0 (n % w))

pub start_next : (n w k : ℕ) → start_of n w k ≤ start_of n w (k + 1)
start_next n w k =
    let more : (k + 1) * (n / w) ≡ k * (n / w) + n / w = subst (λ (j : ℕ). j * (n / w) ≡ k * (n / w) + n / w) (omega arith) (suc-mul k (n / w)) in
    grind (arith, more)

-- the lengths of pieces differ by at most one
pub lengths_alike : (n w k : ℕ) → (start_of n w k + n / w ≤ start_of n w (k + 1)) × (start_of n w (k + 1) ≤ start_of n w k + n / w + 1)
lengths_alike n w k =
    let more : (k + 1) * (n / w) ≡ k * (n / w) + n / w = subst (λ (j : ℕ). j * (n / w) ≡ k * (n / w) + n / w) (omega arith) (suc-mul k (n / w)) in
    (grind (arith, more), grind (arith, more))

pub start_last : (n w : ℕ) → 0 < w → start_of n w w ≡ n
start_last n w some =
    let whole = div-add-mod n w in
    let few : n % w < w = omega (arith, some) in
    grind (arith, whole, few)

-- what is found in the first k pieces, put together, is what is found at the items before piece k
joined_before : {X A : Type 0} (f : X → List A) (xs : List X) (w k : ℕ)
    → joined (λ (i : ℕ). flat_map f (nth_piece xs w i)) k ≡ flat_map f (take (start_of (length xs) w k) xs)
joined_before f xs w zero = sym (ap (λ (n : ℕ). flat_map f (take n xs)) (start_first (length xs) w))
joined_before f xs w (suc k) =
    let a = start_of (length xs) w k in
    let b = start_of (length xs) w (k + 1) in
    let next : k + 1 ≡ suc k = omega arith in
    ap (λ l. l ++ flat_map f (between xs a b)) (joined_before f xs w k)
    ∙ sym (flat_map-append f (take a xs) (between xs a b))
    ∙ ap (flat_map f) (sym (take_between xs a b (start_next (length xs) w k)))
    ∙ ap (λ (j : ℕ). flat_map f (take (start_of (length xs) w j) xs)) next

-- .. so all pieces, put together, are the whole
pub joined_whole : {X A : Type 0} (f : X → List A) (xs : List X) (w : ℕ) → 0 < w
    → joined (λ (i : ℕ). flat_map f (nth_piece xs w i)) w ≡ flat_map f xs
joined_whole f xs w some = joined_before f xs w w ∙ ap (λ (n : ℕ). flat_map f (take n xs)) (start_last (length xs) w some) ∙ ap (flat_map f) (take-length xs)

joined_same : {X : Type 0} (f g : ℕ → List X) → ((k : ℕ) → f k ≡ g k) → (n : ℕ) → joined f n ≡ joined g n
joined_same f g same zero = refl
joined_same f g same (suc n) = ap (λ l. l ++ f n) (joined_same f g same n) ∙ ap (λ l. joined g n ++ l) (same n)

single_items : {X : Type 0} (xs : List X) → flat_map (λ x. x ∷ []) xs ≡ xs
single_items [] = refl
single_items {X = X} (x ∷ xs) = ap (λ (l : List X). x ∷ l) (single_items xs)

-- the pieces, one after another, are the whole
pub joined_pieces : {X : Type 0} (xs : List X) (w : ℕ) → 0 < w → joined (λ (k : ℕ). nth_piece xs w k) w ≡ xs
joined_pieces xs w some =
    joined_same (λ (k : ℕ). nth_piece xs w k) (λ (k : ℕ). flat_map (λ x. x ∷ []) (nth_piece xs w k)) (λ k. sym (single_items (nth_piece xs w k))) w
    ∙ joined_whole (λ x. x ∷ []) xs w some ∙ single_items xs
