-- What loops over lists have made so far.
use Rattle.std.proofs.Common.{◌≡◌, ℕ, zero, suc, ◌+◌, ◌<◌, List, [], ◌∷◌, ◌++◌, length, take, get_or, Some, refl, sym, ap, subst, ◌∙◌, arith}
use Rattle.std.specs.Prelude.{slice_get}
use Rattle.std.specs.List.{AllZip, flat_map}
use Rattle.std.proofs.lemmas.List.{flat_map_more}
use Rattle.std.proofs.lemmas.Option.{slice_get-get_or}
use Rattle.pv_report.specs.Lines.{line_text}
use Rattle.pv_report.specs.Listed.{lines_by}

take_suc : {A : Type 0} (xs : List A) (i : ℕ) (x : A) → slice_get xs i ≡ Some x → take (suc i) xs ≡ take i xs ++ x ∷ []
take_suc [] i x at = absurd (cc at)
take_suc {A = A} (y ∷ xs) zero x at = let same : y ≡ x = cc at in ap (λ (z : A). z ∷ []) same
take_suc {A = A} (y ∷ xs) (suc i) x at = ap (λ (zs : List A). y ∷ zs) (take_suc xs i x at)

-- the first elements, and one more
pub take_next : {A : Type 0} (xs : List A) (i : ℕ) (x : A) → slice_get xs i ≡ Some x → take (i + 1) xs ≡ take i xs ++ x ∷ []
take_next {A = A} xs i x at = let next : i + 1 ≡ suc i = omega arith in ap (λ (n : ℕ). take n xs) next ∙ take_suc xs i x at

-- ---- what is said of each

zip_push : {X Y : Type 0} (Is : X → Y → Type 0) (xs : List X) (ys : List Y) (x : X) (y : Y) → AllZip Is xs ys → Is x y → AllZip Is (xs ++ x ∷ []) (ys ++ y ∷ [])
zip_push Is [] [] x y h is = (is, tt)
zip_push Is (v ∷ xs) (w ∷ ys) x y h is = (h.0, zip_push Is xs ys x y h.1 is)
zip_push Is _ _ x y h is = absurd h

pub zip_next : {X Y : Type 0} (Is : X → Y → Type 0) (xs : List X) (i : ℕ) (ys : List Y) (x : X) (y : Y) → slice_get xs i ≡ Some x → AllZip Is (take i xs) ys → Is x y → AllZip Is (take (i + 1) xs) (ys ++ y ∷ [])
zip_next {X = X} Is xs i ys x y at h is = subst (λ (front : List X). AllZip Is front (ys ++ y ∷ [])) (sym (take_next xs i x at)) (zip_push Is (take i xs) ys x y h is)

pub zip_length : {X Y : Type 0} (Is : X → Y → Type 0) (xs : List X) (ys : List Y) → AllZip Is xs ys → length ys ≡ length xs
zip_length Is [] [] h = refl
zip_length Is (x ∷ xs) (y ∷ ys) h = ap suc (zip_length Is xs ys h.1)
zip_length Is _ _ h = absurd h

-- ---- the lines

lines_suc : {X Y : Type 0} (line : X → Y → List ℕ) (xs : List X) (ys : List Y) (i : ℕ) (x : X) (y : Y) → slice_get xs i ≡ Some x → slice_get ys i ≡ Some y → lines_by line (take (suc i) xs) (take (suc i) ys) ≡ lines_by line (take i xs) (take i ys) ++ line x y ∷ []
lines_suc line [] ys i x y at here = absurd (cc at)
lines_suc line (v ∷ xs) [] i x y at here = absurd (cc here)
lines_suc {X = X} {Y = Y} line (v ∷ xs) (w ∷ ys) zero x y at here =
    let one : v ≡ x = cc at in
    let two : w ≡ y = cc here in
    ap (λ (z : X). line z w ∷ []) one ∙ ap (λ (z : Y). line x z ∷ []) two
lines_suc line (v ∷ xs) (w ∷ ys) (suc i) x y at here = ap (λ (l : List (List ℕ)). line v w ∷ l) (lines_suc line xs ys i x y at here)

lines_next : {X Y : Type 0} (line : X → Y → List ℕ) (xs : List X) (ys : List Y) (i : ℕ) (x : X) (y : Y) → slice_get xs i ≡ Some x → slice_get ys i ≡ Some y
    → flat_map line_text (lines_by line (take (i + 1) xs) (take (i + 1) ys)) ≡ flat_map line_text (lines_by line (take i xs) (take i ys)) ++ line_text (line x y)
lines_next {X = X} {Y = Y} line xs ys i x y at here =
    let next : i + 1 ≡ suc i = omega arith in
    ap (λ (n : ℕ). flat_map line_text (lines_by line (take n xs) (take n ys))) next
    ∙ ap (flat_map line_text) (lines_suc line xs ys i x y at here)
    ∙ sym (flat_map_more line_text [] (lines_by line (take i xs) (take i ys)) (line x y))

-- .. where the second element is read from its list
pub lines_at : {X Y : Type 0} (line : X → Y → List ℕ) (xs : List X) (ys : List Y) (i : ℕ) (x : X) (d : Y) → slice_get xs i ≡ Some x → i < length ys
    → flat_map line_text (lines_by line (take (i + 1) xs) (take (i + 1) ys)) ≡ flat_map line_text (lines_by line (take i xs) (take i ys)) ++ line_text (line x (get_or ys i d))
lines_at line xs ys i x d at lt = lines_next line xs ys i x (get_or ys i d) at (slice_get-get_or ys i d lt)
