-- Bytes that are put one after the other.
use Rattle.std.proofs.Common.{◌≡◌, ℕ, suc, ◌+◌, ◌<◌, List, [], ◌∷◌, ◌++◌, length, map, get_or, drop, refl, sym, ap, ◌∙◌, arith, append_assoc, append-nil, drop-cons}
use Rattle.std.specs.List.{flat_map}

-- what was put last, and what was put before it
pub put_before : (o p q a b : List ℕ) → o ≡ p ++ a → p ≡ q ++ b → o ≡ q ++ (b ++ a)
put_before o p q a b last first = last ∙ ap (λ (front : List ℕ). front ++ a) first ∙ append_assoc q b a

pub put_last : (o p a b : List ℕ) → o ≡ p ++ a → a ≡ b → o ≡ p ++ (b ++ [])
put_last o p a b last is = last ∙ ap (λ (end : List ℕ). p ++ end) (is ∙ sym (append-nil b))

pub put_first : (o p a : List ℕ) → o ≡ p ++ a → p ≡ [] → o ≡ a
put_first o p a last first = last ∙ ap (λ (front : List ℕ). front ++ a) first

pub count_mapped : {X Y : Type 0} (h : X → Y) (xs : List X) → length (map h xs) ≡ length xs
count_mapped h [] = refl
count_mapped h (x ∷ xs) = ap suc (count_mapped h xs)

-- one more of a list
pub flat_more : {X Y : Type 0} (g : Y → List ℕ) (h : X → Y) (out later all : List ℕ) (xs : List X) (i : ℕ) (x : X) → i < length xs → x ≡ get_or xs i x → later ≡ out ++ g (h x) → out ++ flat_map g (map h (drop i xs)) ≡ all
    → later ++ flat_map g (map h (drop (i + 1) xs)) ≡ all
flat_more {X} {Y} g h out later all xs i x within here more so_far =
    let same : suc i ≡ i + 1 = omega arith in
    let split : drop i xs ≡ x ∷ drop (i + 1) xs = drop-cons xs i x within ∙ ap (λ (y : X). y ∷ drop (suc i) xs) (sym here) ∙ ap (λ (k : ℕ). x ∷ drop k xs) same in
    let rest : List ℕ = flat_map g (map h (drop (i + 1) xs)) in
    ap (λ (front : List ℕ). front ++ rest) more ∙ append_assoc out (g (h x)) rest ∙ ap (λ (ys : List X). out ++ flat_map g (map h ys)) (sym split) ∙ so_far
