-- Each listing that is made has a class.
use Rattle.std.proofs.Common.{◌≡◌, ◌⊎◌, inl, inr, ℕ, zero, suc, ◌+◌, ◌<◌, ◌≤◌, Bool, true, List, [], ◌∷◌, ◌++◌, length, map, Option, Some, Result, Ok, Err, refl, sym, ap, ◌∙◌, arith, append-nil, length-append}
use Rattle.std.specs.Prelude.{codes, decimal}
use Rattle.std.specs.List.{AllByRecursion, flat_map, slice_get}
use Rattle.std.proofs.lemmas.Fmt.{decimal_injective, length-decimal-le_succ}
use Rattle.std.proofs.lemmas.Grind.{flat_map-append}
use Rattle.std.proofs.lemmas.List.{append_cancel_left, length-map, map-append}
use Rattle.std.proofs.lemmas.Option.{slice_get_within}
use Rattle.std.proofs.Math.Nat.{mod-lt}
use Rattle.pv_listing.specs.declared.line.Line.{Line}
use Rattle.pv_listing.specs.declared.line.Line.TheVariants as lines
use Rattle.pv_listing.specs.declared.line.Title.{Title}
use Rattle.pv_asm.specs.Classes.{class_of_lines}
use Rattle.pv_asm.specs.Laws.{AreApart, IsPlain, MethodLines, method_lines}
use Rattle.pv_asm.proofs.Cited.{methods_have_class}
use Rattle.pv_maker.specs.declared.class.TheConstants.{MOST_MADE}
use Rattle.pv_maker.specs.declared.draws.Draw.{Draw}
use Rattle.pv_maker.specs.Classes.{EachIsMade}
use Rattle.pv_maker.specs.Draws.{after, draw_from}
use Rattle.pv_maker.specs.Methods.{body, listing, method, methods}
use Rattle.pv_maker.proofs.Bodies.{byte, code_few, code_in, code_is, code_some}

-- ---- the methods, each as its head and its body

abbrev name_of : ℕ → List ℕ
name_of i = codes "m" ++ decimal i

abbrev title_of : ℕ → Title
title_of i = record { is_static = true; name = name_of i; desc = codes "(II)I"; stack = 3; locals = 5 }

abbrev made_one : Bool → ℕ → Draw → MethodLines
made_one twin i d = record { title = title_of i; body = body twin d.shape d.constant }

abbrev made : Bool → ℕ → ℕ → List MethodLines
made twin seed zero = []
made twin seed (suc n) = made twin seed n ++ made_one twin n (draw_from (after n seed)) ∷ []

made_lines : (twin : Bool) (seed n : ℕ) → flat_map method_lines (made twin seed n) ≡ methods twin seed n
made_lines twin seed zero = refl
made_lines twin seed (suc n) =
    let d : Draw = draw_from (after n seed) in
    flat_map-append method_lines (made twin seed n) (made_one twin n d ∷ []) ∙ ap (λ (front : List Line). front ++ (method twin n d ++ [])) (made_lines twin seed n)
    ∙ ap (λ (last : List Line). methods twin seed n ++ last) (append-nil (method twin n d))

made_long : (twin : Bool) (seed n : ℕ) → length (made twin seed n) ≡ n
made_long twin seed zero = refl
made_long twin seed (suc n) = let both = length-append (made twin seed n) (made_one twin n (draw_from (after n seed)) ∷ []) in omega (arith, both, made_long twin seed n)

-- ---- each has a code

name_short : (i : ℕ) → i ≤ 2000 → length (name_of i) ≤ 65535
name_short i le = let digits = length-decimal-le_succ i (omega (arith, le)) in let both : length (name_of i) ≡ length (codes "m") + length (decimal i) = length-append (codes "m") (decimal i) in omega (arith, digits, both, le)

is_plain : (twin : Bool) (i : ℕ) (d : Draw) → i ≤ 2000 → d.constant < 100 → IsPlain (made_one twin i d)
is_plain twin i d le small = record {
  name = name_short i le;
  desc = omega arith;
  code = code_in twin d.shape (byte d.constant);
  is = code_is twin d.shape d.constant small;
  some = code_some twin d.shape (byte d.constant);
  few = code_few twin d.shape (byte d.constant);
}

all_push : {X : Type 0} (P : X → Type 0) (xs : List X) (x : X) → AllByRecursion P xs → P x → AllByRecursion P (xs ++ x ∷ [])
all_push P [] x all one = (one, tt)
all_push P (y ∷ xs) x all one = (all.0, all_push P xs x all.1 one)

all_plain : (twin : Bool) (seed n : ℕ) → n ≤ 2000 → AllByRecursion IsPlain (made twin seed n)
all_plain twin seed zero le = tt
all_plain twin seed (suc n) le = all_push IsPlain (made twin seed n) _ (all_plain twin seed n (omega (arith, le))) (is_plain twin n (draw_from (after n seed)) (omega (arith, le)) (mod-lt _ (omega arith)))

-- ---- no two have the same name

-- one of a list, or the one after it
last_or : {X : Type 0} (xs : List X) (u : X) (i : ℕ) (x : X) → slice_get (xs ++ u ∷ []) i ≡ Some x → (slice_get xs i ≡ Some x) ⊎ ((i ≡ length xs) × (x ≡ u))
last_or [] u zero x at = inr (refl, cc)
last_or [] u (suc i) x at = absurd (cc)
last_or (y ∷ xs) u zero x at = inl at
last_or (y ∷ xs) u (suc i) x at = by (last_or xs u i x at)
  where
    by : (slice_get xs i ≡ Some x) ⊎ ((i ≡ length xs) × (x ≡ u)) → (slice_get xs i ≡ Some x) ⊎ ((suc i ≡ suc (length xs)) × (x ≡ u))
    by (inl there) = inl there
    by (inr last) = inr (ap suc last.0, last.1)

abbrev titles : List MethodLines → List Title
titles all = map (λ (m : MethodLines). m.title) all

title_at : (twin : Bool) (seed n i : ℕ) (t : Title) → slice_get (titles (made twin seed n)) i ≡ Some t → t ≡ title_of i
title_at twin seed zero i t at = absurd (cc)
title_at twin seed (suc n) i t at =
    let front : List Title = titles (made twin seed n) in
    let apart : titles (made twin seed (suc n)) ≡ front ++ title_of n ∷ [] = map-append (λ (m : MethodLines). m.title) (made twin seed n) (made_one twin n (draw_from (after n seed)) ∷ []) in
    let long : length front ≡ n = length-map (made twin seed n) (λ (m : MethodLines). m.title) ∙ made_long twin seed n in
    elim (last_or front (title_of n) i t (ap (λ (all : List Title). slice_get all i) (sym apart) ∙ at)) [
      | inl there ↦ title_at twin seed n i t there
      | inr last ↦ last.1 ∙ ap title_of (sym (last.0 ∙ long))
    ]

are_apart : (twin : Bool) (seed n : ℕ) → n ≤ 2000 → AreApart (titles (made twin seed n))
are_apart twin seed n le i j t u at other names descs =
    let all : List Title = titles (made twin seed n) in
    let long : length all ≡ n = length-map (made twin seed n) (λ (m : MethodLines). m.title) ∙ made_long twin seed n in
    let first = slice_get_within all i t at in
    let second = slice_get_within all j u other in
    let same : name_of i ≡ name_of j = ap (λ (x : Title). x.name) (sym (title_at twin seed n i t at)) ∙ names ∙ ap (λ (x : Title). x.name) (title_at twin seed n j u other) in
    decimal_injective i j (omega (arith, first, long, le)) (omega (arith, second, long, le)) (append_cancel_left (codes "m") (decimal i) (decimal j) same)

-- ---- they have a class

abbrev seen : List Line → List (Option Line)
seen all = map (λ (line : Line). Some line) all

pub each_is_made : EachIsMade
each_is_made seed n twin le =
    let class = methods_have_class (codes "G") (made twin seed n) (omega arith) (all_plain twin seed n le) (are_apart twin seed n le) (omega (arith, made_long twin seed n, le)) in
    (class.0, ap (λ (all : List Line). class_of_lines (seen (lines.Class (codes "G") ∷ all))) (sym (made_lines twin seed n)) ∙ class.1)

-- so none of its lines is the first without a reading
pub no_fault : (seed n k : ℕ) (twin : Bool) (all : List Line) (read : List (Option Line)) → n ≤ MOST_MADE → all ≡ listing seed n twin → read ≡ seen all → class_of_lines read ≡ Err k → ⊥
no_fault seed n k twin all read le made is fault =
    let found = each_is_made seed n twin le in
    let same : ◌≡◌ {A = Result (List ℕ) ℕ} (Ok found.0) (Err k) = sym found.1 ∙ ap class_of_lines (sym (is ∙ ap seen made)) ∙ fault in
    cc same
