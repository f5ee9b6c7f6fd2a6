-- The places of the loops from one outwards, and their headers.
use Rattle.std.proofs.Common.{◌≡◌, ℕ, zero, suc, ◌<◌, ◌≤◌, ◌+◌, List, [], ◌∷◌, ◌++◌, length, map, get_or, refl, sym, ◌∙◌, ap, subst, arith, append_assoc, Option, Some, None, append-nil, slice_get}
use Rattle.pv_loops.proofs.Words.{get_or-map, length-map, All-cons, slice_get_within, get_or_from_slice_get, All, Loop, MAX_DEPTH, header_at, place_and, places_from, AreRows, header_and, headers_from}

header_is : (loops : List Loop) (i : ℕ) (l : Loop) → slice_get loops i ≡ Some l → header_at loops i ≡ l.header
header_is loops i l e = get_or-map (λ (k : Loop). k.header) loops i l 0 (slice_get_within loops i l e) ∙ ap (λ (k : Loop). k.header) (get_or_from_slice_get loops i l l e)

headers_of_places : (n : ℕ) (loops : List Loop) (at : Option ℕ) → map (header_at loops) (places_from n loops at) ≡ headers_from n loops at
unfolding headers_from places_from
headers_of_places zero loops at = refl
headers_of_places (suc n) loops None = refl
headers_of_places (suc n) loops (Some i) = one (λ at. headers_of_places n loops at) (slice_get loops i) refl
  where
    one : ((at : Option ℕ) → map (header_at loops) (places_from n loops at) ≡ headers_from n loops at) → (o : Option Loop) → slice_get loops i ≡ o → map (header_at loops) (place_and i (λ parent. places_from n loops parent) o) ≡ header_and (λ parent. headers_from n loops parent) o
    one outer None e = refl
    one outer (Some l) e = ap (λ h. h ∷ map (header_at loops) (places_from n loops l.parent)) (header_is loops i l e) ∙ ap (λ hs. l.header ∷ hs) (outer l.parent)

places_within : (n : ℕ) (loops : List Loop) (at : Option ℕ) → All (λ i. i < length loops) (places_from n loops at)
unfolding places_from
places_within zero loops at = λ k d lt. absurd (omega arith)
places_within (suc n) loops None = λ k d lt. absurd (omega arith)
places_within (suc n) loops (Some i) = one (λ at. places_within n loops at) (slice_get loops i) refl
  where
    one : ((at : Option ℕ) → All (λ i. i < length loops) (places_from n loops at)) → (o : Option Loop) → slice_get loops i ≡ o → All (λ i. i < length loops) (place_and i (λ parent. places_from n loops parent) o)
    one outer None e = λ k d lt. absurd (omega arith)
    one outer (Some l) e = All-cons (λ i. i < length loops) i (places_from n loops l.parent) (slice_get_within loops i l e) (outer l.parent)

-- there is a row for each node
pub rows_long : (loops : List Loop) (homes : List (Option ℕ)) (rows : List (List ℕ)) → AreRows loops homes rows → length rows ≡ length homes
rows_long loops homes rows are = ap length are ∙ length-map homes (λ home. places_from MAX_DEPTH loops home)

-- the row of a node
module _ (loops : List Loop) (homes : List (Option ℕ)) (rows : List (List ℕ)) (are : AreRows loops homes rows) (x : ℕ) (low : x < length homes) where
  row_is : get_or rows x [] ≡ places_from MAX_DEPTH loops (get_or homes x None)
  row_is = ap (λ (rows : List (List ℕ)). get_or rows x []) are ∙ get_or-map (λ home. places_from MAX_DEPTH loops home) homes x None [] low

  pub row_headers : map (header_at loops) (get_or rows x []) ≡ headers_from MAX_DEPTH loops (get_or homes x None)
  row_headers = ap (map (header_at loops)) row_is ∙ headers_of_places MAX_DEPTH loops (get_or homes x None)

  pub row_within : All (λ i. i < length loops) (get_or rows x [])
  row_within = subst (λ (l : List ℕ). All (λ i. i < length loops) l) (sym row_is) (places_within MAX_DEPTH loops (get_or homes x None))

-- after k loops from the one at `home` outwards: their places, and the place of the next
pub record Walked (loops : List Loop) (home : Option ℕ) (k : ℕ) (row : List ℕ) (at : Option ℕ) : Type 0 where
  pub left : ℕ
  pub all : left + k ≡ MAX_DEPTH
  pub is : places_from MAX_DEPTH loops home ≡ row ++ places_from left loops at

module _ (loops : List Loop) (home : Option ℕ) where
  pub starts : Walked loops home 0 [] home
  starts = record { left = MAX_DEPTH; all = refl; is = refl }

  module _ (k : ℕ) (row : List ℕ) (at : Option ℕ) (w : Walked loops home k row at) where
    ends : places_from w.left loops at ≡ [] → row ≡ places_from MAX_DEPTH loops home
    ends none = sym (append-nil row) ∙ ap (λ l. row ++ l) (sym none) ∙ sym w.is

    none_at : (n : ℕ) → places_from n loops None ≡ []
    unfolding places_from
    none_at zero = refl
    none_at (suc n) = refl

    past_at : (n i : ℕ) → slice_get loops i ≡ None → places_from n loops (Some i) ≡ []
    unfolding places_from
    past_at zero i e = refl
    past_at (suc n) i e = ap (λ o. place_and i (λ parent. places_from n loops parent) o) e

    some_at : (n i : ℕ) (l : Loop) → slice_get loops i ≡ Some l → places_from (suc n) loops (Some i) ≡ i ∷ places_from n loops l.parent
    unfolding places_from
    some_at n i l e = ap (λ o. place_and i (λ parent. places_from n loops parent) o) e

    pub ends_none : at ≡ None → row ≡ places_from MAX_DEPTH loops home
    ends_none e = ends (ap (λ a. places_from w.left loops a) e ∙ none_at w.left)

    pub ends_past : (i : ℕ) → at ≡ Some i → slice_get loops i ≡ None → row ≡ places_from MAX_DEPTH loops home
    ends_past i e past = ends (ap (λ a. places_from w.left loops a) e ∙ past_at w.left i past)

    pub ends_deep : MAX_DEPTH ≤ k → row ≡ places_from MAX_DEPTH loops home
    unfolding places_from
    ends_deep le = ends (ap (λ n. places_from n loops at) (let all = w.all in let z : w.left ≡ 0 = omega (arith, all, le) in z))

    pub goes : (i : ℕ) (l : Loop) → k < MAX_DEPTH → at ≡ Some i → slice_get loops i ≡ Some l → Walked loops home (k + 1) (row ++ i ∷ []) l.parent
    goes i l lt e there = more w.left refl
      where
        more : (n : ℕ) → w.left ≡ n → Walked loops home (k + 1) (row ++ i ∷ []) l.parent
        more zero z = absurd (let all = w.all in omega (arith, all, z, lt))
        more (suc n) z = record {
          left = n;
          all = (let all = w.all in omega (arith, all, z));
          is = w.is ∙ ap (λ m. row ++ places_from m loops at) z ∙ ap (λ a. row ++ places_from (suc n) loops a) e ∙ ap (λ l. row ++ l) (some_at n i l there) ∙ sym (append_assoc row (i ∷ []) (places_from n loops l.parent));
        }
