-- Two forests of a shape are the same.
use Rattle.std.proofs.Common.{◌≡◌, ◌≢◌, ℕ, zero, suc, ◌<◌, ◌≤◌, ◌+◌, List, ◌∷◌, length, map, get_or, refl, sym, ◌∙◌, ap, subst, arith, ⊎_elim, ◌↔◌, Option, Some, None, slice_get}
use Rattle.pv_loops.proofs.Words.{cases_eq, cases_lt, same_number_lists, get_or-map, length-map, get_or_default, same_lists, Contains-get_or, none-some, same_Some, slice_get_within, get_or_from_slice_get, Contains, IsStrictlyIncreasing, Loop, Forest, AreAround, inner, IsHome, IsForest, IsSameLoop, OneForest}
use Rattle.pv_loops.specs.Forests.{outermost}
use Rattle.pv_loops.proofs.Listing.{rest, listed_at, increases}

-- a number that stands at i in xs isn't before i in ys, where the lists agree before i
not_before : (xs ys : List ℕ) → IsStrictlyIncreasing xs → IsStrictlyIncreasing ys → (i : ℕ) → i < length xs → ((j : ℕ) → j < i → j < length ys → get_or xs j 0 ≡ get_or ys j 0) → Contains ys (get_or xs i 0) → (i < length ys) × (get_or ys i 0 ≤ get_or xs i 0)
not_before xs ys ix iy i hx same (j, hj, e) = ⊎_elim
    (λ (before : j < i). let less = increases xs ix j i before hx in absurd (omega (arith, less, same j before hj, at)))
    (λ (ge : i ≤ j). ⊎_elim
    (λ (q : i ≡ j). (omega (arith, q, hj), (let w = ap (λ v. get_or ys v 0) q in omega (arith, w, at))))
    (λ (ne : i ≢ j). (omega (arith, ge, hj), (let less = increases ys iy i j (omega arith) hj in omega (arith, less, at))))
    (cases_eq i j))
    (cases_lt j i)
  where
    at : get_or ys j 0 ≡ get_or xs i 0
    at = get_or_default ys j 0 (get_or xs i 0) hj ∙ e

-- ascending lists with the same numbers agree
agree : (xs ys : List ℕ) → IsStrictlyIncreasing xs → IsStrictlyIncreasing ys → ((x : ℕ) → Contains xs x → Contains ys x) → ((x : ℕ) → Contains ys x → Contains xs x)
    → (n i : ℕ) → i < n → i < length xs → i < length ys → get_or xs i 0 ≡ get_or ys i 0
agree xs ys ix iy to from zero i lt hx hy = absurd (omega arith)
agree xs ys ix iy to from (suc n) i lt hx hy =
    let p = not_before xs ys ix iy i hx (λ j less hj. agree xs ys ix iy to from n j (omega arith) (omega arith) hj) (to (get_or xs i 0) (Contains-get_or xs i 0 hx)) in
    let q = not_before ys xs iy ix i hy (λ j less hj. sym (agree xs ys ix iy to from n j (omega arith) hj (omega arith))) (from (get_or ys i 0) (Contains-get_or ys i 0 hy)) in
    let a = p.1 in let b = q.1 in omega (arith, a, b)

same_ascending : (xs ys : List ℕ) → IsStrictlyIncreasing xs → IsStrictlyIncreasing ys → ((x : ℕ) → Contains xs x → Contains ys x) → ((x : ℕ) → Contains ys x → Contains xs x) → xs ≡ ys
same_ascending xs ys ix iy to from = same_number_lists xs ys (no_longer (length xs) (length ys) (λ lt. past ys xs iy ix from to lt) (λ lt. past xs ys ix iy to from lt)) (λ k lt. agree xs ys ix iy to from (suc k) k (omega arith) lt
    (let q = no_longer (length xs) (length ys) (λ less. past ys xs iy ix from to less) (λ less. past xs ys ix iy to from less) in omega (arith, q, lt)))
  where
    no_longer : (m n : ℕ) → (m < n → ⊥) → (n < m → ⊥) → m ≡ n
    no_longer m n a b = ⊎_elim
        (λ (lt : m < n). absurd (a lt))
        (λ (ge : n ≤ m). ⊎_elim
        (λ (less : n < m). absurd (b less))
        (λ (le : m ≤ n). omega arith)
        (cases_lt n m))
        (cases_lt m n)

    past : (us vs : List ℕ) → IsStrictlyIncreasing us → IsStrictlyIncreasing vs → ((x : ℕ) → Contains us x → Contains vs x) → ((x : ℕ) → Contains vs x → Contains us x) → length vs < length us → ⊥
    past us vs iu iv forth back lt =
        let q = not_before us vs iu iv (length vs) lt (λ j less hj. agree us vs iu iv forth back (suc j) j (omega arith) (omega arith) hj) (forth (get_or us (length vs) 0) (Contains-get_or us (length vs) 0 lt)) in
        let w = q.0 in omega (arith, w)

-- the headers of listed loops
abbrev headers : List Loop → List ℕ
headers loops = map (λ (l : Loop). l.header) loops

header_at : (loops : List Loop) (i : ℕ) (l : Loop) → slice_get loops i ≡ Some l → get_or (headers loops) i 0 ≡ l.header
header_at loops i l e = get_or-map (λ (k : Loop). k.header) loops i l 0 (slice_get_within loops i l e) ∙ ap (λ (k : Loop). k.header) (get_or_from_slice_get loops i l l e)

-- the headers around a loop are determined by the list
same_around : (loops : List Loop) (l : Loop) (a b : List ℕ) → AreAround loops l a → AreAround loops l b → a ≡ b
same_around loops _ _ _ (outermost l e) (outermost k q) = refl
same_around loops _ _ _ (outermost l e) (inner k o p b q at A) = absurd (none-some p (sym e ∙ q))
same_around loops _ _ _ (inner l o p a e at A) (outermost k q) = absurd (none-some p (sym q ∙ e))
same_around loops _ _ _ (inner l o p a e at A) (inner k u r b q at_r B) =
    let one : p ≡ r = same_Some p r (sym e ∙ q) in
    let same : o ≡ u = same_Some o u (sym at ∙ ap (λ v. slice_get loops v) one ∙ at_r) in
    ap (λ (v : Loop). v.header ∷ a) same ∙ ap (λ v. u.header ∷ v) (same_around loops o a b A (subst (λ (v : Loop). AreAround loops v b) (sym same) B))

module _ (s : List (List ℕ)) (f : Forest) (F : IsForest s f) where
  ascends : IsStrictlyIncreasing (headers f.loops.items)
  ascends k lt =
      let len = length-map f.loops.items (λ (l : Loop). l.header) in
      let a = listed_at f.loops.items k (omega (arith, lt, len)) in
      let b = listed_at f.loops.items (k + 1) (omega (arith, lt, len)) in
      let less = F.ascend k (k + 1) a.0 b.0 (omega arith) a.1 b.1 in
      omega (arith, less, header_at f.loops.items k a.0 a.1, header_at f.loops.items (k + 1) b.0 b.1)

  -- one header, one place
  one_place : (i j : ℕ) (k l : Loop) → slice_get f.loops.items i ≡ Some k → slice_get f.loops.items j ≡ Some l → k.header ≡ l.header → i ≡ j
  one_place i j k l ek el e = ⊎_elim
      (λ (lt : i < j). let less = F.ascend i j k l lt ek el in absurd (omega (arith, less, e)))
      (λ (ge : j ≤ i). ⊎_elim
      (λ (q : i ≡ j). q)
      (λ (ne : i ≢ j). let less = F.ascend j i l k (omega arith) el ek in absurd (omega (arith, less, e)))
      (cases_eq i j))
      (cases_lt i j)

-- the headers of f are headers of g
forth : (s : List (List ℕ)) (f g : Forest) → IsForest s f → IsForest s g → (x : ℕ) → Contains (headers f.loops.items) x → Contains (headers g.loops.items) x
forth s f g F G x (i, lt, e) =
    let k = listed_at f.loops.items i (omega (arith, lt, length-map f.loops.items (λ (l : Loop). l.header))) in
    let h = G.all (k.0.header ∷ (F.loops i k.0 k.1).around) k.0.members.items (F.loops i k.0 k.1).is in
    let own : h.listed.header ≡ k.0.header = ap (λ v. get_or v 0 0) h.same_headers in
    let is : k.0.header ≡ x = sym (header_at f.loops.items i k.0 k.1) ∙ get_or_default (headers f.loops.items) i 0 x lt ∙ e in
    let within : h.place < length (headers g.loops.items) = (let w = slice_get_within g.loops.items h.place h.listed h.at in omega (arith, w, length-map g.loops.items (λ (l : Loop). l.header))) in
    subst (λ v. Contains (headers g.loops.items) v) (header_at g.loops.items h.place h.listed h.at ∙ own ∙ is) (Contains-get_or (headers g.loops.items) h.place 0 within)

module _ (s : List (List ℕ)) (f g : Forest) (F : IsForest s f) (G : IsForest s g) where
  same_headers : headers f.loops.items ≡ headers g.loops.items
  same_headers = same_ascending (headers f.loops.items) (headers g.loops.items) (ascends s f F) (ascends s g G) (forth s f g F G) (forth s g f G F)

  size : length f.loops.items ≡ length g.loops.items
  size = omega (arith, ap length same_headers, length-map f.loops.items (λ (l : Loop). l.header), length-map g.loops.items (λ (l : Loop). l.header))

  own_header : (i : ℕ) (k l : Loop) → slice_get f.loops.items i ≡ Some k → slice_get g.loops.items i ≡ Some l → k.header ≡ l.header
  own_header i k l ek el = sym (header_at f.loops.items i k ek) ∙ ap (λ v. get_or v i 0) same_headers ∙ header_at g.loops.items i l el

  same_parent : (k l : Loop) (a b : List ℕ) → AreAround f.loops.items k a → AreAround g.loops.items l b → a ≡ b → k.parent ≡ l.parent
  same_parent _ _ _ _ (outermost k e) (outermost l q) w = e ∙ sym q
  same_parent _ _ _ _ (outermost k e) (inner l o p b q at B) w = absurd (omega (arith, ap length w))
  same_parent _ _ _ _ (inner k o p a e at A) (outermost l q) w = absurd (omega (arith, ap length w))
  same_parent _ _ _ _ (inner k o p a e at A) (inner l u r b q at_r B) w =
      let v = listed_at f.loops.items r (let lt = slice_get_within g.loops.items r u at_r in omega (arith, lt, size)) in
      let one : p ≡ r = one_place s f F p r o v.0 at v.1 (ap (λ h. get_or h 0 0) w ∙ sym (own_header r v.0 u v.1 at_r)) in
      e ∙ ap Some one ∙ sym q

  same_loop : (i : ℕ) (k l : Loop) → slice_get f.loops.items i ≡ Some k → slice_get g.loops.items i ≡ Some l → IsSameLoop k l
  same_loop i k l ek el =
      let L = F.loops i k ek in
      let M = G.loops i l el in
      let h = G.all (k.header ∷ L.around) k.members.items L.is in
      let own : k.header ≡ l.header = own_header i k l ek el in
      let at : h.place ≡ i = one_place s g G h.place i h.listed l h.at el (ap (λ v. get_or v 0 0) h.same_headers ∙ own) in
      let is : h.listed ≡ l = same_Some h.listed l (sym h.at ∙ ap (λ v. slice_get g.loops.items v) at ∙ el) in
      let outer : AreAround g.loops.items l L.around = subst (λ v. AreAround g.loops.items l v) (ap rest h.same_headers) (subst (λ (v : Loop). AreAround g.loops.items v h.around) is h.outer) in
      let nodes : (x : ℕ) → Contains l.members.items x ↔ Contains k.members.items x = subst (λ (v : Loop). (x : ℕ) → Contains v.members.items x ↔ Contains k.members.items x) is h.same_nodes in record {
        header = own;
        depth = omega (arith, L.depth, M.depth, ap length (same_around g.loops.items l M.around L.around M.outer outer));
        parent = same_parent k l L.around L.around L.outer outer refl;
        members = same_ascending k.members.items l.members.items L.ascend M.ascend (λ x c. (nodes x).1 c) (λ x c. (nodes x).0 c);
      }

  -- a node of a loop of one is a node of the loop of the other
  of_f : (i x : ℕ) (l : Loop) → slice_get g.loops.items i ≡ Some l → Contains l.members.items x → (k : Loop) × (slice_get f.loops.items i ≡ Some k) × Contains k.members.items x × (k.depth ≡ l.depth)
  of_f i x l el c =
      let k = listed_at f.loops.items i (let lt = slice_get_within g.loops.items i l el in omega (arith, lt, size)) in
      let same = same_loop i k.0 l k.1 el in
      (k.0, k.1, subst (λ (v : List ℕ). Contains v x) (sym same.members) c, same.depth)

  of_g : (i x : ℕ) (k : Loop) → slice_get f.loops.items i ≡ Some k → Contains k.members.items x → (l : Loop) × (slice_get g.loops.items i ≡ Some l) × Contains l.members.items x × (k.depth ≡ l.depth)
  of_g i x k ek c =
      let l = listed_at g.loops.items i (let lt = slice_get_within f.loops.items i k ek in omega (arith, lt, size)) in
      let same = same_loop i k l.0 ek l.1 in
      (l.0, l.1, subst (λ (v : List ℕ). Contains v x) same.members c, same.depth)

  same_home : (x : ℕ) (o u : Option ℕ) → IsHome f.loops.items x o → IsHome g.loops.items x u → o ≡ u
  same_home x None None p q = refl
  same_home x None (Some j) p (l, at, c, deepest) = let k = of_f j x l at c in absurd (p j k.0 k.1 k.2)
  same_home x (Some i) None (k, at, c, deepest) q = let l = of_g i x k at c in absurd (q i l.0 l.1 l.2)
  same_home x (Some i) (Some j) (k, at_k, ck, deepest_k) (l, at_l, cl, deepest_l) = ⊎_elim
      (λ (e : i ≡ j). ap Some e)
      (λ (ne : i ≢ j).
      let m = of_f j x l at_l cl in
      let n = of_g i x k at_k ck in
      let a = deepest_k j m.0 m.1 m.2 (λ e. ne (sym e)) in
      let b = deepest_l i n.0 n.1 n.2 ne in
      let da = m.3 in
      let db = n.3 in
      absurd (omega (arith, a, b, da, db)))
      (cases_eq i j)

  same_homes : f.home.items ≡ g.home.items
  same_homes = same_lists f.home.items g.home.items (F.homes ∙ sym G.homes) (λ x d lt.
      let o = listed_at f.home.items x lt in
      let u = listed_at g.home.items x (omega (arith, lt, F.homes, G.homes)) in
      get_or_from_slice_get f.home.items x o.0 d o.1 ∙ same_home x o.0 u.0 (F.home x o.0 o.1) (G.home x u.0 u.1) ∙ sym (get_or_from_slice_get g.home.items x u.0 d u.1))

pub one_forest : OneForest
one_forest s f g F G = record { size = size s f g F G; loops = same_loop s f g F G; home = same_homes s f g F G }
