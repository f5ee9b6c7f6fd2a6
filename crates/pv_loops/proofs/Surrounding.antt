-- The headers of the loops around a node.
use Rattle.std.proofs.Common.{◌≡◌, ◌≢◌, ℕ, zero, suc, ◌<◌, ◌≤◌, List, [], ◌∷◌, ◌++◌, length, get_or, refl, sym, ◌∙◌, ap, subst, arith, inl, ⊎_elim, Option, Some, None, length-append, slice_get}
use Rattle.pv_loops.proofs.Words.{cases_eq, cases_lt, get_or_past, Loop, Nest, MAX_DEPTH, Headers, IsShape, IsReversed, IsOrder, IsHead, InBody, AreHeaders, Encloses, alone, within, IsHomeBefore, IsNested, AreAround, inner, header_and, headers_from}
use Rattle.pv_loops.specs.Forests.{outermost}
use Rattle.pv_loops.proofs.Bodies.{head_of, body_in}
use Rattle.pv_loops.proofs.Listing.{rest, listed_at}
use Rattle.pv_loops.proofs.Nesting.{meets, inside, enclosed_head}
use Rattle.pv_loops.proofs.Foresting.{filled, around_is}

-- the headers whose bodies have x, the latest first
abbrev pub Surrounds : List (List ℕ) → List ℕ → ℕ → List ℕ → Type 0
Surrounds sources place x [] = (z : ℕ) → IsHead sources place z → InBody sources place z x → ⊥
Surrounds sources place x (h ∷ A) = Encloses sources place h A × InBody sources place h x × ((z : ℕ) → IsHead sources place z → InBody sources place z x → get_or place z 0 ≤ get_or place h 0)

-- a header is listed, with those around it after it
abbrev pub Lists : List (List ℕ) → List ℕ → List ℕ → ℕ → Type 0
Lists sources place A z = (G : List ℕ) × (B : List ℕ) × (A ≡ G ++ z ∷ B) × Encloses sources place z B

module _ (sources : List (List ℕ)) (order place : List ℕ) (S : IsShape sources) (O : IsOrder sources order place) where
  abbrev Head : ℕ → Type 0
  Head h = IsHead sources place h

  abbrev Body : ℕ → ℕ → Type 0
  Body h x = InBody sources place h x

  more_before : (h z : ℕ) (A : List ℕ) → Lists sources place A z → Lists sources place (h ∷ A) z
  more_before h z A (G, B, e, enc) = (h ∷ G, B, ap (λ (l : List ℕ). h ∷ l) e, enc)

  -- a header that has another one in its body is around it
  enclosed_in : (h : ℕ) (A : List ℕ) → Encloses sources place h A → (z : ℕ) → Head z → Body z h → Lists sources place (h ∷ A) z
  enclosed_in _ _ (alone h head sole) z hz b =
      let e : z ≡ h = sole z hz b in
      subst (λ v. Lists sources place (h ∷ []) v) (sym e) ([], [], refl, alone h head sole)
  enclosed_in _ _ (within h o A head next enc) z hz b = ⊎_elim
      (λ (e : z ≡ h). subst (λ v. Lists sources place (h ∷ o ∷ A) v) (sym e) ([], o ∷ A, refl, within h o A head next enc))
      (λ (ne : z ≢ h). more_before h z (o ∷ A) (enclosed_in o A enc z hz (meets sources order place S O z o h hz next.head b next.body (next.latest z hz b ne))))
      (cases_eq z h)

  -- .. and around each node of its body
  pub found_in : (x : ℕ) (A : List ℕ) → Surrounds sources place x A → (z : ℕ) → Head z → Body z x → Lists sources place A z
  found_in x [] N z hz b = absurd (N z hz b)
  found_in x (h ∷ A) N z hz b = enclosed_in h A N.0 z hz (meets sources order place S O z h x hz (enclosed_head sources order place S O h A N.0) b N.1 (N.2 z hz b))

  -- a header that is around another one has it in its body
  around_other : (h : ℕ) (A : List ℕ) → Encloses sources place h A → (G : List ℕ) (z : ℕ) (B : List ℕ) → h ∷ A ≡ G ++ z ∷ B → Encloses sources place z B × Body z h
  around_other h A enc [] z B e =
      let at : h ≡ z = ap (λ (l : List ℕ). get_or l 0 0) e in
      (subst (λ v. Encloses sources place v B) at (subst (λ (l : List ℕ). Encloses sources place h l) (ap rest e) enc), inl at)
  around_other _ _ (alone h head sole) (g ∷ G) z B e = absurd (omega (arith, ap length (ap rest e), length-append G (z ∷ B)))
  around_other _ _ (within h o A head next enc) (g ∷ G) z B e =
      let q = around_other o A enc G z B (ap rest e) in
      (q.0, inside sources order place S O z o h (enclosed_head sources order place S O z B q.0) next.head q.1 next.body)

  -- .. and each node of its body
  pub around_node : (x : ℕ) (A : List ℕ) → Surrounds sources place x A → (G : List ℕ) (z : ℕ) (B : List ℕ) → A ≡ G ++ z ∷ B → Encloses sources place z B × Body z x
  around_node x [] N G z B e = absurd (omega (arith, ap length e, length-append G (z ∷ B)))
  around_node x (h ∷ A) N G z B e =
      let q = around_other h A N.0 G z B e in
      (q.0, inside sources order place S O z h x (enclosed_head sources order place S O z B q.0) (enclosed_head sources order place S O h A N.0) q.1 N.1)

-- the headers of a listed loop and those around it, read from the list
pub from_none : (n : ℕ) (loops : List Loop) → headers_from n loops None ≡ []
unfolding headers_from
from_none zero loops = refl
from_none (suc n) loops = refl

pub from_loop : (loops : List Loop) (n : ℕ) (l : Loop) (A : List ℕ) → AreAround loops l A → length A < n → (i : ℕ) → slice_get loops i ≡ Some l → headers_from n loops (Some i) ≡ l.header ∷ A
unfolding headers_from
from_loop loops zero l A around lt i at = absurd (omega arith)
from_loop loops (suc n) _ _ (outermost l e) lt i at =
    ap (λ (o : Option Loop). header_and (λ parent. headers_from n loops parent) o) at ∙ ap (λ (p : Option ℕ). l.header ∷ headers_from n loops p) e ∙ ap (λ (A : List ℕ). l.header ∷ A) (from_none n loops)
from_loop loops (suc n) _ _ (inner l outer p A e at_p around) lt i at =
    ap (λ (o : Option Loop). header_and (λ parent. headers_from n loops parent) o) at ∙ ap (λ (p : Option ℕ). l.header ∷ headers_from n loops p) e ∙ ap (λ (A : List ℕ). l.header ∷ A) (from_loop loops n outer A around (omega arith) p at_p)

-- at most n are read
pub at_most : (n : ℕ) (loops : List Loop) (o : Option ℕ) → length (headers_from n loops o) ≤ n
unfolding headers_from
at_most zero loops o = omega arith
at_most (suc n) loops None = omega arith
at_most (suc n) loops (Some i) = one_more (λ o. at_most n loops o) (slice_get loops i)
  where
    one_more : ((o : Option ℕ) → length (headers_from n loops o) ≤ n) → (l : Option Loop) → length (header_and (λ parent. headers_from n loops parent) l) ≤ suc n
    one_more outer None = omega arith
    one_more outer (Some l) = let le = outer l.parent in omega (arith, le)

module _ (s sources : List (List ℕ)) (order place : List ℕ) (rev : IsReversed s sources) (S : IsShape sources) (O : IsOrder sources order place) (headers : Headers) (H : AreHeaders sources place headers) (f : Nest)
    (N : IsNested sources place headers.nodes.items MAX_DEPTH (length order) f) where
  from_home : (x : ℕ) (o : Option ℕ) → IsHomeBefore sources place headers.nodes.items (length order) x o → Surrounds sources place x (headers_from MAX_DEPTH f.loops.items o)
  from_home x None q = subst (λ (A : List ℕ). Surrounds sources place x A) (sym (from_none MAX_DEPTH f.loops.items)) (λ z hz b. q z hz (O.place_in z (head_of sources order place S O z hz)) b)
  from_home x (Some i) q =
      let l = listed_at f.loops.items i (let lt = q.0 in omega (arith, lt, N.size)) in
      let is : l.0.header ≡ get_or headers.nodes.items i 0 = N.header i l.0 l.1 in
      let F = filled s sources order place rev S O headers H MAX_DEPTH f N i l.0 l.1 in
      let around = around_is s sources order place rev S O headers H MAX_DEPTH f N l.0.header F.around F.outer i l.0 l.1 refl in
      subst (λ (A : List ℕ). Surrounds sources place x A) (sym (from_loop f.loops.items MAX_DEPTH l.0 F.around around (omega (arith, F.depth, F.shallow)) i l.1))
      (F.outer, subst (λ v. InBody sources place v x) (sym is) q.2, λ z hz b. let le = q.3 z hz (O.place_in z (head_of sources order place S O z hz)) b in let w = ap (λ v. get_or place v 0) is in omega (arith, le, w))

  pub surrounds : (x : ℕ) → Surrounds sources place x (headers_from MAX_DEPTH f.loops.items (get_or f.home.items x None))
  surrounds x = ⊎_elim
      (λ (lt : x < length sources). from_home x (get_or f.home.items x None) (N.home x lt))
      (λ (ge : length sources ≤ x). subst (λ (o : Option ℕ). Surrounds sources place x (headers_from MAX_DEPTH f.loops.items o)) (sym (get_or_past f.home.items x None (omega (arith, ge, N.homes))))
      (from_home x None (λ z hz _ b. let lt = body_in sources order place S O z x (head_of sources order place S O z hz) b in omega (arith, lt, ge))))
      (cases_lt x (length sources))
