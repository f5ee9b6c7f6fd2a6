-- A node is among the members of each loop around it.
use Rattle.std.proofs.Common.{◌≡◌, ℕ, zero, suc, ◌<◌, true, false, Bool, List, [], ◌∷◌, ◌++◌, length, get_or, Option, Some, None, refl, ap, sym, subst, ◌∙◌, inl, inr, arith, if◌then◌else◌}
use Rattle.pv_runs.proofs.Words.{◌==◌, slice_get, cases_lt, eqb-true, eq-eqb, get_or_past, slice_get-get_or, some_of, no_some, Forest, AreAround, outermost, inner, IsForest, header_and, around, members_of}
use Rattle.std.specs.List.{Contains}
use Rattle.pv_loops.specs.declared.forest.Loop.{Loop}
use Rattle.pv_loops.specs.declared.forest.TheConstants.{MAX_DEPTH}
use Rattle.pv_loops.specs.Loops.{Inside, EdgeOf, Way, edge, more, IsLargest, IsHeader, IsLoop}
use Rattle.pv_loops.specs.Loops as loop
use Rattle.pv_loops.specs.Ranks.{headers_from}

-- ---- the loop with a header

-- the headers of loops ascend, so that each is found
members_at : (loops : List Loop) (i : ℕ) (l : Loop) → ((i j : ℕ) (k l : Loop) → i < j → slice_get loops i ≡ Some k → slice_get loops j ≡ Some l → k.header < l.header) → slice_get loops i ≡ Some l
    → members_of loops l.header ≡ l.members.items
members_at [] i l up at = no_some l at
members_at (k ∷ loops) zero l up at =
    let same : k ≡ l = some_of k l at in
    ap (λ (t : Bool). if t then k.members.items else members_of loops l.header) (eq-eqb k.header l.header (ap (λ (l : Loop). l.header) same)) ∙ ap (λ (l : Loop). l.members.items) same
members_at (k ∷ loops) (suc i) l up at =
    let less : k.header < l.header = up 0 (suc i) k l (omega arith) refl at in
    elim (k.header == l.header) as (λ t. (k.header == l.header) ≡ t → (if t then k.members.items else members_of loops l.header) ≡ l.members.items) [
      | true ↦ λ t. let same = eqb-true k.header l.header t in absurd (omega (arith, same))
      | false ↦ λ t. members_at loops i l (λ i j k l lt. up (suc i) (suc j) k l (omega arith)) at
    ] refl

-- ---- loops in a forest

abbrev rest : List ℕ → List ℕ
rest [] = []
rest (x ∷ xs) = xs

nothing : {P : Type 0} (G : List ℕ) (h : ℕ) (B : List ℕ) → [] ≡ G ++ h ∷ B → P
nothing [] h B e = absurd (cc)
nothing (g ∷ G) h B e = absurd (cc)

-- the headers around a loop are told by the list
around_once : (loops : List Loop) (l m : Loop) (A B : List ℕ) → l ≡ m → AreAround loops l A → AreAround loops m B → A ≡ B
around_once loops _ _ _ _ e (outermost l x) (outermost m y) = refl
around_once loops _ _ _ _ e (outermost l x) (inner m o p B y at b) = absurd (let z : None ≡ Some p = sym x ∙ ap (λ (l : Loop). l.parent) e ∙ y in cc)
around_once loops _ _ _ _ e (inner l o p A x at a) (outermost m y) = absurd (let z : Some p ≡ None = sym x ∙ ap (λ (l : Loop). l.parent) e ∙ y in cc)
around_once loops _ _ _ _ e (inner l o p A x at a) (inner m q r B y to b) =
    let places : p ≡ r = some_of p r (sym x ∙ ap (λ (l : Loop). l.parent) e ∙ y) in
    let same : o ≡ q = some_of o q (sym at ∙ ap (λ (i : ℕ). slice_get loops i) places ∙ to) in
    let others = around_once loops o q A B same a b in
    cc (same, others)

-- the nodes of a loop inside a set are in the set
way_starts : (s : List (List ℕ)) (set nodes : List ℕ) (header a b : ℕ) → Way s (Inside set header) nodes a b → Contains set a
way_starts s set nodes header _ _ (edge a b e x y) = e.1
way_starts s set nodes header _ _ (more a b c e x w) = e.1

-- a loop around the listed one, with a list of nodes that has all of its nodes
record OuterSet (s : List (List ℕ)) (A nodes : List ℕ) : Type 0 where
  set : List ℕ
  is : IsLoop s A set
  within : (x : ℕ) → Contains nodes x → Contains set x

outer_set : (s : List (List ℕ)) (headers nodes : List ℕ) (h o : ℕ) (A : List ℕ) → IsLoop s headers nodes → headers ≡ h ∷ o ∷ A → OuterSet s (o ∷ A) nodes
outer_set s _ _ h o A (loop.outermost header members large is) e = absurd (let z = ap length e in omega (arith, z))
outer_set s _ _ h o A (loop.inner header outer beyond members set l large is) e = record {
  set = set;
  is = subst (λ (B : List ℕ). IsLoop s B set) (ap rest e) l;
  within = λ x among. way_starts s set members outer x x (large.connected x x among among);
}

module _ (s : List (List ℕ)) (f : Forest) (is : IsForest s f) where
  -- loops with the same header stand at the same place
  one_place : (i j : ℕ) (k l : Loop) → slice_get f.loops.items i ≡ Some k → slice_get f.loops.items j ≡ Some l → k.header ≡ l.header → k ≡ l
  one_place i j k l at to e = elim (cases_lt i j) [
    | inl less ↦ absurd (let lt = is.ascend i j k l less at to in omega (arith, e))
    | inr ge ↦ elim (cases_lt j i) [
      | inl less ↦ absurd (let lt = is.ascend j i l k less to at in omega (arith, e))
      | inr le ↦ some_of k l (sym at ∙ ap (λ (i : ℕ). slice_get f.loops.items i) (let q : i ≡ j = omega arith in q) ∙ to)
    ]
  ]

  -- a node of a loop is a node of the loop around it
  in_outer : (i p : ℕ) (l o : Loop) → slice_get f.loops.items i ≡ Some l → l.parent ≡ Some p → slice_get f.loops.items p ≡ Some o → (x : ℕ) → Contains l.members.items x → Contains o.members.items x
  in_outer i p l o at e to x among =
      let a = is.loops i l at in
      let b = is.loops p o to in
      let q = outer_set s (l.header ∷ a.around) l.members.items l.header o.header b.around a.is
      (ap (λ (A : List ℕ). l.header ∷ A) (around_once f.loops.items l l a.around (o.header ∷ b.around) refl a.outer (inner l o p b.around e to b.outer))) in
      let h = is.all (o.header ∷ b.around) q.set q.is in
      let header : h.listed.header ≡ o.header = ap (λ (A : List ℕ). get_or A 0 0) h.same_headers in
      let same : h.listed ≡ o = one_place h.place p h.listed o h.at to header in
      subst (λ (l : Loop). Contains l.members.items x) same ((h.same_nodes x).1 (q.within x among))

  -- where the headers are read from the place of a loop outwards, the loops with these headers have each node of the first one
  read : (n : ℕ) (o : Option ℕ) (x h : ℕ) (G B : List ℕ) → headers_from n f.loops.items o ≡ G ++ h ∷ B → ((i : ℕ) (l : Loop) → o ≡ Some i → slice_get f.loops.items i ≡ Some l → Contains l.members.items x) → Contains (members_of f.loops.items h) x
  unfolding headers_from
  read zero o x h G B e among = nothing G h B e
  read (suc n) None x h G B e among = nothing G h B e
  read (suc n) (Some i) x h G B e among = from (slice_get f.loops.items i) refl G e (λ l at. read n l.parent x h)
    where
      from : (o : Option Loop) → slice_get f.loops.items i ≡ o → (G : List ℕ) → header_and (λ parent. headers_from n f.loops.items parent) o ≡ G ++ h ∷ B
          → ((l : Loop) → slice_get f.loops.items i ≡ Some l → (G B : List ℕ) → headers_from n f.loops.items l.parent ≡ G ++ h ∷ B → ((j : ℕ) (o : Loop) → l.parent ≡ Some j → slice_get f.loops.items j ≡ Some o → Contains o.members.items x) → Contains (members_of f.loops.items h) x)
          → Contains (members_of f.loops.items h) x
      from None at G e on = nothing G h B e
      from (Some l) at [] e on =
          let here : l.header ≡ h = ap (λ (A : List ℕ). get_or A 0 0) e in
          subst (λ (h : ℕ). Contains (members_of f.loops.items h) x) here (subst (λ (nodes : List ℕ). Contains nodes x) (sym (members_at f.loops.items i l is.ascend at)) (among i l refl at))
      from (Some l) at (g ∷ G) e on = on l at G B (ap rest e) (λ j o p to. in_outer i j l o at p to x (among i l refl at))

  -- a node is among the members of each loop around it
  pub member_of : (x h : ℕ) (G B : List ℕ) → around f x ≡ G ++ h ∷ B → Contains (members_of f.loops.items h) x
  member_of x h G B e = read MAX_DEPTH (get_or f.home.items x None) x h G B e (λ i l home at. at_home i l home at)
    where
      at_home : (i : ℕ) (l : Loop) → get_or f.home.items x None ≡ Some i → slice_get f.loops.items i ≡ Some l → Contains l.members.items x
      at_home i l home at = elim (cases_lt x (length f.home.items)) [
        | inl lt ↦
            let q = is.home x (Some i) (slice_get-get_or f.home.items x None lt ∙ ap Some home) in
            subst (λ (l : Loop). Contains l.members.items x) (some_of q.0 l (sym q.1 ∙ at)) q.2
        | inr ge ↦ absurd (let z = get_or_past f.home.items x None ge in let y : None ≡ Some i = sym z ∙ home in cc)
      ]

-- only nodes of the shape are in loops
pub in_shape : (f : Forest) (x h : ℕ) (B : List ℕ) → around f x ≡ h ∷ B → x < length f.home.items
unfolding headers_from
in_shape f x h B e = elim (cases_lt x (length f.home.items)) [
  | inl lt ↦ lt
  | inr ge ↦ absurd (let y : [] ≡ h ∷ B = ap (λ (o : Option ℕ). headers_from MAX_DEPTH f.loops.items o) (sym (get_or_past f.home.items x None ge)) ∙ e in cc)
]
