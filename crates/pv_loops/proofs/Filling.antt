-- The loops, filled header by header.
use Rattle.std.proofs.Common.{◌≡◌, ◌≢◌, ℕ, ◌<◌, ◌≤◌, ◌+◌, List, [], ◌∷◌, length, get_or, set, refl, sym, ◌∙◌, ap, subst, arith, ◌⊎◌, ⊎_elim, Option, Some, None, length-set, slice_get, nat_eq}
use Rattle.pv_loops.proofs.Words.{cases_eq, cases_lt, get_or_past, none-some, same_Some, slice_get_within, nat_eq_equiv, Contains-permutation, IsPermutation-sym, IsStrictlyIncreasing-from_distinct, IsDistinct-IsPermutation, IsDistinct, IsPermutation, IsNonDecreasing}
use Rattle.pv_loops.proofs.Words.{Loop, Nest, Headers, IsShape, IsReversed, IsOrder, IsHead, InBody, AreBody, AreHeaders, Encloses, alone, within, IsParent, IsFilled, IsHomeBefore, IsNested, IsMarked, KeepsHomes, HasDepth}
use Rattle.pv_loops.proofs.Listing.{listed_at, listed_read, set_at, increases}
use Rattle.pv_loops.proofs.Bodies.{head_of}
use Rattle.pv_loops.proofs.Nesting.{same_head, enclosed_loop, low}

-- loops without nodes
pub record Baring (headers : List ℕ) (loops : List Loop) (n : ℕ) : Type 0 where
  pub size : length loops ≡ n
  pub header : (i : ℕ) (l : Loop) → slice_get loops i ≡ Some l → l.header ≡ get_or headers i 0

pub bare_nested : (sources : List (List ℕ)) (place headers : List ℕ) (most count : ℕ) (f : Nest) → length sources ≡ count → length f.home.items ≡ count → ((x : ℕ) → x < count → get_or f.home.items x None ≡ None) → Baring headers f.loops.items (length headers)
    → IsNested sources place headers most 0 f
bare_nested sources place headers most count f size homes none B = record {
  size = B.size;
  header = B.header;
  homes = homes ∙ sym size;
  home = λ x lt. subst (λ o. IsHomeBefore sources place headers 0 x o) (sym (none x (omega (arith, lt, size)))) (λ z _ before _. absurd (omega (arith, before)));
  filled = λ i l _ before. absurd (omega (arith, before));
}

pub some_of : (o : Option ℕ) → o ≢ None → (i : ℕ) × (o ≡ Some i)
some_of None ne = absurd (ne refl)
some_of (Some i) ne = (i, refl)

module _ (sources : List (List ℕ)) (order place : List ℕ) (S : IsShape sources) (O : IsOrder sources order place) (headers : Headers) (H : AreHeaders sources place headers) where
  abbrev P : ℕ → ℕ
  P x = get_or place x 0

  abbrev nodes : List ℕ
  nodes = headers.nodes.items

  abbrev Head : ℕ → Type 0
  Head h = IsHead sources place h

  abbrev Body : ℕ → ℕ → Type 0
  Body h x = InBody sources place h x

  same_one : (g h : ℕ) → Head g → Head h → P g ≡ P h → g ≡ h
  same_one g h hg hh e = same_head sources order place S O g h hg hh e

  node : (h : ℕ) → Head h → h < length sources
  node h head = head_of sources order place S O h head

  -- two places with one header are one
  pub distinct : (j k : ℕ) → j < length nodes → k < length nodes → get_or nodes j 0 ≡ get_or nodes k 0 → j ≡ k
  distinct j k hj hk e = ⊎_elim
      (λ (lt : j < k). let less = increases nodes H.ascend j k lt hk in absurd (omega (arith, less, e)))
      (λ (ge : k ≤ j). ⊎_elim
      (λ (q : j ≡ k). q)
      (λ (ne : j ≢ k). let less = increases nodes H.ascend k j (omega arith) hj in absurd (omega (arith, less, e)))
      (cases_eq j k))
      (cases_lt j k)

  -- a header other than h, up to h in the order, is before h
  earlier : (z h : ℕ) → Head z → Head h → P z < P h + 1 → z ≢ h → P z < P h
  earlier z h hz hh lt ne = ⊎_elim
      (λ (e : P z ≡ P h). absurd (ne (same_one z h hz hh e)))
      (λ (away : P z ≢ P h). omega arith)
      (cases_eq (P z) (P h))

  -- the place of a header among the headers
  pub found_head : (h : ℕ) → Head h → (i : ℕ) × (get_or headers.at.items h None ≡ Some i) × (i < length nodes) × (get_or nodes i 0 ≡ h)
  found_head h head = let o = some_of (get_or headers.at.items h None) (H.all h head) in let f = H.found h o.0 o.1 in (o.0, o.1, f.0, f.1)

  -- what stands at the place of a node
  pub head_here : (h i : ℕ) → get_or headers.at.items h None ≡ Some i → (i < length nodes) × (get_or nodes i 0 ≡ h) × Head h
  head_here h i at = let f = H.found h i at in (f.0, f.1, subst (λ v. Head v) f.1 (H.heads i f.0))

  module _ (most : ℕ) (f : Nest) (h : ℕ) (N : IsNested sources place nodes most (P h) f) (hh : h < length sources) where
    head_at : (i : ℕ) (l : Loop) → slice_get f.loops.items i ≡ Some l → Head l.header
    head_at i l e = subst (λ v. Head v) (sym (N.header i l e)) (H.heads i (let lt = slice_get_within f.loops.items i l e in omega (arith, lt, N.size)))

    -- no header, no loop
    pub nested_skip : get_or headers.at.items h None ≡ None → IsNested sources place nodes most (P h + 1) f
    nested_skip none = record {
      size = N.size;
      header = N.header;
      homes = N.homes;
      home = λ x lt. later x (get_or f.home.items x None) (N.home x lt);
      filled = λ i l e lt. N.filled i l e (before l.header (head_at i l e) lt);
    }
      where
        before : (z : ℕ) → Head z → P z < P h + 1 → P z < P h
        before z hz lt = ⊎_elim
            (λ (e : P z ≡ P h). let q : z ≡ h = sym (O.listed z (node z hz)) ∙ ap (λ v. get_or order v 0) e ∙ O.listed h hh in absurd (H.all z hz (ap (λ v. get_or headers.at.items v None) q ∙ none)))
            (λ (ne : P z ≢ P h). omega arith)
            (cases_eq (P z) (P h))

        later : (x : ℕ) (o : Option ℕ) → IsHomeBefore sources place nodes (P h) x o → IsHomeBefore sources place nodes (P h + 1) x o
        later x None q = λ z hz lt b. q z hz (before z hz lt) b
        later x (Some i) q = (q.0, (let lt = q.1 in omega (arith, lt)), q.2, λ z hz lt b. q.3 z hz (before z hz lt) b)

    module _ (head : Head h) where
      -- the home of a header so far is its parent
      pub parent_is : (o : Option ℕ) → IsHomeBefore sources place nodes (P h) h o → IsParent sources place nodes h o
      parent_is None q = λ z hz b. ⊎_elim
          (λ (e : z ≡ h). e)
          (λ (ne : z ≢ h). absurd (q z hz (earlier z h hz head (let le = low sources order place S O z h b in omega (arith, le)) ne) b))
          (cases_eq z h)
      parent_is (Some p) q = (
        q.0,
        record {
          head = H.heads p q.0;
          body = q.2;
          other = λ e. let lt = q.1 in let w = ap P e in omega (arith, lt, w);
          latest = λ z hz b ne. q.3 z hz (earlier z h hz head (let le = low sources order place S O z h b in omega (arith, le)) ne) b;
        },
      )

      pub parent_now : IsParent sources place nodes h (get_or f.home.items h None)
      parent_now = parent_is (get_or f.home.items h None) (N.home h hh)

      -- the parent's loop is filled
      pub parent_filled : (p : ℕ) (l : Loop) → get_or f.home.items h None ≡ Some p → slice_get f.loops.items p ≡ Some l → IsFilled sources place nodes most l
      parent_filled p l e at =
          let q = subst (λ o. IsHomeBefore sources place nodes (P h) h o) e (N.home h hh) in
          N.filled p l at (let lt = q.1 in let w = ap P (N.header p l at) in omega (arith, lt, w))

      -- the headers around h, and its depth
      abbrev IsDepth : ℕ → Type 0
      IsDepth d = (around : List ℕ) × Encloses sources place h around × (d ≡ length around + 1) × (d ≤ most + 1)

      pub depth_alone : (d : ℕ) → get_or f.home.items h None ≡ None → d ≡ 1 → IsDepth d
      depth_alone d e one = ([], alone h head (subst (λ o. IsParent sources place nodes h o) e parent_now), omega (arith, one), omega (arith, one))

      -- .. from its parent, and the headers around that one
      pub depth_parent : (d p : ℕ) (l : Loop) → get_or f.home.items h None ≡ Some p → l ≡ get_or f.loops.items p l → d ≡ l.depth + 1 → IsDepth d
      depth_parent d p l e read is =
          let q = subst (λ o. IsParent sources place nodes h o) e parent_now in
          let at : slice_get f.loops.items p ≡ Some l = listed_read f.loops.items p l (let lt = q.0 in omega (arith, lt, N.size)) (sym read) in
          let F = parent_filled p l e at in (
            get_or nodes p 0 ∷ F.around,
            within h (get_or nodes p 0) F.around head q.1 (subst (λ v. Encloses sources place v F.around) (N.header p l at) F.outer),
            omega (arith, F.depth, is),
            omega (arith, F.shallow, is),
          )

      -- the loop of h with its nodes in order
      pub filled_now : (l : Loop) (members : List ℕ) → l.header ≡ h → l.parent ≡ get_or f.home.items h None → IsDepth l.depth → l.depth ≤ most → AreBody sources place h members → IsDistinct nat_eq members
          → IsPermutation members l.members.items → IsNonDecreasing l.members.items → IsFilled sources place nodes most l
      filled_now l members own parent depth shallow are apart moved rises = record {
        body = subst (λ v. AreBody sources place v l.members.items) (sym own) (λ x. (
          (λ c. (are x).0 (Contains-permutation l.members.items members x (IsPermutation-sym members l.members.items moved) c)),
          (λ b. Contains-permutation members l.members.items x moved ((are x).1 b)),
        ));
        ascend = IsStrictlyIncreasing-from_distinct l.members.items rises (IsDistinct-IsPermutation nat_eq flips members l.members.items moved apart);
        parent = subst (λ v. IsParent sources place nodes v l.parent) (sym own) (subst (λ o. IsParent sources place nodes h o) (sym parent) parent_now);
        around = depth.0;
        outer = subst (λ v. Encloses sources place v depth.0) (sym own) depth.1;
        depth = depth.2;
        shallow = shallow;
      }
        where
          flips : (x y : ℕ) → nat_eq x y ≡ nat_eq y x
          flips = nat_eq_equiv.symm

      -- no node has the home of h yet
      pub home_unused : (i : ℕ) → get_or nodes i 0 ≡ h → (x : ℕ) → get_or f.home.items x None ≢ Some i
      home_unused i is x e = ⊎_elim
          (λ (lt : x < length sources). let q = subst (λ o. IsHomeBefore sources place nodes (P h) x o) e (N.home x lt) in let w = q.1 in let v = ap P is in omega (arith, w, v))
          (λ (ge : length sources ≤ x). none-some i (sym (get_or_past f.home.items x None (omega (arith, ge, N.homes))) ∙ e))
          (cases_lt x (length sources))

      -- where loops nest too deep
      pub too_deep : (d : ℕ) → IsDepth d → (members : List ℕ) → AreBody sources place h members → (s : List (List ℕ)) → IsReversed s sources → HasDepth s d
      too_deep d deep members are s rev = (h ∷ deep.0, members, enclosed_loop sources order place S O s rev h deep.0 deep.1 bodies members are, omega (arith, deep.2))
        where
          bodies : (z : ℕ) → Head z → P z ≤ P h → (l : List ℕ) × AreBody sources place z l
          bodies z hz le = ⊎_elim
              (λ (e : z ≡ h). (members, subst (λ v. AreBody sources place v members) (sym e) are))
              (λ (ne : z ≢ h).
              let i = found_head z hz in
              let l = listed_at f.loops.items i.0 (let lt = i.2 in omega (arith, lt, N.size)) in
              let is : l.0.header ≡ z = N.header i.0 l.0 l.1 ∙ i.3 in
              let F = N.filled i.0 l.0 l.1 (let w = ap P is in let lt = earlier z h hz head (omega (arith, le)) ne in omega (arith, w, lt)) in
              (l.0.members.items, subst (λ v. AreBody sources place v l.0.members.items) is F.body))
              (cases_eq z h)

      -- the loop of h is filled
      pub nested_more : (i : ℕ) (l : Loop) (g : Nest) → i < length nodes → get_or nodes i 0 ≡ h → l.header ≡ h → IsFilled sources place nodes most l → g.loops.items ≡ set f.loops.items i l
          → (members : List ℕ) (homes : List (Option ℕ)) → AreBody sources place h members → g.home.items ≡ homes → IsMarked i homes members → KeepsHomes i f.home.items homes → IsNested sources place nodes most (P h + 1) g
      nested_more i l g hi is own F loops members homes are written marked keeps = record {
        size = ap (λ (k : List Loop). length k) loops ∙ length-set f.loops.items i l ∙ N.size;
        header = λ j k e. ⊎_elim
            (λ (q : (j ≢ i) × (slice_get f.loops.items j ≡ Some k)). N.header j k q.1)
            (λ (q : (j ≡ i) × (k ≡ l)). ap (λ (v : Loop). v.header) q.1 ∙ own ∙ sym is ∙ ap (λ v. get_or nodes v 0) (sym q.0))
            (at j k e);
        homes = K.size ∙ N.homes;
        home = λ x lt. home x lt (get_or g.home.items x None) refl;
        filled = λ j k e lt. ⊎_elim
            (λ (q : (j ≢ i) × (slice_get f.loops.items j ≡ Some k)). N.filled j k q.1 (earlier k.header h (head_at j k q.1) head lt (λ w. q.0 (distinct j i (inside j k q.1) hi (sym (N.header j k q.1) ∙ w ∙ sym is)))))
            (λ (q : (j ≡ i) × (k ≡ l)). subst (λ (v : Loop). IsFilled sources place nodes most v) (sym q.1) F)
            (at j k e);
      }
        where
          M : IsMarked i g.home.items members
          M = subst (λ (m : List (Option ℕ)). IsMarked i m members) (sym written) marked

          K : KeepsHomes i f.home.items g.home.items
          K = subst (λ (m : List (Option ℕ)). KeepsHomes i f.home.items m) (sym written) keeps

          at : (j : ℕ) (k : Loop) → slice_get g.loops.items j ≡ Some k → ((j ≢ i) × (slice_get f.loops.items j ≡ Some k)) ⊎ ((j ≡ i) × (k ≡ l))
          at j k e = set_at f.loops.items i l j k (ap (λ (v : List Loop). slice_get v j) (sym loops) ∙ e)

          inside : (j : ℕ) (k : Loop) → slice_get f.loops.items j ≡ Some k → j < length nodes
          inside j k e = let lt = slice_get_within f.loops.items j k e in omega (arith, lt, N.size)

          home : (x : ℕ) → x < length sources → (o : Option ℕ) → get_or g.home.items x None ≡ o → IsHomeBefore sources place nodes (P h + 1) x o
          home x lt None e = λ z hz less b. ⊎_elim
              (λ (q : z ≡ h). none-some i (sym e ∙ M.marked x ((are x).1 (subst (λ v. Body v x) q b))))
              (λ (ne : z ≢ h). subst (λ o. IsHomeBefore sources place nodes (P h) x o) (sym (K.kept x (λ q. none-some i (sym e ∙ q))) ∙ e) (N.home x lt) z hz (earlier z h hz head less ne) b)
              (cases_eq z h)
          home x lt (Some j) e = ⊎_elim
              (λ (q : j ≡ i). subst (λ v. IsHomeBefore sources place nodes (P h + 1) x (Some v)) (sym q) (
                hi,
                (let w = ap P is in omega (arith, w)),
                subst (λ v. Body v x) (sym is) ((are x).0 (M.only x (e ∙ ap Some q))),
                λ z hz less b. let w = ap P is in omega (arith, w, less),
              ))
              (λ (ne : j ≢ i).
              let other : get_or g.home.items x None ≢ Some i = λ q. ne (same_Some j i (sym e ∙ q)) in
              let q = subst (λ o. IsHomeBefore sources place nodes (P h) x o) (sym (K.kept x other) ∙ e) (N.home x lt) in (
                q.0,
                (let less = q.1 in omega (arith, less)),
                q.2,
                λ z hz less b. ⊎_elim
                    (λ (w : z ≡ h). absurd (other (M.marked x ((are x).1 (subst (λ v. Body v x) w b)))))
                    (λ (away : z ≢ h). q.3 z hz (earlier z h hz head less away) b)
                    (cases_eq z h),
              ))
              (cases_eq j i)
