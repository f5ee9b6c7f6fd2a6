-- Filled loops are the forest of a shape.
use Rattle.std.proofs.Common.{◌≡◌, ◌≢◌, ℕ, ◌<◌, ◌≤◌, List, [], ◌∷◌, length, get_or, refl, sym, ◌∙◌, ap, subst, arith, Option, Some, None, slice_get}
use Rattle.pv_loops.proofs.Words.{slice_get_within, get_or_from_slice_get, Loop, Forest, Nest, Headers, IsShape, IsReversed, IsLoop, IsOrder, IsHead, InBody, AreBody, AreHeaders, Encloses, alone, within, IsParent, IsFilled, IsHomeBefore, IsNested, AreAround, inner, IsListed, HasLoop, IsHome, IsForest, NestsUpTo}
use Rattle.pv_loops.specs.Forests.{outermost}
use Rattle.pv_loops.proofs.Bodies.{head_of}
use Rattle.pv_loops.proofs.Listing.{listed_at, increases}
use Rattle.pv_loops.proofs.Nesting.{meets, same_next, same_around, fewer_around, enclosed_head, enclosed_loop, IsEnclosed, loop_enclosed}
use Rattle.pv_loops.proofs.Filling.{found_head, distinct}

module _ (s sources : List (List ℕ)) (order place : List ℕ) (rev : IsReversed s sources) (S : IsShape sources) (O : IsOrder sources order place) (headers : Headers) (H : AreHeaders sources place headers) (most : ℕ) (f : Nest)
    (N : IsNested sources place headers.nodes.items most (length order) f) where
  abbrev P : ℕ → ℕ
  P x = get_or place x 0

  abbrev nodes : List ℕ
  nodes = headers.nodes.items

  abbrev loops : List Loop
  loops = f.loops.items

  abbrev Head : ℕ → Type 0
  Head h = IsHead sources place h

  abbrev Body : ℕ → ℕ → Type 0
  Body h x = InBody sources place h x

  in_order : (h : ℕ) → Head h → P h < length order
  in_order h head = O.place_in h (head_of sources order place S O h head)

  in_headers : (i : ℕ) (l : Loop) → slice_get loops i ≡ Some l → i < length nodes
  in_headers i l e = let lt = slice_get_within loops i l e in omega (arith, lt, N.size)

  head_at : (i : ℕ) (l : Loop) → slice_get loops i ≡ Some l → Head l.header
  head_at i l e = subst (λ v. Head v) (sym (N.header i l e)) (H.heads i (in_headers i l e))

  pub filled : (i : ℕ) (l : Loop) → slice_get loops i ≡ Some l → IsFilled sources place nodes most l
  filled i l e = N.filled i l e (in_order l.header (head_at i l e))

  -- the loop of a header
  found : (h : ℕ) → Head h → (i : ℕ) × (l : Loop) × (slice_get loops i ≡ Some l) × (l.header ≡ h)
  found h head =
      let i = found_head sources order place S O headers H h head in
      let l = listed_at loops i.0 (let lt = i.2 in omega (arith, lt, N.size)) in
      (i.0, l.0, l.1, N.header i.0 l.0 l.1 ∙ i.3)

  bodies : (h : ℕ) → Head h → (l : List ℕ) × AreBody sources place h l
  bodies h head = let l = found h head in (l.1.members.items, subst (λ v. AreBody sources place v l.1.members.items) l.3 (filled l.0 l.1 l.2).body)

  -- the headers around a header are those of its parents
  pub around_is : (h : ℕ) (around : List ℕ) → Encloses sources place h around → (i : ℕ) (l : Loop) → slice_get loops i ≡ Some l → l.header ≡ h → AreAround loops l around
  around_is _ _ (alone h head sole) i l at own = go l.parent refl (subst (λ v. IsParent sources place nodes v l.parent) own (filled i l at).parent)
    where
      go : (o : Option ℕ) → l.parent ≡ o → IsParent sources place nodes h o → AreAround loops l []
      go None e q = outermost l e
      go (Some p) e q = absurd (q.1.other (sole (get_or nodes p 0) q.1.head q.1.body))
  around_is _ _ (within h o around head next enc) i l at own = go (λ p k at_p is. around_is o around enc p k at_p is) l.parent refl (subst (λ v. IsParent sources place nodes v l.parent) own (filled i l at).parent)
    where
      go : ((p : ℕ) (k : Loop) → slice_get loops p ≡ Some k → k.header ≡ o → AreAround loops k around) → (q : Option ℕ) → l.parent ≡ q → IsParent sources place nodes h q → AreAround loops l (o ∷ around)
      go outer None e q = absurd (next.other (q o next.head next.body))
      go outer (Some p) e q =
          let k = listed_at loops p (let lt = q.0 in omega (arith, lt, N.size)) in
          let is : k.0.header ≡ o = N.header p k.0 k.1 ∙ same_next sources order place S O h (get_or nodes p 0) o q.1 next in
          subst (λ v. AreAround loops l (v ∷ around)) is (inner l k.0 p around e k.1 (outer p k.0 k.1 is))

  listed : (i : ℕ) (l : Loop) → slice_get loops i ≡ Some l → IsListed s loops l
  listed i l at = let F = filled i l at in record {
    around = F.around;
    outer = around_is l.header F.around F.outer i l at refl;
    is = enclosed_loop sources order place S O s rev l.header F.around F.outer (λ z hz _. bodies z hz) l.members.items F.body;
    depth = omega (arith, F.depth);
    ascend = F.ascend;
  }

  has_loop : (hs members : List ℕ) → IsEnclosed sources order place S O s rev hs members → HasLoop loops hs members
  has_loop [] members q = absurd q
  has_loop (h ∷ around) members q =
      let l = found h (enclosed_head sources order place S O h around q.0) in record {
        place = l.0;
        listed = l.1;
        at = l.2;
        around = around;
        outer = around_is h around q.0 l.0 l.1 l.2 l.3;
        same_headers = ap (λ v. v ∷ around) l.3;
        same_nodes = λ x. let b = subst (λ v. AreBody sources place v l.1.members.items) l.3 (filled l.0 l.1 l.2).body x in ((λ c. (q.1 x).1 (b.0 c)), (λ c. b.1 ((q.1 x).0 c)));
      }

  has_all : (hs members : List ℕ) → IsLoop s hs members → HasLoop loops hs members
  has_all hs members loop = has_loop hs members (loop_enclosed sources order place S O s rev bodies hs members loop)

  -- of two loops that have a node, the one whose header is later in the order is deeper
  deeper : (x i j : ℕ) (k l : Loop) → slice_get loops i ≡ Some k → slice_get loops j ≡ Some l → j ≢ i → Body k.header x → Body l.header x → P l.header ≤ P k.header → l.depth < k.depth
  deeper x i j k l ek el ne bk bl le =
      let hk = head_at i k ek in
      let hl = head_at j l el in
      let A = filled i k ek in
      let B = filled j l el in
      let other : l.header ≢ k.header = λ e. ne (distinct sources order place S O headers H j i (in_headers j l el) (in_headers i k ek) (sym (N.header j l el) ∙ e ∙ N.header i k ek)) in
      let less = fewer_around sources order place S O l.header B.around hl B.outer k.header A.around A.outer (meets sources order place S O l.header k.header x hl hk bl bk le) other in
      omega (arith, less, A.depth, B.depth)

  home_is : (x : ℕ) (o : Option ℕ) → IsHomeBefore sources place nodes (length order) x o → IsHome loops x o
  home_is x None q = λ i l at c. q l.header (head_at i l at) (in_order l.header (head_at i l at)) (((filled i l at).body x).0 c)
  home_is x (Some i) q =
      let k = listed_at loops i (let lt = q.0 in omega (arith, lt, N.size)) in
      let is = N.header i k.0 k.1 in
      let b : Body k.0.header x = subst (λ v. Body v x) (sym is) q.2 in (
        k.0,
        k.1,
        ((filled i k.0 k.1).body x).1 b,
        λ j l at c ne.
            let d : Body l.header x = ((filled j l at).body x).0 c in
            let le = q.3 l.header (head_at j l at) (in_order l.header (head_at j l at)) d in
            deeper x i j k.0 l k.1 at ne b d (let w = ap P is in omega (arith, w, le)),
      )

  shallow_is : (hs members : List ℕ) → IsEnclosed sources order place S O s rev hs members → length hs ≤ most
  shallow_is [] members q = absurd q
  shallow_is (h ∷ around) members q =
      let l = found h (enclosed_head sources order place S O h around q.0) in
      let F = filled l.0 l.1 l.2 in
      let len = ap length (same_around sources order place S O h F.around around (subst (λ v. Encloses sources place v F.around) l.3 F.outer) q.0) in
      omega (arith, len, F.depth, F.shallow)

  pub nests_up_to : NestsUpTo s most
  nests_up_to hs members loop = shallow_is hs members (loop_enclosed sources order place S O s rev bodies hs members loop)

pub forest_is : (s sources : List (List ℕ)) (order place : List ℕ) → IsReversed s sources → IsShape sources → IsOrder sources order place → (headers : Headers) → AreHeaders sources place headers → (most : ℕ) (f : Forest)
    → IsNested sources place headers.nodes.items most (length order) (record { loops = f.loops; home = f.home }) → IsForest s f
forest_is s sources order place rev S O headers H most f N = record {
  loops = listed s sources order place rev S O headers H most (record { loops = f.loops; home = f.home }) N;
  all = has_all s sources order place rev S O headers H most (record { loops = f.loops; home = f.home }) N;
  ascend = λ i j k l lt ek el.
      let less = increases headers.nodes.items H.ascend i j lt (in_headers s sources order place rev S O headers H most (record { loops = f.loops; home = f.home }) N j l el) in
      omega (arith, less, N.header i k ek, N.header j l el);
  homes = N.homes ∙ rev.size;
  home = λ x o e. home_is s sources order place rev S O headers H most (record { loops = f.loops; home = f.home }) N x o
      (subst (λ v. IsHomeBefore sources place headers.nodes.items (length order) x v) (get_or_from_slice_get f.home.items x o None e) (N.home x (let lt = slice_get_within f.home.items x o e in omega (arith, lt, N.homes))));
}
