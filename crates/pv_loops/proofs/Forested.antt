-- The forest of a reducible shape, whatever made it: its nodes can be ranked.
use Rattle.std.proofs.Common.{◌≡◌, ◌≢◌, ℕ, suc, ◌<◌, ◌≤◌, List, ◌∷◌, length, get_or, sym, ◌∙◌, ap, subst, arith, ⊎_elim, Option, Some, None, slice_get}
use Rattle.pv_loops.proofs.Words.{cases_lt, get_or_past, same_Some, get_or_from_slice_get, Contains, Loop, Forest, MAX_DEPTH, IsShape, IsReversed, IsOrder, IsHead, InBody, AreBody, Encloses, HasLoop, IsHome, IsForest, NestsUpTo, headers_from, around, Ranking}
use Rattle.pv_loops.proofs.Bodies.{head_of, body_in}
use Rattle.pv_loops.proofs.Descending.{reduces_to_one}
use Rattle.pv_loops.proofs.Enclosing.{sources_of, reversed, body_of, enclosed}
use Rattle.pv_loops.proofs.Listing.{listed_at}
use Rattle.pv_loops.proofs.Merged.{one_has_order}
use Rattle.pv_loops.proofs.Nesting.{meets, fewer_around, enclosed_head, enclosed_loop, loop_enclosed}
use Rattle.pv_loops.proofs.Orders.{reversed_shape}
use Rattle.pv_loops.proofs.Ranking.{ranking_from}
use Rattle.pv_loops.proofs.Surrounding.{Surrounds, from_none, from_loop, at_most}

module _ (s sources : List (List ℕ)) (order place : List ℕ) (rev : IsReversed s sources) (S : IsShape sources) (O : IsOrder sources order place) (f : Forest) (F : IsForest s f) (N : NestsUpTo s MAX_DEPTH) where
  abbrev P : ℕ → ℕ
  P x = get_or place x 0

  abbrev Head : ℕ → Type 0
  Head h = IsHead sources place h

  abbrev Body : ℕ → ℕ → Type 0
  Body h x = InBody sources place h x

  bodies : (z : ℕ) → Head z → (l : List ℕ) × AreBody sources place z l
  bodies z hz = body_of sources order place S O z hz

  -- the loop of a header is listed
  loop_of : (z : ℕ) (hz : Head z) → (A : List ℕ) × HasLoop f.loops.items (z ∷ A) (bodies z hz).0
  loop_of z hz =
      let e = enclosed sources order place S O (suc (P z)) z (omega arith) hz in
      let b = bodies z hz in
      (e.0, F.all (z ∷ e.0) b.0 (enclosed_loop sources order place S O s rev z e.0 e.1 (λ y hy _. bodies y hy) b.0 b.1))

  in_loop : (z x : ℕ) (hz : Head z) → Body z x → Contains (loop_of z hz).1.listed.members.items x
  in_loop z x hz b = ((loop_of z hz).1.same_nodes x).1 (((bodies z hz).1 x).1 b)

  -- what is listed is the body of a header, with those around it
  listed_body : (i : ℕ) (l : Loop) (at : slice_get f.loops.items i ≡ Some l) → Encloses sources place l.header (F.loops i l at).around × AreBody sources place l.header l.members.items
  listed_body i l at = loop_enclosed sources order place S O s rev bodies (l.header ∷ (F.loops i l at).around) l.members.items (F.loops i l at).is

  from_home : (x : ℕ) (o : Option ℕ) → IsHome f.loops.items x o → Surrounds sources place x (headers_from MAX_DEPTH f.loops.items o)
  from_home x None q = subst (λ (A : List ℕ). Surrounds sources place x A) (sym (from_none MAX_DEPTH f.loops.items)) (λ z hz b. let l = (loop_of z hz).1 in q l.place l.listed l.at (in_loop z x hz b))
  from_home x (Some i) (l, at, c, deepest) =
      let L = F.loops i l at in
      let E = listed_body i l at in
      let few = N (l.header ∷ L.around) l.members.items L.is in
      subst (λ (A : List ℕ). Surrounds sources place x A) (sym (from_loop f.loops.items MAX_DEPTH l L.around L.outer (omega arith) i at)) (
        E.0,
        (E.1 x).0 c,
        λ z hz b. ⊎_elim
            (λ (later : P l.header < P z). absurd (no_later z hz b later))
            (λ (le : P z ≤ P l.header). le)
            (cases_lt (P l.header) (P z)),
      )
    where
      no_later : (z : ℕ) (hz : Head z) → Body z x → P l.header < P z → ⊥
      no_later z hz b later =
          let k = (loop_of z hz).1 in
          let own : k.listed.header ≡ z = ap (λ (v : List ℕ). get_or v 0 0) k.same_headers in
          let E = listed_body i l at in
          let K = listed_body k.place k.listed k.at in
          let head = enclosed_head sources order place S O l.header (F.loops i l at).around E.0 in
          let body : Body l.header z = meets sources order place S O l.header z x head hz ((E.1 x).0 c) b (omega (arith, later)) in
          let ne : l.header ≢ k.listed.header = λ e. let w = ap P (e ∙ own) in omega (arith, w, later) in
          let less = fewer_around sources order place S O l.header (F.loops i l at).around head E.0 k.listed.header (F.loops k.place k.listed k.at).around K.0 (subst (λ v. Body l.header v) (sym own) body) ne in
          let deep = deepest k.place k.listed k.at (in_loop z x hz b) (λ e. ne (ap (λ (v : Loop). v.header) (same_Some l k.listed (sym at ∙ ap (λ v. slice_get f.loops.items v) (sym e) ∙ k.at)))) in
          let dl = (F.loops i l at).depth in
          let dk = (F.loops k.place k.listed k.at).depth in
          omega (arith, less, deep, dl, dk)

  pub forest_surrounds : (x : ℕ) → Surrounds sources place x (around f x)
  forest_surrounds x = ⊎_elim
      (λ (lt : x < length f.home.items).
      let o = listed_at f.home.items x lt in
      subst (λ (o : Option ℕ). Surrounds sources place x (headers_from MAX_DEPTH f.loops.items o)) (sym (get_or_from_slice_get f.home.items x o.0 None o.1)) (from_home x o.0 (F.home x o.0 o.1)))
      (λ (ge : length f.home.items ≤ x). subst (λ (o : Option ℕ). Surrounds sources place x (headers_from MAX_DEPTH f.loops.items o)) (sym (get_or_past f.home.items x None ge))
      (subst (λ (A : List ℕ). Surrounds sources place x A) (sym (from_none MAX_DEPTH f.loops.items))
      (λ z hz b. let lt = body_in sources order place S O z x (head_of sources order place S O z hz) b in omega (arith, lt, ge, F.homes, rev.size))))
      (cases_lt x (length f.home.items))

pub ranking : Ranking
ranking s f S red N F =
    let rev = reversed s S in
    let T = reversed_shape s (sources_of s) S rev in
    let ts = reduces_to_one s S red in
    let O = one_has_order s (sources_of s) S rev ts.0 ts.1 in
    ranking_from s (sources_of s) O.0 O.1 rev T O.2 (around f) (forest_surrounds s (sources_of s) O.0 O.1 rev T O.2 f F N) (λ x. at_most MAX_DEPTH f.loops.items (get_or f.home.items x None))
