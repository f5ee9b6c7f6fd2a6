-- Over to the other system and back comes to the same class.
use Rattle.std.proofs.Common.{◌≡◌, ℕ, zero, suc, List, [], ◌∷◌, Some, slice_get, inl, inr, refl, ap}
use Rattle.std.specs.List.{AllZip}
use Rattle.pv_graph.specs.declared.node.Op.{Op}
use Rattle.pv_graph.specs.Walks.{In}
use Rattle.pv_steps.specs.Facts.{View}
use Rattle.pv_heights.specs.Systems.{System, Relation, Subset}
use Rattle.pv_heights.specs.Heights.{IsBase}
use Rattle.pv_heights.specs.Searches.{IsWhole}
use Rattle.pv_heights.specs.SameClasses.{IsSystem, AreClosed, IsCongruence, StandsFor, node, made, Near, SameClasses}
use Rattle.pv_heights.proofs.Zips.{zip_of, zip_join}
use Rattle.pv_heights.proofs.Stand.{stand_in, stand_has, stand_once}

pub classes_flip : {view : View} {S T : System} {C : Subset S} {D : Subset T} {J : Relation S} {E : Relation T} → SameClasses view S T C D J E → SameClasses view T S D C E J
classes_flip h = record { there = h.back; back = h.there; joins = h.joins_back; joins_back = h.joins }

pub In-slice_get : {A : Type 0} (xs : List A) (j : ℕ) (x : A) → slice_get xs j ≡ Some x → In xs x
In-slice_get [] j x h = absurd (cc)
In-slice_get (y ∷ ys) zero x h = inl (cc)
In-slice_get (y ∷ ys) (suc j) x h = inr (In-slice_get ys j x h)

pub place_of : {A : Type 0} (xs : List A) (x : A) → In xs x → (i : ℕ) × (slice_get xs i ≡ Some x)
place_of [] x i = absurd i
place_of (y ∷ xs) x (inl e) = (zero, ap Some e)
place_of (y ∷ xs) x (inr i) = let p = place_of xs x i in (suc p.0, p.1)

module _ {view : View} (whole : IsWhole view) {S T : System} (lS : IsSystem view S) (lT : IsSystem view T) {C : Subset S} {D : Subset T} {J : Relation S} {E : Relation T}
    (closed : AreClosed S C) (cJ : IsCongruence view S C J) (cE : IsCongruence view T D E) (h : SameClasses view S T C D J E) where
  -- what stands for a thing of S, and what stands for a thing of T
  abbrev There : S.Thing → T.Thing → Type 0
  There = StandsFor view S T D E

  abbrev Back : T.Thing → S.Thing → Type 0
  Back = StandsFor view T S C J

  abbrev N : S.Thing → T.Thing → Type 0
  N = Near view S T D E

  in_there : (a : S.Thing) (y : T.Thing) → There a y → D y
  in_there = stand_in whole lS lT cE

  -- back and forth is near
  pub round_trip : (a : S.Thing) (y : T.Thing) → There a y → C a → (b : S.Thing) → Back y b → J a b
  round_trip a y (node n _ _ e p q) k b t = stand_once whole lT lS cJ y a b (node n y a e q p) t
  round_trip a y (made _ _ o ks ls ws p q r s z l hs) k b t =
      let v = stand_has whole lT lS cJ y b t o ls s in
      cJ.kids a b o ks v.0 k (stand_in whole lT lS cJ y b t) q v.1
      (zip_join Mid (λ w m. (u : T.Thing) × E w u × Near view T S C J u m) J place ks ws v.0
      (zip_of Mid ks ws l (λ j i w e f. (in_there i w (hs j i w e f), λ m n. round_trip i w (hs j i w e f) (closed a o ks i k q (In-slice_get ks j i e)) m n)))
      (zip_join E (Near view T S C J) (λ w m. (u : T.Thing) × E w u × Near view T S C J u m) (λ w u m e f. (u, e, f)) ws ls v.0 z v.2))
    where
      Mid : S.Thing → T.Thing → Type 0
      Mid i w = D w × ((m : S.Thing) → Back w m → J i m)

      place : (i : S.Thing) (w : T.Thing) (m : S.Thing) → Mid i w → (u : T.Thing) × E w u × Near view T S C J u m → J i m
      place i w m d n = let v = h.back w d.0 in cJ.chain i v.0 m (d.1 v.0 v.1) (cJ.chain v.0 n.2.thing m (h.joins_back w n.0 v.0 n.2.thing n.1 v.1 n.2.stands) n.2.joins)

  -- what is near a thing has its operation, and kids near its kids
  pub near_has : (a : S.Thing) (o : Op) (ks : List S.Thing) → C a → S.Has a o ks → (y : T.Thing) × (ls : List T.Thing) × D y × N a y × T.Has y o ls × AllZip N ks ls
  near_has a o ks k q =
      let y = h.there a k in
      let d = in_there a y.0 y.1 in
      let r = stand_has whole lS lT cE a y.0 y.1 o ks q in
      (y.0, r.0, d, record { thing = y.0; stands = y.1; joins = cE.same y.0 d }, r.1, r.2)

  pub near_joins : (a b : S.Thing) (y z : T.Thing) → N a y → N b z → J a b → E y z
  near_joins a b y z m n j = cE.chain y m.thing z (cE.flip y m.thing m.joins) (cE.chain m.thing n.thing z (h.joins a b m.thing n.thing j m.stands n.stands) n.joins)

  pub near_back : (a b : S.Thing) (y z : T.Thing) → C a → C b → N a y → N b z → E y z → J a b
  near_back a b y z p q m n e =
      let v = h.back m.thing (in_there a m.thing m.stands) in
      let w = h.back n.thing (in_there b n.thing n.stands) in
      cJ.chain a v.0 b (round_trip a m.thing m.stands p v.0 v.1)
      (cJ.chain v.0 w.0 b (h.joins_back m.thing n.thing v.0 w.0 (cE.chain m.thing y n.thing m.joins (cE.chain y z n.thing e (cE.flip z n.thing n.joins))) v.1 w.1)
      (cJ.flip w.0 b (round_trip b n.thing n.stands q w.0 w.1)))

  pub near_flip : (a : S.Thing) (y : T.Thing) → C a → D y → N a y → Near view T S C J y a
  near_flip a y p d m =
      let v = h.back m.thing (in_there a m.thing m.stands) in
      let w = h.back y d in
      record { thing = w.0; stands = w.1; joins = cJ.chain w.0 v.0 a (h.joins_back y m.thing w.0 v.0 (cE.flip y m.thing m.joins) w.1 v.1) (cJ.flip v.0 a (round_trip a m.thing m.stands p v.0 v.1)) }

  pub near_there : (a : S.Thing) → C a → (y : T.Thing) × D y × N a y
  near_there a p = let y = h.there a p in let d = in_there a y.0 y.1 in (y.0, d, record { thing = y.0; stands = y.1; joins = cE.same y.0 d })

  pub near_node : (n : ℕ) → IsBase view n → N (S.node n) (T.node n)
  near_node n e = record { thing = T.node n; stands = node n (S.node n) (T.node n) e refl refl; joins = cE.same (T.node n) (cE.nodes n e) }
