-- What stands for a thing, and that it does so once.
use Rattle.std.proofs.Common.{◌≡◌, ℕ, List, map, length, Some, slice_get, refl, sym, ap, ◌∙◌, subst}
use Rattle.std.specs.List.{AllZip}
use Rattle.pv_graph.specs.declared.node.Op.{Op}
use Rattle.pv_steps.specs.Facts.{View}
use Rattle.pv_heights.specs.Systems.{System, Relation, Subset}
use Rattle.pv_heights.specs.Heights.{IsBase}
use Rattle.pv_heights.specs.Searches.{IsWhole}
use Rattle.pv_heights.specs.SameClasses.{IsSystem, IsCongruence, StandsFor, node, made, Near}
use Rattle.pv_heights.proofs.Zips.{zip_of, zip_flip, zip_join, zip_mapped, zip_both}

module _ {view : View} (whole : IsWhole view) {S T : System} (lS : IsSystem view S) (lT : IsSystem view T) {D : Subset T} {E : Relation T} (c : IsCongruence view T D E) where
  pub stand_in : (x : S.Thing) (y : T.Thing) → StandsFor view S T D E x y → D y
  stand_in x y (node n a b h e f) = subst D (sym f) (c.nodes n h)
  stand_in x y (made a b o ks ls ws p q r s z l h) = r

  node_near : (n : ℕ) → IsBase view n → Near view S T D E (S.node n) (T.node n)
  node_near n h = record { thing = T.node n; stands = node n (S.node n) (T.node n) h refl refl; joins = c.same (T.node n) (c.nodes n h) }

  -- it has the operation, and kids near the kids
  pub stand_has : (x : S.Thing) (y : T.Thing) → StandsFor view S T D E x y → (o : Op) (ks : List S.Thing) → S.Has x o ks → (ls : List T.Thing) × T.Has y o ls × AllZip (Near view S T D E) ks ls
  stand_has x y (node n a b h e f) o ks k =
      let m = lS.once x o h.0 ks (map S.node h.1) k (subst (λ v. S.Has v h.0 (map S.node h.1)) (sym e) (lS.has n h.0 h.1 h.2)) in (
        map T.node h.1,
        subst (λ v. T.Has v o (map T.node h.1)) (sym f) (subst (λ o. T.Has (T.node n) o (map T.node h.1)) (sym m.0) (lT.has n h.0 h.1 h.2)),
        subst (λ v. AllZip (Near view S T D E) v (map T.node h.1)) (sym m.1) (zip_mapped (Near view S T D E) S.node T.node h.1 (λ j i. node_near j (whole n j h.0 h.1 h.2 i))),
      )
  stand_has x y (made a b o ks ls ws p q r s z l h) o2 ks2 k =
      let m = lS.once x o2 o ks2 ks k q in (
        ls,
        subst (λ o. T.Has y o ls) (sym m.0) s,
        subst (λ v. AllZip (Near view S T D E) v ls) (sym m.1) (zip_join (StandsFor view S T D E) E (Near view S T D E) (λ u w v i j. record { thing = w; stands = i; joins = j }) ks ws ls (zip_of (StandsFor view S T D E) ks ws l h) z),
      )

  pub stand_once : (x : S.Thing) (y z : T.Thing) → StandsFor view S T D E x y → StandsFor view S T D E x z → E y z
  stand_once x y z (node n a b h e f) (node n2 a2 b2 h2 e2 f2) =
      let m = lS.node_once n n2 (sym e ∙ e2) in
      subst (λ v. E y v) (f ∙ ap T.node m ∙ sym f2) (c.same y (subst D (sym f) (c.nodes n h)))
  stand_once x y z (node n a b h e f) (made a2 b2 o ks ls ws p q r s zs l hs) = absurd (p n h e)
  stand_once x y z (made a b o ks ls ws p q r s zs l hs) (node n a2 b2 h e f) = absurd (p n h e)
  stand_once x y z (made a b o ks ls ws p q r s zs l hs) (made a2 b2 o2 ks2 ls2 ws2 p2 q2 r2 s2 zs2 l2 hs2) =
      let m = lS.once x o2 o ks2 ks q2 q in
      c.kids y z o ls ls2 r r2 s (subst (λ o. T.Has z o ls2) m.0 s2)
      (zip_join E E E (λ u v w i j. c.chain u v w i j) ls ws ls2
      (zip_flip E E (λ u v i. c.flip v u i) ws ls zs)
      (zip_join E E E (λ u v w i j. c.chain u v w i j) ws ws2 ls2
      (zip_both E ks ws ws2 l (ap length (sym m.1) ∙ l2)
      (λ j k u v d e f. stand_once k u v (hs j k u d e) (hs2 j k v (subst (λ w. slice_get w j ≡ Some k) (sym m.1) d) f)))
      zs2))
