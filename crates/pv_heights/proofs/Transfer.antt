-- What is joined on one side is joined on the other, inductions included.
use Rattle.std.proofs.Common.{◌≡◌, ℕ, ◌<◌, List, [], ◌∷◌, length, Some, slice_get, inl, inr, refl, ap, ◌∙◌, subst}
use Rattle.std.specs.Prelude.{⊤}
use Rattle.std.specs.List.{AllZip}
use Rattle.pv_graph.specs.declared.node.Op.{Op}
use Rattle.pv_graph.specs.declared.node.Op.TheVariants as op
use Rattle.pv_graph.specs.Walks.{In}
use Rattle.pv_steps.specs.Facts.{View}
use Rattle.pv_heights.specs.Systems.{System, Hypothesis, IsFixed, IsOutside, AreThetas, Joined, given, same, flip, chain, kids, outer, assumed, induction, Relation, Subset}
use Rattle.pv_heights.specs.Heights.{IsBase}
use Rattle.pv_heights.specs.Searches.{IsWhole}
use Rattle.pv_heights.specs.SameClasses.{IsSystem, IsCongruence, StandsFor, Near}
use Rattle.pv_heights.proofs.Zips.{zip_get, zip_of, zip_length}
use Rattle.pv_heights.proofs.Stand.{stand_in, stand_has, stand_once}

-- with no depth fixed, it is a congruence
pub close_congruence : (view : View) (S : System) (C : Subset S) (K : Relation S) → ((n : ℕ) → IsBase view n → C (S.node n)) → IsCongruence view S C (Joined S C [] K [])
close_congruence view S C K nodes = record {
  nodes = nodes;
  same = λ a h. same [] a h;
  flip = λ a b h. flip [] a b h;
  chain = λ a b c h k. chain [] a b c h k;
  kids = λ a b o ks ls p q h k z. kids [] a b o ks ls p q h k (λ d l f. f) (zip_length _ ks ls z) (λ j u v e f. zip_get _ ks ls z j u v e f);
}

-- the blocks of one side, with things of the other
abbrev pub Images : (view : View) (S T : System) → Subset T → Relation T → List (Hypothesis S.Thing) → List (Hypothesis T.Thing) → Type 0
Images view S T D E [] [] = ⊤
Images view S T D E [] (c ∷ cs) = ⊥
Images view S T D E (b ∷ bs) [] = ⊥
Images view S T D E (b ∷ bs) (c ∷ cs) = (b.depth ≡ c.depth)
    × ((x x2 : S.Thing) → In b.pairs (x, x2) → (y : T.Thing) × (z : T.Thing) × In c.pairs (y, z) × StandsFor view S T D E x y × StandsFor view S T D E x2 z)
    × Images view S T D E bs cs

images-fixed : (view : View) (S T : System) (D : Subset T) (E : Relation T) (bs : List (Hypothesis S.Thing)) (cs : List (Hypothesis T.Thing)) → Images view S T D E bs cs → (d : ℕ) → IsFixed [] cs d → IsFixed [] bs d
images-fixed view S T D E [] [] i d f = f
images-fixed view S T D E [] (c ∷ cs) i d f = absurd i
images-fixed view S T D E (b ∷ bs) [] i d f = absurd i
images-fixed view S T D E (b ∷ bs) (c ∷ cs) i d (inl f) = inl (i.0 ∙ f)
images-fixed view S T D E (b ∷ bs) (c ∷ cs) i d (inr f) = inr (images-fixed view S T D E bs cs i.2 d f)

pair_of : {A B : Type 0} (R : A → B → Type 0) (p q : A) (ls : List B) → AllZip R (p ∷ q ∷ []) ls → (u : B) × (v : B) × (ls ≡ u ∷ v ∷ []) × R p u × R q v
pair_of R p q [] z = absurd z
pair_of R p q (u ∷ []) z = absurd z.1
pair_of R p q (u ∷ v ∷ []) z = (u, v, refl, z.0, z.1.0)
pair_of R p q (u ∷ v ∷ w ∷ ls) z = absurd z.1.1

module _ (view : View) (whole : IsWhole view) (S T : System) (lS : IsSystem view S) (lT : IsSystem view T) (C : Subset S) (K : Relation S) (D : Subset T) (L : Relation T)
    (c : IsCongruence view T D (Joined T D [] L []))
    (total : (a : S.Thing) → C a → (y : T.Thing) × StandsFor view S T D (Joined T D [] L []) a y)
    (start : (a b : S.Thing) → K a b → (y : T.Thing) × (z : T.Thing) × StandsFor view S T D (Joined T D [] L []) a y × StandsFor view S T D (Joined T D [] L []) b z × Joined T D [] L [] y z)
  where
    abbrev St : S.Thing → T.Thing → Type 0
    St = StandsFor view S T D (Joined T D [] L [])

    -- things that stand for both are joined
    abbrev Res : List (Hypothesis T.Thing) → S.Thing → S.Thing → Type 0
    Res cs a b = (y : T.Thing) × (z : T.Thing) × St a y × St b z × Joined T D [] L cs y z

    lift : (cs : List (Hypothesis T.Thing)) (y z : T.Thing) → Joined T D [] L [] y z → Joined T D [] L cs y z
    lift [] y z h = h
    lift (b ∷ cs) y z h = outer b cs y z (lift cs y z h)

    between : (cs : List (Hypothesis T.Thing)) (k l : S.Thing) (u v : T.Thing) → Near view S T D (Joined T D [] L []) k u → Near view S T D (Joined T D [] L []) l v → Res cs k l → Joined T D [] L cs u v
    between cs k l u v m n r =
        chain cs u m.thing v (lift cs u m.thing (flip [] u m.thing m.joins)) (chain cs m.thing r.0 v (lift cs m.thing r.0 (stand_once whole lS lT c k m.thing r.0 m.stands r.2))
        (chain cs r.0 r.1 v r.4 (chain cs r.1 n.thing v (lift cs r.1 n.thing (stand_once whole lS lT c l r.1 n.thing r.3 n.stands)) (lift cs n.thing v n.joins))))

    betweens : (cs : List (Hypothesis T.Thing)) (ks ls : List S.Thing) (us vs : List T.Thing) → AllZip (Near view S T D (Joined T D [] L [])) ks us → AllZip (Near view S T D (Joined T D [] L [])) ls vs → AllZip (Res cs) ks ls → AllZip (Joined T D [] L cs) us vs
    betweens cs [] [] [] [] m n r = tt
    betweens cs [] [] [] (v ∷ vs) m n r = n
    betweens cs [] [] (u ∷ us) vs m n r = absurd m
    betweens cs [] (l ∷ ls) us vs m n r = absurd r
    betweens cs (k ∷ ks) [] us vs m n r = absurd r
    betweens cs (k ∷ ks) (l ∷ ls) [] vs m n r = absurd m
    betweens cs (k ∷ ks) (l ∷ ls) (u ∷ us) [] m n r = absurd n
    betweens cs (k ∷ ks) (l ∷ ls) (u ∷ us) (v ∷ vs) m n r = (between cs k l u v m.0 n.0 r.0, betweens cs ks ls us vs m.1 n.1 r.1)

    by_kids : (bs : List (Hypothesis S.Thing)) (cs : List (Hypothesis T.Thing)) → Images view S T D (Joined T D [] L []) bs cs → (a b : S.Thing) (o : Op) (ks ls : List S.Thing) → C a → C b → S.Has a o ks → S.Has b o ls → IsOutside [] bs o → (length ks ≡ length ls)
        → ((j : ℕ) (k l : S.Thing) → slice_get ks j ≡ Some k → slice_get ls j ≡ Some l → Res cs k l) → Res cs a b
    by_kids bs cs i a b o ks ls p q h k w n r =
        let na = total a p in let nb = total b q in
        let ia = stand_has whole lS lT c a na.0 na.1 o ks h in let ib = stand_has whole lS lT c b nb.0 nb.1 o ls k in
        let z : AllZip (Joined T D [] L cs) ia.0 ib.0 = betweens cs ks ls ia.0 ib.0 ia.2 ib.2 (zip_of (Res cs) ks ls n r) in (
          na.0,
          nb.0,
          na.1,
          nb.1,
          kids cs na.0 nb.0 o ia.0 ib.0 (stand_in whole lS lT c a na.0 na.1) (stand_in whole lS lT c b nb.0 nb.1) ia.1 ib.1
              (λ d l v. w d l (images-fixed view S T D (Joined T D [] L []) bs cs i d v)) (zip_length (Joined T D [] L cs) ia.0 ib.0 z) (λ j u v e f. zip_get (Joined T D [] L cs) ia.0 ib.0 z j u v e f),
        )

    -- the pairs, with things of the other side
    image_pairs : (P : List (S.Thing × S.Thing)) → ((x x2 : S.Thing) → In P (x, x2) → C x × C x2)
        → (Q : List (T.Thing × T.Thing)) × ((x x2 : S.Thing) → In P (x, x2) → (y : T.Thing) × (z : T.Thing) × In Q (y, z) × St x y × St x2 z)
        × ((y z : T.Thing) → In Q (y, z) → (x : S.Thing) × (x2 : S.Thing) × In P (x, x2) × St x y × St x2 z)
    image_pairs [] h = ([], (λ x x2 i. absurd i), (λ y z i. absurd i))
    image_pairs (e ∷ P) h =
        let r = image_pairs P (λ x x2 i. h x x2 (inr i)) in
        let m = h e.0 e.1 (inl refl) in
        let y = total e.0 m.0 in let z = total e.1 m.1 in
        ((y.0, z.0) ∷ r.0, to e P r.0 r.1 y z, back e P r.0 r.2 y z)
      where
        to : (e : S.Thing × S.Thing) (P : List (S.Thing × S.Thing)) (Q : List (T.Thing × T.Thing)) → ((x x2 : S.Thing) → In P (x, x2) → (y : T.Thing) × (z : T.Thing) × In Q (y, z) × St x y × St x2 z)
            → (y : (y : T.Thing) × St e.0 y) (z : (z : T.Thing) × St e.1 z) → (x x2 : S.Thing) → In (e ∷ P) (x, x2) → (u : T.Thing) × (v : T.Thing) × In ((y.0, z.0) ∷ Q) (u, v) × St x u × St x2 v
        to e P Q r y z x x2 (inl i) = (y.0, z.0, inl refl, subst (λ w. St w y.0) (ap (λ (w : S.Thing × S.Thing). w.0) i) y.1, subst (λ w. St w z.0) (ap (λ (w : S.Thing × S.Thing). w.1) i) z.1)
        to e P Q r y z x x2 (inr i) = let k = r x x2 i in (k.0, k.1, inr k.2, k.3, k.4)

        back : (e : S.Thing × S.Thing) (P : List (S.Thing × S.Thing)) (Q : List (T.Thing × T.Thing)) → ((y z : T.Thing) → In Q (y, z) → (x : S.Thing) × (x2 : S.Thing) × In P (x, x2) × St x y × St x2 z)
            → (y : (y : T.Thing) × St e.0 y) (z : (z : T.Thing) × St e.1 z) → (u v : T.Thing) → In ((y.0, z.0) ∷ Q) (u, v) → (x : S.Thing) × (x2 : S.Thing) × In (e ∷ P) (x, x2) × St x u × St x2 v
        back e P Q r y z u v (inl i) = (e.0, e.1, inl refl, subst (λ w. St e.0 w) (ap (λ (w : T.Thing × T.Thing). w.0) i) y.1, subst (λ w. St e.1 w) (ap (λ (w : T.Thing × T.Thing). w.1) i) z.1)
        back e P Q r y z u v (inr i) = let k = r u v i in (k.0, k.1, inr k.2, k.3, k.4)

    -- kids of a thing and of one that stands for it
    near_kids : (d : ℕ) (x p q : S.Thing) (y u v : T.Thing) → St x y → S.Has x (op.Theta d) (p ∷ q ∷ []) → T.Has y (op.Theta d) (u ∷ v ∷ []) → Near view S T D (Joined T D [] L []) p u × Near view S T D (Joined T D [] L []) q v
    near_kids d x p q y u v s h k =
        let r = stand_has whole lS lT c x y s (op.Theta d) (p ∷ q ∷ []) h in
        let z : AllZip (Near view S T D (Joined T D [] L [])) (p ∷ q ∷ []) (u ∷ v ∷ []) = subst (λ w. AllZip (Near view S T D (Joined T D [] L [])) (p ∷ q ∷ []) w) (lT.once y (op.Theta d) (op.Theta d) r.0 (u ∷ v ∷ []) r.1 k).1 r.2 in
        (z.0, z.1.0)

    theta_image : (d : ℕ) (x x2 : S.Thing) (y z : T.Thing) → AreThetas S C d x x2 → St x y → St x2 z → AreThetas T D d y z
    theta_image d x x2 y z t s s2 =
        let r = stand_has whole lS lT c x y s (op.Theta d) (t.p ∷ t.q ∷ []) t.left in
        let r2 = stand_has whole lS lT c x2 z s2 (op.Theta d) (t.r ∷ t.s ∷ []) t.right in
        let k = pair_of (Near view S T D (Joined T D [] L [])) t.p t.q r.0 r.2 in
        let k2 = pair_of (Near view S T D (Joined T D [] L [])) t.r t.s r2.0 r2.2 in
        record { p = k.0; q = k.1; r = k2.0; s = k2.1; is_left = stand_in whole lS lT c x y s; is_right = stand_in whole lS lT c x2 z s2; left = subst (λ w. T.Has y (op.Theta d) w) k.2 r.1; right = subst (λ w. T.Has z (op.Theta d) w) k2.2 r2.1 }

    by_induction : (b : Hypothesis S.Thing) (bs : List (Hypothesis S.Thing)) (cs : List (Hypothesis T.Thing)) → Images view S T D (Joined T D [] L []) bs cs
        → ((d : ℕ) → IsFixed [] bs d → d < b.depth)
        → ((x y : S.Thing) → In b.pairs (x, y) → AreThetas S C b.depth x y)
        → ((x y p q r s : S.Thing) → In b.pairs (x, y) → S.Has x (op.Theta b.depth) (p ∷ q ∷ []) → S.Has y (op.Theta b.depth) (r ∷ s ∷ []) → Res cs p r)
        → ((e : Hypothesis T.Thing) → Images view S T D (Joined T D [] L []) (b ∷ bs) (e ∷ cs) → (x y p q r s : S.Thing) → In b.pairs (x, y) → S.Has x (op.Theta b.depth) (p ∷ q ∷ []) → S.Has y (op.Theta b.depth) (r ∷ s ∷ []) → Res (e ∷ cs) q s)
        → (x y : S.Thing) → In b.pairs (x, y) → Res cs x y
    by_induction b bs cs im above theta first second x x2 m =
        let i = image_pairs b.pairs (λ u v n. let t = theta u v n in (t.is_left, t.is_right)) in
        let e : Hypothesis T.Thing = record { depth = b.depth; pairs = i.0 } in
        let r = i.1 x x2 m in (
          r.0,
          r.1,
          r.3,
          r.4,
          induction e cs (λ d f. above d (images-fixed view S T D (Joined T D [] L []) bs cs im d f))
              (λ y z n. let o = i.2 y z n in theta_image b.depth o.0 o.1 y z (theta o.0 o.1 o.2) o.3 o.4)
              (λ y z p q r s n hy hz. let o = i.2 y z n in let t = theta o.0 o.1 o.2 in
              between cs t.p t.r p r (near_kids b.depth o.0 t.p t.q y p q o.3 t.left hy).0 (near_kids b.depth o.1 t.r t.s z r s o.4 t.right hz).0 (first o.0 o.1 t.p t.q t.r t.s o.2 t.left t.right))
              (λ y z p q r s n hy hz. let o = i.2 y z n in let t = theta o.0 o.1 o.2 in
              between (e ∷ cs) t.q t.s q s (near_kids b.depth o.0 t.p t.q y p q o.3 t.left hy).1 (near_kids b.depth o.1 t.r t.s z r s o.4 t.right hz).1 (second e (refl, i.1, im) o.0 o.1 t.p t.q t.r t.s o.2 t.left t.right))
              r.0 r.1 r.2,
        )

    pub transfer : (bs : List (Hypothesis S.Thing)) (a b : S.Thing) → Joined S C [] K bs a b → (cs : List (Hypothesis T.Thing)) → Images view S T D (Joined T D [] L []) bs cs → Res cs a b
    transfer bs a b (given _ x y h) cs i = let r = start x y h in (r.0, r.1, r.2, r.3, lift cs r.0 r.1 r.4)
    transfer bs a b (same _ x h) cs i = let r = total x h in (r.0, r.0, r.1, r.1, lift cs r.0 r.0 (c.same r.0 (stand_in whole lS lT c x r.0 r.1)))
    transfer bs a b (flip _ x y h) cs i = let r = transfer bs y x h cs i in (r.1, r.0, r.3, r.2, flip cs r.1 r.0 r.4)
    transfer bs a b (chain _ x y z h k) cs i =
        let r = transfer bs x y h cs i in let s = transfer bs y z k cs i in
        (r.0, s.1, r.2, s.3, chain cs r.0 r.1 s.1 r.4 (chain cs r.1 s.0 s.1 (lift cs r.1 s.0 (stand_once whole lS lT c y r.1 s.0 r.3 s.2)) s.4))
    transfer bs a b (kids _ x y o ks ls p q h k w n r) cs i = by_kids bs cs i x y o ks ls p q h k w n (λ j u v e f. transfer bs u v (r j u v e f) cs i)
    transfer bs a b (outer e ds x y h) [] i = absurd i
    transfer bs a b (outer e ds x y h) (f ∷ cs) i = let r = transfer ds x y h cs i.2 in (r.0, r.1, r.2, r.3, outer f cs r.0 r.1 r.4)
    transfer bs a b (assumed e ds x y h) [] i = absurd i
    transfer bs a b (assumed e ds x y h) (f ∷ cs) i = let r = i.1 x y h in (r.0, r.1, r.3, r.4, assumed f cs r.0 r.1 r.2)
    transfer bs a b (induction e ds above theta first second x y m) cs i =
        by_induction e ds cs i above theta (λ x y p q r s n h k. transfer ds p r (first x y p q r s n h k) cs i)
        (λ f j x y p q r s n h k. transfer (e ∷ ds) q s (second x y p q r s n h k) (f ∷ cs) j) x y m

    pub transfer_all : (a b : S.Thing) (y z : T.Thing) → Joined S C [] K [] a b → St a y → St b z → Joined T D [] L [] y z
    transfer_all a b y z h s t =
        let r = transfer [] a b h [] tt in
        chain [] y r.0 z (stand_once whole lS lT c a y r.0 s r.2) (chain [] r.0 r.1 z r.4 (stand_once whole lS lT c b r.1 z r.3 t))
