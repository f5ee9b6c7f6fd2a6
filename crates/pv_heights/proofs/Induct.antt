-- Where the search stops, all inductions are joined, and nothing else is.
use Rattle.std.proofs.Common.{ℕ, List, [], ◌∷◌, inl, inr}
use Rattle.pv_graph.specs.Walks.{In}
use Rattle.pv_heights.specs.Systems.{System, Joined, given, same, flip, chain, kids, Relation, Subset}
use Rattle.pv_heights.specs.Closing.{With, IsInduction, Run, done, Grows, begin, join, Kept, all, some}
use Rattle.pv_heights.proofs.Zips.{zip_of}
use Rattle.pv_heights.proofs.Nest.{close-induction, close-into, joined-more}

-- what is closed already gives nothing more
pub close-close : (S : System) (C : Subset S) (O : List ℕ) (K L : Relation S) → ((a b : S.Thing) → K a b → Joined S C O L [] a b) → (a b : S.Thing) → Joined S C O K [] a b → Joined S C O L [] a b
close-close S C O K L p a b h =
    close-into S C O K (Joined S C O L []) p (λ a c. same [] a c) (λ a b h. flip [] a b h) (λ a b c h k. chain [] a b c h k)
    (λ a b o ks ls p q h k m n z. kids [] a b o ks ls p q h k m n z) (λ d P h x y i. close-induction S C O L d P h x y i) a b h

with-map : {A : Type 0} (J F : A → A → Type 0) (P : List (A × A)) → ((a b : A) → J a b → F a b) → (a b : A) → With J P a b → With F P a b
with-map J F P p a b (inl h) = inl (p a b h)
with-map J F P p a b (inr h) = inr h

-- the pairs of an induction over what may be joined may be joined
pub induction-joins : (S : System) (C : Subset S) (O : List ℕ) (K F : Relation S) (d : ℕ) (P : List (S.Thing × S.Thing)) → ((a b : S.Thing) → F a b → Joined S C O K [] a b)
    → IsInduction S C O d P F (Joined S C (d ∷ O) (With F P) []) → (x y : S.Thing) → In P (x, y) → Joined S C O K [] x y
induction-joins S C O K F d P p h =
    close-induction S C O K d P (record {
      above = h.above;
      thetas = h.thetas;
      first = λ x y q r s t m e f. p q s (h.first x y q r s t m e f);
      second = λ x y q r s t m e f. joined-more S C (d ∷ O) (With F P) (With (Joined S C O K []) P) (with-map F (Joined S C O K []) P p) [] r t (h.second x y q r s t m e f);
    })

with-joins : (S : System) (C : Subset S) (O : List ℕ) (K F : Relation S) (P : List (S.Thing × S.Thing)) → ((a b : S.Thing) → F a b → Joined S C O K [] a b)
    → ((x y : S.Thing) → In P (x, y) → Joined S C O K [] x y) → (a b : S.Thing) → With F P a b → Joined S C O K [] a b
with-joins S C O K F P p q a b (inl h) = p a b h
with-joins S C O K F P p q a b (inr h) = q a b h

pub induction-in : (S : System) (C : Subset S) (O : List ℕ) (F G H : Relation S) (d : ℕ) (P : List (S.Thing × S.Thing)) → ((a b : S.Thing) → G a b → H a b) → IsInduction S C O d P F G → IsInduction S C O d P F H
induction-in S C O F G H d P p h = record { above = h.above; thetas = h.thetas; first = h.first; second = λ x y q r s t m e f. p r t (h.second x y q r s t m e f) }

mutual
  pub run-sound : (S : System) (C : Subset S) (O : List ℕ) (K F : Relation S) → Run S C O K F → (a b : S.Thing) → F a b → Joined S C O K [] a b
  run-sound S C O K F (done _ _ _ P r c k f) a b h = grows-sound S C O K F r a b h

  grows-sound : (S : System) (C : Subset S) (O : List ℕ) (K F : Relation S) → Grows S C O K F → (a b : S.Thing) → F a b → Joined S C O K [] a b
  grows-sound S C O K F (begin _ _ _ p) a b h = p a b h
  grows-sound S C O K F (join _ _ FBase G _ d P r n i p) a b h =
      close-close S C O (With FBase P) K
      (with-joins S C O K FBase P (λ a b h. grows-sound S C O K FBase r a b h)
      (induction-joins S C O K FBase d P (λ a b h. grows-sound S C O K FBase r a b h)
      (induction-in S C O FBase G (Joined S C (d ∷ O) (With FBase P) []) d P (λ a b h. run-sound S C (d ∷ O) (With FBase P) G n a b h) i)))
      a b (p a b h)

with-full : (S : System) (C : Subset S) (O : List ℕ) (F G : Relation S) (P Q : List (S.Thing × S.Thing)) → ((a b : S.Thing) → Joined S C O (With F Q) [] a b → G a b)
    → ((a b : S.Thing) → G a b → Joined S C O (With F Q) [] a b) → ((x y : S.Thing) → In P (x, y) → G x y) → (a b : S.Thing) → With F P a b → Joined S C O (With F Q) [] a b
with-full S C O F G P Q p q r a b (inl h) = given [] a b (inl h)
with-full S C O F G P Q p q r a b (inr h) = q a b (r a b h)

mutual
  pub run-full : (S : System) (C : Subset S) (O : List ℕ) (K F : Relation S) → Run S C O K F → (a b : S.Thing) → Joined S C O K [] a b → F a b
  run-full S C O K F (done _ _ _ P r c k f) a b h =
      close-into S C O K F c.given c.same c.flip c.chain
      (λ a b o ks ls p q h k m n z. c.kids a b o ks ls p q h k m (zip_of F ks ls n z))
      (λ d N i x y m. f d i.above x y (kept-holds S C O d F (P d) (k d i.above) N i x y m)) a b h

  -- an induction is never refined away
  kept-holds : (S : System) (C : Subset S) (O : List ℕ) (d : ℕ) (F P : Relation S) → Kept S C O d F P
      → (N : List (S.Thing × S.Thing)) → IsInduction S C O d N F (Joined S C (d ∷ O) (With F N) []) → (x y : S.Thing) → In N (x, y) → P x y
  kept-holds S C O d F P (all _ _ _ _ p) N i x y m = let t = i.thetas x y m in p x y t.p t.q t.r t.s t.is_left t.is_right t.left t.right (i.first x y t.p t.q t.r t.s m t.left t.right)
  kept-holds S C O d F P (some _ _ _ PBase G _ Q k n w p) N i x y m =
      let t = i.thetas x y m in
      p x y t.p t.q t.r t.s (kept-holds S C O d F PBase k N i x y m) t.left t.right
      (run-full S C (d ∷ O) (With F Q) G n t.q t.s
      (close-close S C (d ∷ O) (With F N) (With F Q)
      (with-full S C (d ∷ O) F G N Q (λ a b h. run-full S C (d ∷ O) (With F Q) G n a b h) (λ a b h. run-sound S C (d ∷ O) (With F Q) G n a b h) (λ x y m. w x y (kept-holds S C O d F PBase k N i x y m)))
      t.q t.s (i.second x y t.p t.q t.r t.s m t.left t.right)))
