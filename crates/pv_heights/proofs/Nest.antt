-- Inductions one in another, and what holds all that may be joined.
use Rattle.std.proofs.Common.{◌≡◌, ℕ, ◌<◌, List, [], ◌∷◌, ◌++◌, length, Some, slice_get, inl, inr}
use Rattle.pv_graph.specs.declared.node.Op.{Op}
use Rattle.pv_graph.specs.declared.node.Op.TheVariants as op
use Rattle.pv_graph.specs.Walks.{In}
use Rattle.pv_heights.specs.Systems.{System, Hypothesis, IsFixed, IsOutside, AreThetas, Joined, given, same, flip, chain, kids, outer, assumed, induction, Relation, Subset}
use Rattle.pv_heights.specs.Closing.{With, IsInduction}

fixed-in : {A : Type 0} (O : List ℕ) (d : ℕ) (P : List (A × A)) (bs : List (Hypothesis A)) (e : ℕ) → IsFixed O (bs ++ record { depth = d; pairs = P } ∷ []) e → IsFixed (d ∷ O) bs e
fixed-in O d P [] e (inl h) = inl h
fixed-in O d P [] e (inr h) = inr h
fixed-in O d P (b ∷ bs) e (inl h) = inl h
fixed-in O d P (b ∷ bs) e (inr h) = inr (fixed-in O d P bs e h)

fixed-out : {A : Type 0} (O : List ℕ) (d : ℕ) (P : List (A × A)) (bs : List (Hypothesis A)) (e : ℕ) → IsFixed (d ∷ O) bs e → IsFixed O (bs ++ record { depth = d; pairs = P } ∷ []) e
fixed-out O d P [] e (inl h) = inl h
fixed-out O d P [] e (inr h) = inr h
fixed-out O d P (b ∷ bs) e (inl h) = inl h
fixed-out O d P (b ∷ bs) e (inr h) = inr (fixed-out O d P bs e h)

module _ (S : System) (C : Subset S) (O : List ℕ) (K : Relation S) where
  outer_all : (bs cs : List (Hypothesis S.Thing)) (x y : S.Thing) → Joined S C O K cs x y → Joined S C O K (bs ++ cs) x y
  outer_all [] cs x y h = h
  outer_all (b ∷ bs) cs x y h = outer b (bs ++ cs) x y (outer_all bs cs x y h)

module _ (S : System) (C : Subset S) (O : List ℕ) (K : Relation S) (d : ℕ) (P : List (S.Thing × S.Thing)) where
  bottom : Hypothesis S.Thing
  bottom = record { depth = d; pairs = P }

  put : (bs : List (Hypothesis S.Thing)) (x y : S.Thing) → With (Joined S C O K []) P x y → Joined S C O K (bs ++ bottom ∷ []) x y
  put bs x y (inl h) = outer_all S C O K bs (bottom ∷ []) x y (outer bottom [] x y h)
  put bs x y (inr h) = outer_all S C O K bs (bottom ∷ []) x y (assumed bottom [] x y (unfold bottom in h))

  nest : (bs : List (Hypothesis S.Thing)) (x y : S.Thing) → Joined S C (d ∷ O) (With (Joined S C O K []) P) bs x y → Joined S C O K (bs ++ bottom ∷ []) x y
  unfolding bottom
  nest bs x y (given cs a b h) = put cs a b h
  nest bs x y (same cs a h) = same _ a h
  nest bs x y (flip cs a b h) = flip _ a b (nest cs b a h)
  nest bs x y (chain cs a b c h k) = chain _ a b c (nest cs a b h) (nest cs b c k)
  nest bs x y (kids cs a b o ks ls p q e f m n h) = kids _ a b o ks ls p q e f (λ e l v. m e l (fixed-in O d P cs e v)) n (λ j k l i o. nest cs k l (h j k l i o))
  nest bs x y (outer b cs u v h) = outer b _ u v (nest cs u v h)
  nest bs x y (assumed b cs u v h) = assumed b _ u v h
  nest bs x y (induction b cs p q h k u v m) =
      induction b _ (λ e z. p e (fixed-in O d P cs e z)) q (λ x y p q r s m e f. nest cs p r (h x y p q r s m e f)) (λ x y p q r s m e f. nest (b ∷ cs) q s (k x y p q r s m e f)) u v m

-- the relation holds the pairs of each induction
pub close-induction : (S : System) (C : Subset S) (O : List ℕ) (K : Relation S) (d : ℕ) (P : List (S.Thing × S.Thing))
    → IsInduction S C O d P (Joined S C O K []) (Joined S C (d ∷ O) (With (Joined S C O K []) P) []) → (x y : S.Thing) → In P (x, y) → Joined S C O K [] x y
close-induction S C O K d P h = induction (record { depth = d; pairs = P }) [] h.above h.thetas h.first (λ x y p q r s m e f. unfold bottom in nest S C O K d P [] q s (h.second x y p q r s m e f))

-- all but the outermost, and the outermost
init : {A : Type 0} → Hypothesis A → List (Hypothesis A) → List (Hypothesis A)
init b [] = []
init b (c ∷ cs) = b ∷ init c cs

last : {A : Type 0} → Hypothesis A → List (Hypothesis A) → Hypothesis A
last b [] = b
last b (c ∷ cs) = last c cs

fixed-last : {A : Type 0} (O : List ℕ) (b : Hypothesis A) (bs : List (Hypothesis A)) (e : ℕ) → IsFixed ((last b bs).depth ∷ O) (init b bs) e → IsFixed O (b ∷ bs) e
unfolding init last
fixed-last O b [] e h = h
fixed-last O b (c ∷ cs) e (inl h) = inl h
fixed-last O b (c ∷ cs) e (inr h) = inr (fixed-last O c cs e h)

last-fixed : {A : Type 0} (O : List ℕ) (b : Hypothesis A) (bs : List (Hypothesis A)) (e : ℕ) → IsFixed O (b ∷ bs) e → IsFixed ((last b bs).depth ∷ O) (init b bs) e
unfolding init last
last-fixed O b [] e h = h
last-fixed O b (c ∷ cs) e (inl h) = inl h
last-fixed O b (c ∷ cs) e (inr h) = inr (last-fixed O c cs e h)

module _ (S : System) (C : Subset S) (O : List ℕ) (K F : Relation S)
    (f_given : (a b : S.Thing) → K a b → F a b)
    (f_same : (a : S.Thing) → C a → F a a)
    (f_flip : (a b : S.Thing) → F b a → F a b)
    (f_chain : (a b c : S.Thing) → F a b → F b c → F a c)
    (f_kids : (a b : S.Thing) (o : Op) (ks ls : List S.Thing) → C a → C b → S.Has a o ks → S.Has b o ls → IsOutside {A = S.Thing} O [] o → length ks ≡ length ls
    → ((j : ℕ) (k l : S.Thing) → slice_get ks j ≡ Some k → slice_get ls j ≡ Some l → F k l) → F a b)
    (f_induction : (d : ℕ) (P : List (S.Thing × S.Thing)) → IsInduction S C O d P F (Joined S C (d ∷ O) (With F P) []) → (x y : S.Thing) → In P (x, y) → F x y)
  where
    Inside : List (Hypothesis S.Thing) → S.Thing → S.Thing → Type 0
    Inside [] = F
    Inside (b ∷ bs) = Joined S C ((last b bs).depth ∷ O) (With F (last b bs).pairs) (init b bs)

    in-given : (bs : List (Hypothesis S.Thing)) (x y : S.Thing) → F x y → Inside bs x y
    unfolding Inside
    in-given [] x y h = h
    in-given (b ∷ bs) x y h = given _ x y (inl h)

    in-same : (bs : List (Hypothesis S.Thing)) (x : S.Thing) → C x → Inside bs x x
    unfolding Inside
    in-same [] x h = f_same x h
    in-same (b ∷ bs) x h = same _ x h

    in-flip : (bs : List (Hypothesis S.Thing)) (x y : S.Thing) → Inside bs y x → Inside bs x y
    unfolding Inside
    in-flip [] x y h = f_flip x y h
    in-flip (b ∷ bs) x y h = flip _ x y h

    in-chain : (bs : List (Hypothesis S.Thing)) (x y z : S.Thing) → Inside bs x y → Inside bs y z → Inside bs x z
    unfolding Inside
    in-chain [] x y z h k = f_chain x y z h k
    in-chain (b ∷ bs) x y z h k = chain _ x y z h k

    in-kids : (bs : List (Hypothesis S.Thing)) (a b : S.Thing) (o : Op) (ks ls : List S.Thing) → C a → C b → S.Has a o ks → S.Has b o ls → IsOutside O bs o → length ks ≡ length ls
        → ((j : ℕ) (k l : S.Thing) → slice_get ks j ≡ Some k → slice_get ls j ≡ Some l → Inside bs k l) → Inside bs a b
    unfolding Inside
    in-kids [] a b o ks ls p q e f m n h = f_kids a b o ks ls p q e f m n h
    in-kids (c ∷ cs) a b o ks ls p q e f m n h = kids _ a b o ks ls p q e f (λ e l v. m e l (fixed-last O c cs e v)) n h

    in-outer : (b : Hypothesis S.Thing) (bs : List (Hypothesis S.Thing)) (x y : S.Thing) → Inside bs x y → Inside (b ∷ bs) x y
    unfolding Inside init last
    in-outer b [] x y h = given _ x y (inl h)
    in-outer b (c ∷ cs) x y h = outer b _ x y h

    in-assumed : (b : Hypothesis S.Thing) (bs : List (Hypothesis S.Thing)) (x y : S.Thing) → In b.pairs (x, y) → Inside (b ∷ bs) x y
    unfolding Inside init last
    in-assumed b [] x y h = given _ x y (inr h)
    in-assumed b (c ∷ cs) x y h = assumed b _ x y h

    in-induction : (b : Hypothesis S.Thing) (bs : List (Hypothesis S.Thing)) → ((d : ℕ) → IsFixed O bs d → d < b.depth)
        → ((x y : S.Thing) → In b.pairs (x, y) → AreThetas S C b.depth x y)
        → ((x y p q r s : S.Thing) → In b.pairs (x, y) → S.Has x (op.Theta b.depth) (p ∷ q ∷ []) → S.Has y (op.Theta b.depth) (r ∷ s ∷ []) → Inside bs p r)
        → ((x y p q r s : S.Thing) → In b.pairs (x, y) → S.Has x (op.Theta b.depth) (p ∷ q ∷ []) → S.Has y (op.Theta b.depth) (r ∷ s ∷ []) → Inside (b ∷ bs) q s)
        → (x y : S.Thing) → In b.pairs (x, y) → Inside bs x y
    unfolding Inside init last
    in-induction b [] p q h k = f_induction b.depth b.pairs (record { above = p; thetas = q; first = h; second = k })
    in-induction b (c ∷ cs) p q h k = induction b _ (λ e z. p e (fixed-last O c cs e z)) q h k

    close-within : (bs : List (Hypothesis S.Thing)) (x y : S.Thing) → Joined S C O K bs x y → Inside bs x y
    close-within bs x y (given cs a b h) = in-given cs a b (f_given a b h)
    close-within bs x y (same cs a h) = in-same cs a h
    close-within bs x y (flip cs a b h) = in-flip cs a b (close-within cs b a h)
    close-within bs x y (chain cs a b c h k) = in-chain cs a b c (close-within cs a b h) (close-within cs b c k)
    close-within bs x y (kids cs a b o ks ls p q e f m n h) = in-kids cs a b o ks ls p q e f m n (λ j k l i o. close-within cs k l (h j k l i o))
    close-within bs x y (outer b cs u v h) = in-outer b cs u v (close-within cs u v h)
    close-within bs x y (assumed b cs u v h) = in-assumed b cs u v h
    close-within bs x y (induction b cs p q h k u v m) =
        in-induction b cs p q (λ x y p q r s m e f. close-within cs p r (h x y p q r s m e f)) (λ x y p q r s m e f. close-within (b ∷ cs) q s (k x y p q r s m e f)) u v m

    pub close-into : (x y : S.Thing) → Joined S C O K [] x y → F x y
    unfolding Inside
    close-into = close-within []

-- what more is given joins more
pub joined-more : (S : System) (C : Subset S) (O : List ℕ) (K L : Relation S) → ((a b : S.Thing) → K a b → L a b) → (bs : List (Hypothesis S.Thing)) (x y : S.Thing) → Joined S C O K bs x y → Joined S C O L bs x y
joined-more S C O K L p bs x y (given cs a b h) = given _ a b (p a b h)
joined-more S C O K L p bs x y (same cs a h) = same _ a h
joined-more S C O K L p bs x y (flip cs a b h) = flip _ a b (joined-more S C O K L p cs b a h)
joined-more S C O K L p bs x y (chain cs a b c h k) = chain _ a b c (joined-more S C O K L p cs a b h) (joined-more S C O K L p cs b c k)
joined-more S C O K L p bs x y (kids cs a b o ks ls q r e f m n h) = kids _ a b o ks ls q r e f m n (λ j k l i o. joined-more S C O K L p cs k l (h j k l i o))
joined-more S C O K L p bs x y (outer b cs u v h) = outer b _ u v (joined-more S C O K L p cs u v h)
joined-more S C O K L p bs x y (assumed b cs u v h) = assumed b _ u v h
joined-more S C O K L p bs x y (induction b cs q r h k u v m) =
    induction b _ q r (λ x y n o s t m e f. joined-more S C O K L p cs n s (h x y n o s t m e f)) (λ x y n o s t m e f. joined-more S C O K L p (b ∷ cs) o t (k x y n o s t m e f)) u v m

-- pairs that a round of the greatest partition takes out are in no induction inside Q
pub induction-kept : (S : System) (C : Subset S) (O : List ℕ) (d : ℕ) (F : Relation S) (P Q : List (S.Thing × S.Thing))
    → ((x y : S.Thing) → In P (x, y) → In Q (x, y)) → IsInduction S C O d P F (Joined S C (d ∷ O) (With F P) [])
    → (x y p q r s : S.Thing) → In P (x, y) → S.Has x (op.Theta d) (p ∷ q ∷ []) → S.Has y (op.Theta d) (r ∷ s ∷ []) → Joined S C (d ∷ O) (With F Q) [] q s
induction-kept S C O d F P Q i h x y p q r s m e f =
    joined-more S C (d ∷ O) (With F P) (With F Q) weaker [] q s (h.second x y p q r s m e f)
  where
    weaker : (a b : S.Thing) → With F P a b → With F Q a b
    weaker a b (inl z) = inl z
    weaker a b (inr z) = inr (i a b z)
