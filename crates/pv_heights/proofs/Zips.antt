-- Lists place by place.
use Rattle.std.proofs.Common.{◌≡◌, ℕ, zero, suc, List, [], ◌∷◌, map, length, Some, slice_get, inl, inr, refl, ap, subst}
use Rattle.std.specs.List.{AllZip}
use Rattle.pv_graph.specs.Walks.{In}

pub some_once : {A : Type 0} {a b : A} → Some a ≡ Some b → a ≡ b
some_once e = cc

pub zip_get : {A B : Type 0} (R : A → B → Type 0) (xs : List A) (bs : List B) → AllZip R xs bs → (j : ℕ) (a : A) (b : B) → slice_get xs j ≡ Some a → slice_get bs j ≡ Some b → R a b
zip_get R [] bs z j a b e f = absurd (cc)
zip_get R (x ∷ xs) [] z j a b e f = absurd (cc)
zip_get R (x ∷ xs) (y ∷ bs) z zero a b e f = subst (λ v. R v b) (some_once e) (subst (λ v. R x v) (some_once f) z.0)
zip_get R (x ∷ xs) (y ∷ bs) z (suc j) a b e f = zip_get R xs bs z.1 j a b e f

pub zip_of : {A B : Type 0} (R : A → B → Type 0) (xs : List A) (bs : List B) → length xs ≡ length bs → ((j : ℕ) (a : A) (b : B) → slice_get xs j ≡ Some a → slice_get bs j ≡ Some b → R a b) → AllZip R xs bs
zip_of R [] [] l h = tt
zip_of R [] (y ∷ bs) l h = absurd (cc)
zip_of R (x ∷ xs) [] l h = absurd (cc)
zip_of R (x ∷ xs) (y ∷ bs) l h = (h zero x y refl refl, zip_of R xs bs (cc) (λ j a b e f. h (suc j) a b e f))

pub zip_length : {A B : Type 0} (R : A → B → Type 0) (xs : List A) (bs : List B) → AllZip R xs bs → length xs ≡ length bs
zip_length R [] [] z = refl
zip_length R [] (y ∷ bs) z = absurd z
zip_length R (x ∷ xs) [] z = absurd z
zip_length R (x ∷ xs) (y ∷ bs) z = ap suc (zip_length R xs bs z.1)

pub zip_map : {A B : Type 0} (R S : A → B → Type 0) → ((a : A) (b : B) → R a b → S a b) → (xs : List A) (bs : List B) → AllZip R xs bs → AllZip S xs bs
zip_map R S p [] [] z = tt
zip_map R S p [] (y ∷ bs) z = z
zip_map R S p (x ∷ xs) [] z = z
zip_map R S p (x ∷ xs) (y ∷ bs) z = (p x y z.0, zip_map R S p xs bs z.1)

pub zip_flip : {A B : Type 0} (R : A → B → Type 0) (S : B → A → Type 0) → ((a : A) (b : B) → R a b → S b a) → (xs : List A) (bs : List B) → AllZip R xs bs → AllZip S bs xs
zip_flip R S p [] [] z = tt
zip_flip R S p [] (y ∷ bs) z = z
zip_flip R S p (x ∷ xs) [] z = z
zip_flip R S p (x ∷ xs) (y ∷ bs) z = (p x y z.0, zip_flip R S p xs bs z.1)

pub zip_join : {A B D : Type 0} (R : A → B → Type 0) (S : B → D → Type 0) (T : A → D → Type 0) → ((a : A) (b : B) (c : D) → R a b → S b c → T a c)
    → (xs : List A) (bs : List B) (cs : List D) → AllZip R xs bs → AllZip S bs cs → AllZip T xs cs
zip_join R S T p [] [] [] z w = tt
zip_join R S T p [] [] (c ∷ cs) z w = w
zip_join R S T p [] (b ∷ bs) cs z w = absurd z
zip_join R S T p (a ∷ xs) [] cs z w = absurd z
zip_join R S T p (a ∷ xs) (b ∷ bs) [] z w = w
zip_join R S T p (a ∷ xs) (b ∷ bs) (c ∷ cs) z w = (p a b c z.0 w.0, zip_join R S T p xs bs cs z.1 w.1)

pub zip_split : {A B D : Type 0} (R : A → D → Type 0) (S : D → B → Type 0) (xs : List A) (bs : List B) → AllZip (λ a b. (w : D) × R a w × S w b) xs bs → (ws : List D) × AllZip R xs ws × AllZip S ws bs
zip_split R S [] [] z = ([], tt, tt)
zip_split R S [] (y ∷ bs) z = absurd z
zip_split R S (x ∷ xs) [] z = absurd z
zip_split R S (x ∷ xs) (y ∷ bs) z = let r = zip_split R S xs bs z.1 in (z.0.0 ∷ r.0, (z.0.1, r.1), (z.0.2, r.2))

pub zip_mapped : {A B : Type 0} (R : A → B → Type 0) (f : ℕ → A) (h : ℕ → B) (ns : List ℕ) → ((n : ℕ) → In ns n → R (f n) (h n)) → AllZip R (map f ns) (map h ns)
zip_mapped R f h [] p = tt
zip_mapped R f h (n ∷ ns) p = (p n (inl refl), zip_mapped R f h ns (λ m i. p m (inr i)))

pub zip_both : {A B D : Type 0} (E : B → D → Type 0) (ks : List A) (xs : List B) (ys : List D) → length ks ≡ length xs → length ks ≡ length ys
    → ((j : ℕ) (k : A) (u : B) (v : D) → slice_get ks j ≡ Some k → slice_get xs j ≡ Some u → slice_get ys j ≡ Some v → E u v) → AllZip E xs ys
zip_both E [] [] [] l m h = tt
zip_both E [] [] (y ∷ ys) l m h = absurd (cc)
zip_both E [] (x ∷ xs) ys l m h = absurd (cc)
zip_both E (k ∷ ks) [] ys l m h = absurd (cc)
zip_both E (k ∷ ks) (x ∷ xs) [] l m h = absurd (cc)
zip_both E (k ∷ ks) (x ∷ xs) (y ∷ ys) l m h = (h zero k x y refl refl refl, zip_both E ks xs ys (cc) (cc) (λ j a u v e f g. h (suc j) a u v e f g))
