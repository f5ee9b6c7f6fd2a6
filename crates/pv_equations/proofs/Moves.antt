-- Where an edge of a flow comes to, seen from each region.
use Rattle.std.proofs.Common.{◌≡◌, ◌≢◌, ℕ, suc, ◌+◌, ◌<◌, ◌≤◌, List, [], ◌∷◌, ◌++◌, length, ◌⊎◌, inl, inr, ⊎_elim, refl, sym, ap, ◌∙◌, subst, subst₂, append-nil, append_assoc, length-append, arith}
use Rattle.pv_equations.proofs.Words.{Heads, Dest, To, End, Exit, InChain, Flow, Edge, Shape, Place, On, Again, Header, Gone, Ended, Lands, Seen}
use Rattle.pv_equations.proofs.Lands.{same_or_longer, lands_on, lands_in, lands_header, lands_again, lands_gone}
use Rattle.pv_equations.proofs.Seen.{seen_once}

pub split_app : (F R C D : List ℕ) → F ++ R ≡ C ++ D → ((X : List ℕ) × (F ≡ C ++ X) × (D ≡ X ++ R)) ⊎ ((c : ℕ) × (X : List ℕ) × (C ≡ F ++ c ∷ X) × (R ≡ c ∷ (X ++ D)))
split_app F R [] D e = inl (F, refl, sym e)
split_app [] R (c ∷ C) D e = inr (c, C, refl, e)
split_app (h ∷ F) R (c ∷ C) D e = ⊎_elim
    (λ z. inl (z.0, (let r = z.1 in let q : h ≡ c = cc in cc), z.2))
    (λ z. inr (z.0, z.1, (let r = z.2 in let q : h ≡ c = cc in cc), z.3))
    (split_app F R C D (let q : F ++ R ≡ C ++ D = cc in q))

app_nil : (A B : List ℕ) → A ++ B ≡ [] → B ≡ []
app_nil [] B e = e
app_nil (a ∷ A) B e = absurd (cc)

-- the end of a list with one more at the end
pub snoc_split : (F : List ℕ) (c : ℕ) (C X : List ℕ) → F ++ c ∷ [] ≡ C ++ X → (X ≡ []) ⊎ ((Y : List ℕ) × (X ≡ Y ++ c ∷ []) × (F ≡ C ++ Y))
snoc_split F c C X e = ⊎_elim (λ z. inr (z.0, z.2, z.1)) (λ z. inl (app_nil z.1 X (let q = z.3 in let r : [] ≡ z.1 ++ X = cc in sym r))) (split_app F (c ∷ []) C X e)

pub snoc_same : (F G : List ℕ) (c d : ℕ) → F ++ c ∷ [] ≡ G ++ d ∷ [] → (F ≡ G) × (c ≡ d)
snoc_same F G c d e = ⊎_elim (λ z. absurd (cc)) (λ z. go z.0 z.1 z.2) (snoc_split F c G (d ∷ []) e)
  where
    go : (Y : List ℕ) → d ∷ [] ≡ Y ++ c ∷ [] → F ≡ G ++ Y → (F ≡ G) × (c ≡ d)
    go [] q r = (r ∙ append-nil G, cc)
    go (y ∷ Y) q r = absurd (let o : [] ≡ Y ++ c ∷ [] = cc in no_end Y o)
      where
        no_end : (Y : List ℕ) → [] ≡ Y ++ c ∷ [] → ⊥
        no_end [] e = absurd (cc)
        no_end (y ∷ Y) e = absurd (cc)

-- an edge from b, inside the loops F of the region inside R, to m
abbrev pub About : Flow → (ℕ → ℕ) → List ℕ → List ℕ → ℕ → ℕ → Place → Type 0
About f rank R F b m (On G k) = (k ≡ m) × (rank b < rank m) × (m ≢ f.entry) × (C X : List ℕ) × (F ≡ C ++ X)
    × (((G ≡ X) × (f.around m ≡ X ++ R) × (Heads (f.around m) m → ⊥)) ⊎ ((G ≡ m ∷ X) × (f.around m ≡ m ∷ (X ++ R))))
About f rank R F b m Again = (C X : List ℕ) × (F ≡ C ++ m ∷ X) × (f.around m ≡ m ∷ (X ++ R))
About f rank R F b m Header = Heads R m × (f.around m ≡ R)
About f rank R F b m Gone = (B : List ℕ) → f.around m ≢ B ++ R
About f rank R F b m (Ended k) = ⊥

abbrev pub Goes : Flow → (ℕ → ℕ) → List ℕ → List ℕ → ℕ → ℕ → Type 0
Goes f rank R F b m = (p : Place) × Seen f R F (To m) p × About f rank R F b m p

module _ (f : Flow) (rank : ℕ → ℕ) (shape : Shape f rank) where
  -- a loop that is left isn't one that is entered
  pub other_loop : (b m : ℕ) (C D : List ℕ) → f.around b ≡ C ++ D → rank b < rank m → (X Y : List ℕ) (c : ℕ) → C ≡ X ++ c ∷ Y → c ≢ m
  other_loop b m C D z less X Y c y q =
      let r = shape.headers b c X (Y ++ D) (z ∙ ap (λ (K : List ℕ). K ++ D) y ∙ append_assoc X (c ∷ Y) D) in
      absurd (let p : rank c ≡ rank m = ap rank q in let o = r.1 in omega arith)

  pub move : (R F : List ℕ) (b m : ℕ) (e : Exit) → f.around b ≡ F ++ R → InChain (f.chain b) e → e.dest ≡ To m → (p : Place) × Seen f R F (To m) p × About f rank R F b m p
  move R F b m e a c d = go (shape.edges b m e c d)
    where
      away : (D : List ℕ) → length (f.around m) ≤ length R → f.around m ≢ R → Goes f rank R F b m
      away D l n = (Gone, lands_gone F R (f.around m) m l n, λ B y. n (same_or_longer (f.around m) B R y l))

      shorter : (c : ℕ) (X D : List ℕ) → f.around m ≡ D → R ≡ c ∷ (X ++ D) → Goes f rank R F b m
      shorter c X D am r =
          let q : length R ≡ suc (length X + length D) = ap length r ∙ simp length-append in
          let o : length (f.around m) ≡ length D = ap length am in
          away D (omega arith) (λ y. let u : length (f.around m) ≡ length R = ap length y in absurd (omega arith))

      back : (C D : List ℕ) → f.around m ≡ D → Heads D m → ((X : List ℕ) × (F ≡ C ++ X) × (D ≡ X ++ R)) ⊎ ((c : ℕ) × (X : List ℕ) × (C ≡ F ++ c ∷ X) × (R ≡ c ∷ (X ++ D))) → Goes f rank R F b m
      back C D am hd (inl (X, x, y)) = inside X x y
        where
          inside : (X : List ℕ) → F ≡ C ++ X → D ≡ X ++ R → Goes f rank R F b m
          inside [] x y =
              let r : R ≡ m ∷ hd.0 = sym y ∙ hd.1 in
              (Header, subst₂ (λ (R F : List ℕ). Lands R m (f.around m) F Header) (sym r) (sym (x ∙ append-nil C)) (lands_header C hd.0 (f.around m) m (am ∙ hd.1)), ((hd.0, r), am ∙ y))
          inside (k ∷ X) x y =
              let o : k ∷ (X ++ R) ≡ m ∷ hd.0 = sym y ∙ hd.1 in
              let same : k ≡ m = cc in
              let am' : f.around m ≡ m ∷ (X ++ R) = am ∙ y ∙ ap (λ (k : ℕ). k ∷ (X ++ R)) same in
              let x' : F ≡ C ++ m ∷ X = x ∙ ap (λ (k : ℕ). C ++ k ∷ X) same in
              (Again, subst (λ (F : List ℕ). Lands R m (f.around m) F Again) (sym x') (lands_again C X R (f.around m) m am'), (C, X, x', am'))
      back C D am hd (inr (c, X, x, y)) = shorter c X D am y

      go : Edge f rank b m → Goes f rank R F b m
      go (C, D, z, inl q) = back C D q.0 q.1 (split_app F R C D (sym a ∙ z))
      go (C, D, z, inr (less, ne, inl q)) = on (split_app F R C D (sym a ∙ z))
        where
          on : ((X : List ℕ) × (F ≡ C ++ X) × (D ≡ X ++ R)) ⊎ ((c : ℕ) × (X : List ℕ) × (C ≡ F ++ c ∷ X) × (R ≡ c ∷ (X ++ D))) → Goes f rank R F b m
          on (inl (X, x, y)) =
              let nh : Heads (f.around m) m → ⊥ = λ h. q.1 (subst (λ (A : List ℕ). Heads A m) q.0 h) in
              (On X m, subst (λ (F : List ℕ). Lands R m (f.around m) F (On X m)) (sym x) (lands_on C X R (f.around m) m (q.0 ∙ y) nh), (refl, less, ne, C, X, x, inl (refl, q.0 ∙ y, nh)))
          on (inr (c, X, x, y)) = shorter c X D q.0 y
      go (C, D, z, inr (less, ne, inr q)) = into (split_app F R C D (sym a ∙ z))
        where
          into : ((X : List ℕ) × (F ≡ C ++ X) × (D ≡ X ++ R)) ⊎ ((c : ℕ) × (X : List ℕ) × (C ≡ F ++ c ∷ X) × (R ≡ c ∷ (X ++ D))) → Goes f rank R F b m
          into (inl (X, x, y)) =
              let am : f.around m ≡ m ∷ (X ++ R) = q ∙ ap (λ (K : List ℕ). m ∷ K) y in
              (On (m ∷ X) m, subst (λ (F : List ℕ). Lands R m (f.around m) F (On (m ∷ X) m)) (sym x) (lands_in C X R (f.around m) m am (other_loop b m C D z less)), (refl, less, ne, C, X, x, inr (refl, am)))
          into (inr (c, X, x, y)) =
              let l : length (f.around m) ≡ suc (length D) = ap length q in
              let o : length R ≡ suc (length X + length D) = ap length y ∙ simp length-append in
              away D (omega arith) (λ u. let n : m ∷ D ≡ c ∷ (X ++ D) = sym q ∙ u ∙ y in other_loop b m C D z less F X c x (let r : m ≡ c = cc in sym r))

  -- .. at the place where it is seen
  pub about : (R F : List ℕ) (b m : ℕ) (e : Exit) (p : Place) → f.around b ≡ F ++ R → InChain (f.chain b) e → e.dest ≡ To m → Seen f R F e.dest p → About f rank R F b m p
  about R F b m e p a c d q =
      let o = move R F b m e a c d in
      subst (About f rank R F b m) (seen_once f R F (To m) o.0 p o.1 (subst (λ (d : Dest). Seen f R F d p) d q)) o.2

  -- each exit is seen somewhere
  pub place : (R F : List ℕ) (b : ℕ) (e : Exit) → f.around b ≡ F ++ R → InChain (f.chain b) e → (p : Place) × Seen f R F e.dest p
  place R F b e a c = go e.dest refl
    where
      go : (d : Dest) → e.dest ≡ d → (p : Place) × Seen f R F e.dest p
      go (To m) d = let o = move R F b m e a c d in (o.0, subst (λ (d : Dest). Seen f R F d o.0) (sym d) o.1)
      go (End k) d = (Ended k, subst (λ (d : Dest). Seen f R F d (Ended k)) (sym d) refl)
