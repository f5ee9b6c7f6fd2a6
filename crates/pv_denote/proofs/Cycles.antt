-- In a graph whose cycles keep the rule no walk is endless, where each step looks at its kid with the
-- iterations that its operation gives.
use Rattle.std.specs.Prelude.{◌≡◌, ◌≢◌, ◌⊎◌, ℕ, zero, suc, ◌+◌, ◌<◌, ◌≤◌, List, [], ◌∷◌, ◌++◌, Option, refl}
use Rattle.std.proofs.Common.{inl, inr, ⊎_elim, sym, ap, ◌∙◌, subst, arith, le_refl, le_of_eq}
use Rattle.pv_graph.specs.Forms.{Form}
use Rattle.pv_denote.specs.Denote.{Index, at_depth}
use Rattle.pv_graph.specs.Walks.{In, Move, still, down, jump, Edge, Walk, stop, step, KeepsRule}
use Rattle.pv_denote.proofs.Indices.{same_or_not, at_same, at_other}

-- the kid is looked at with these iterations
abbrev pub Looks : Move → Index → Index → Type 0
Looks still i j = i ≡ j
Looks (down d) i j = (k : ℕ) × (i d ≡ suc k) × (j ≡ at_depth i d k)
Looks (jump d) i j = (k : ℕ) × (j ≡ at_depth i d k)

-- no walk from n with the iterations i is endless, inside the nodes X
pub data Ends {N : Type 0} (view : N → Option (Form N)) (X : List N) : N → Index → Type 0 where
  ends : (n : N) (i : Index) → ((m : Move) (k : N) (j : Index) → Edge view n m k → Looks m i j → In X k → Ends view X k j) → Ends view X n i

-- j comes before i: equal at the lower depths, and less at d
abbrev pub Before : ℕ → Index → Index → Type 0
Before d j i = ((e : ℕ) → e < d → j e ≡ i e) × (j d < i d)

module _ (D : ℕ) (P : Index → Type 0) (then_ : (i : Index) → ((j : Index) (d : ℕ) → d < D → Before d j i → P j) → P i) where
  at_level : (k : ℕ) → ((i : Index) → ((j : Index) (d : ℕ) → d < suc k → Before d j i → P j) → P i) → (i : Index) → ((j : Index) (d : ℕ) → d < k → Before d j i → P j)
      → (b : ℕ) (j : Index) → j k < b → ((e : ℕ) → e < k → j e ≡ i e) → P j
  at_level k rest i before zero j l same = absurd (omega arith)
  at_level k rest i before (suc b) j l same = rest j (λ m d less low. go d m (split d k less) low (λ m l same. at_level k rest i before b m l same))
    where
      split : (d k : ℕ) → d < suc k → (d < k) ⊎ (d ≡ k)
      split d k e = grind arith

      lower : (m : Index) (d : ℕ) → d < k → Before d m j → P m
      lower m d z low = before m d z ((λ e y. low.0 e y ∙ same e (omega arith)), subst (λ (n : ℕ). m d < n) (same d z) low.1)

      go : (d : ℕ) (m : Index) → (d < k) ⊎ (d ≡ k) → Before d m j → ((m : Index) → m k < b → ((e : ℕ) → e < k → m e ≡ i e) → P m) → P m
      go d m (inl z) low ih = lower m d z low
      go d m (inr z) low ih =
          let here = subst (λ (d : ℕ). Before d m j) z low in
          ih m (let l' = here.1 in omega arith) (λ e y. here.0 e y ∙ same e y)

  levels : (n k : ℕ) → k + n ≡ D → (i : Index) → ((j : Index) (d : ℕ) → d < k → Before d j i → P j) → P i
  levels zero k e i before = then_ i (λ j d l b. before j d (omega arith) b)
  levels (suc n) k e i before = at_level k (levels n (suc k) (omega arith)) i before (suc (i k)) i (omega arith) (λ e l. refl)

  -- what follows for i from what comes before i in the order of the first D iterations holds for all
  pub by_order : (i : Index) → P i
  by_order i = levels D 0 (omega arith) i (λ j d l b. absurd (omega arith))

-- the iterations along a walk
abbrev pub Tracks : List Move → Index → Index → Type 0
Tracks [] i j = i ≡ j
Tracks (m ∷ ms) i j = (k : Index) × Looks m i k × Tracks ms k j

track_one : (d : ℕ) (m : Move) (i j : Index) → ((e : ℕ) → m ≡ down e → d ≤ e) → ((e : ℕ) → m ≡ jump e → d < e) → Looks m i j → ((e : ℕ) → e < d → j e ≡ i e) × (j d ≤ i d)
track_one d still i j p q l = ((λ e z. ap (λ (k : Index). k e) (sym l)), subst (λ (k : Index). k d ≤ i d) l (le_refl (i d)))
track_one d (down o) i j p q l =
    let far = p o refl in
    ((λ e z. ap (λ (k : Index). k e) l.2 ∙ at_other i o l.0 e (λ y. absurd (omega arith))), subst (λ (k : Index). k d ≤ i d) (sym l.2) (lower (same_or_not d o)))
  where
    lower : (d ≡ o) ⊎ (d ≢ o) → at_depth i o l.0 d ≤ i d
    lower (inl z) = subst (λ (d : ℕ). at_depth i o l.0 d ≤ i d) (sym z) (rw (at_same i o l.0) (let y = l.1 in omega arith))
    lower (inr z) = le_of_eq (at_other i o l.0 d z)
track_one d (jump o) i j p q l =
    let far = q o refl in
    ((λ e z. ap (λ (k : Index). k e) l.1 ∙ at_other i o l.0 e (λ y. absurd (omega arith))), le_of_eq (ap (λ (k : Index). k d) l.1 ∙ at_other i o l.0 d (λ y. absurd (omega arith))))

track : (d : ℕ) (ms : List Move) (i j : Index) → ((e : ℕ) → In ms (down e) → d ≤ e) → ((e : ℕ) → In ms (jump e) → d < e) → Tracks ms i j → ((e : ℕ) → e < d → j e ≡ i e) × (j d ≤ i d)
track d [] i j p q t = ((λ e z. ap (λ (k : Index). k e) (sym t)), le_of_eq (ap (λ (k : Index). k d) (sym t)))
track d (m ∷ ms) i j p q t =
    let a = track_one d m i t.0 (λ e z. p e (inl z)) (λ e z. q e (inl z)) t.1 in
    let b = track d ms t.0 j (λ e z. p e (inr z)) (λ e z. q e (inr z)) t.2 in
    ((λ e z. b.0 e z ∙ a.0 e z), let y = a.1 in let z = b.1 in omega arith)

track_down : (d : ℕ) (ms : List Move) (i j : Index) → ((e : ℕ) → In ms (down e) → d ≤ e) → ((e : ℕ) → In ms (jump e) → d < e) → In ms (down d) → Tracks ms i j → j d < i d
track_down d [] i j p q h t = absurd h
track_down d (m ∷ ms) i j p q (inl h) t =
    let l = subst (λ (m : Move). Looks m i t.0) h t.1 in
    let b = track d ms t.0 j (λ e z. p e (inr z)) (λ e z. q e (inr z)) t.2 in
    let here : t.0 d ≡ l.0 = ap (λ (k : Index). k d) l.2 ∙ at_same i d l.0 in
    let y = l.1 in let z = b.1 in omega arith
track_down d (m ∷ ms) i j p q (inr h) t =
    let a = track_one d m i t.0 (λ e z. p e (inl z)) (λ e z. q e (inl z)) t.1 in
    let r = track_down d ms t.0 j (λ e z. p e (inr z)) (λ e z. q e (inr z)) h t.2 in
    let y = a.1 in omega arith

walk_on : {N : Type 0} (view : N → Option (Form N)) (n : N) (ms : List Move) (k : N) (m : Move) (o : N) → Walk view n ms k → Edge view k m o → Walk view n (ms ++ m ∷ []) o
walk_on view n ms k m o (stop c) e = step c o o m [] e (stop o)
walk_on view n ms k m o (step c q r p ps a w) e = step c q o p (ps ++ m ∷ []) a (walk_on view q ps r m o w e)

tracks_on : (ms : List Move) (m : Move) (i j k : Index) → Tracks ms i j → Looks m j k → Tracks (ms ++ m ∷ []) i k
tracks_on [] m i j k t l = (k, subst (λ (j : Index). Looks m j k) (sym t) l, refl)
tracks_on (p ∷ ms) m i j k t l = (t.0, t.1, tracks_on ms m t.0 j k t.2 l)

module _ {N : Type 0} (view : N → Option (Form N)) (D : ℕ) (rule : KeepsRule view) (depths : (n k : N) (d : ℕ) → Edge view n (down d) k → d < D) where
  walk_depth : (n : N) (ms : List Move) (k : N) (d : ℕ) → Walk view n ms k → In ms (down d) → d < D
  walk_depth n ms k d (stop c) h = absurd h
  walk_depth n ms k d (step c q r p ps a w) (inl h) = depths c q d (subst (λ (m : Move). Edge view c m q) h a)
  walk_depth n ms k d (step c q r p ps a w) (inr h) = walk_depth q ps r d w h

  -- a walk that comes back comes back with earlier iterations
  back_before : (n : N) (m : Move) (ms : List Move) (i j : Index) → Walk view n (m ∷ ms) n → Tracks (m ∷ ms) i j → (d : ℕ) × (d < D) × Before d j i
  back_before n m ms i j w t =
      let r = rule n m ms w in
      (r.d, walk_depth n (m ∷ ms) n r.d w r.takes, ((track r.d (m ∷ ms) i j r.least r.above t).0, track_down r.d (m ∷ ms) i j r.least r.above r.takes t))

  module _ (n : N) (X : List N) where
    abbrev pub Home : Index → Type 0
    Home i = Ends view (n ∷ X) n i

    away : (i : Index) → ((j : Index) (d : ℕ) → d < D → Before d j i → Ends view (n ∷ X) n j) → (k : N) (j : Index) → Ends view X k j → (m : Move) (ms : List Move) → Walk view n (m ∷ ms) k → Tracks (m ∷ ms) i j → Ends view (n ∷ X) k j
    away i before k j (ends c e h) m ms w t = ends c e (λ p o l a b y. ⊎_elim
        (λ z. returns_to p o l z a b)
        (λ z. away i before o l (h p o l a b z) m (ms ++ p ∷ []) (walk_on view n (m ∷ ms) c p o w a) (tracks_on (m ∷ ms) p i e l t b)) y)
      where
        returns_to : (p : Move) (o : N) (l : Index) → n ≡ o → Edge view c p o → Looks p e l → Ends view (n ∷ X) o l
        returns_to p o l z a b =
            let w' = subst (λ (o : N). Walk view n (m ∷ (ms ++ p ∷ [])) o) (sym z) (walk_on view n (m ∷ ms) c p o w a) in
            let r = back_before n m (ms ++ p ∷ []) i l w' (tracks_on (m ∷ ms) p i e l t b) in
            subst (λ (o : N). Ends view (n ∷ X) o l) z (before l r.0 r.1 r.2)

    home : ((k : N) (j : Index) → In X k → Ends view X k j) → (i : Index) → Home i
    home rest = by_order D Home (λ i before. ends n i (λ p o l a b y. ⊎_elim
        (λ z. at_once i before p o l z a b)
        (λ z. away i before o l (rest o l z) p [] (step n o o p [] a (stop o)) (l, b, refl)) y))
      where
        at_once : (i : Index) → ((j : Index) (d : ℕ) → d < D → Before d j i → Ends view (n ∷ X) n j) → (p : Move) (o : N) (l : Index) → n ≡ o → Edge view n p o → Looks p i l → Ends view (n ∷ X) o l
        at_once i before p o l z a b =
            let w = subst (λ (o : N). Walk view n (p ∷ []) o) (sym z) (step n o o p [] a (stop o)) in
            let r = back_before n p [] i l w (l, b, refl) in
            subst (λ (o : N). Ends view (n ∷ X) o l) z (before l r.0 r.1 r.2)

    others : ((i : Index) → Ends view (n ∷ X) n i) → (k : N) (j : Index) → Ends view X k j → Ends view (n ∷ X) k j
    others at_home k j (ends c e h) = ends c e (λ p o l a b y. ⊎_elim (λ z. subst (λ (o : N). Ends view (n ∷ X) o l) z (at_home l)) (λ z. others at_home o l (h p o l a b z)) y)

  -- no walk inside a list of nodes is endless
  pub all_end : (X : List N) (k : N) (j : Index) → In X k → Ends view X k j
  all_end [] k j y = absurd y
  all_end (n ∷ X) k j y =
      let h = home n X (λ k j y. all_end X k j y) in
      ⊎_elim (λ z. subst (λ (k : N). Ends view (n ∷ X) k j) z (h j)) (λ z. others n X h k j (all_end X k j z)) y
