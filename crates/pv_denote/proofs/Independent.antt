-- A node's value at an index depends on the depths that are free in it alone; and what is on the spine
-- of a token with a value has one.
use Rattle.std.specs.Prelude.{◌≡◌, ◌≢◌, ◌⊎◌, ◌↔◌, ℕ, zero, suc, Bool, true, false, List, [], ◌∷◌, Option, Some, ◌==◌, if◌then◌else◌, refl}
use Rattle.std.specs.List.{AllZip}
use Rattle.std.proofs.Common.{inl, inr, sym, ap, ◌∙◌, subst}
use Rattle.pv_value.specs.declared.world.World.{World}
use Rattle.pv_value.specs.declared.heap.Heap.{Heap}
use Rattle.pv_value.specs.declared.outcome.Input.{Input}
use Rattle.pv_value.specs.declared.outcome.Fault.{Fault}
use Rattle.pv_value.specs.declared.outcome.Fault.TheVariants as fault
use Rattle.pv_value.specs.declared.outcome.Val.{Val}
use Rattle.pv_value.specs.declared.outcome.Val.TheVariants as val
use Rattle.pv_graph.specs.declared.node.Op.{Op}
use Rattle.pv_graph.specs.declared.node.Op.TheVariants.{Both}
use Rattle.pv_graph.specs.Ops.{Shape, plain, choice, theta, eval, pass, shift, root, shape}
use Rattle.pv_graph.specs.Forms.{Form, form}
use Rattle.pv_denote.specs.Denote.{Index, at_depth, den, Value}
use Rattle.pv_denote.specs.Means.{IsTrueAt, Ending, Means}
use Rattle.pv_graph.specs.Walks.{In, open_kids, Free, here, below, IsClosed, Spine, token, left, right, count}
use Rattle.pv_denote.proofs.Values.{With, den_says, den_makes}
use Rattle.pv_denote.proofs.Indices.{same_or_not, differ, at_same, at_other, at_agree}
use Rattle.pv_denote.proofs.Mapped.{Stays, moves_all, means_map}

-- each depth that is free in n has the same iteration in both
abbrev pub Agrees : {N : Type 0} → (N → Option (Form N)) → N → Index → Index → Type 0
Agrees view n i j = (d : ℕ) → Free view d n → i d ≡ j d

in_second : {N : Type 0} (t : Bool) (a b : N) → In (if t then b ∷ [] else a ∷ b ∷ []) b
in_second true a b = inl refl
in_second false a b = inr (inl refl)

in_first : {N : Type 0} (t : Bool) (a : N) (ks : List N) → t ≡ false → In (if t then ks else a ∷ ks) a
in_first true a ks e = absurd (cc)
in_first false a ks e = inl refl

in_pass : {N : Type 0} (t : Bool) (c : N) → t ≡ false → In (if t then [] else c ∷ []) c
in_pass true c e = absurd (cc)
in_pass false c e = inl refl

in_choice : {N : Type 0} (t : Bool) (c a b : N) → In (c ∷ a ∷ b ∷ []) (if t then a else b)
in_choice true c a b = inr (inl refl)
in_choice false c a b = inr (inr (inl refl))

apart : (d o : ℕ) → o ≢ d → (d == o) ≡ false
apart d o h = differ d o (λ u. h (sym u))

module _ {N : Type 0} (view : N → Option (Form N)) (w : World) (x : Input) (R S : N → Index → Val → Type 0)
    (step : (k : N) (i j : Index) (v : Val) → Agrees view k i j → R k i v → S k j v) where
  -- a depth that is free in such a kid is free in the node
  up : (n : N) (o : Op) (ks : List N) → view n ≡ Some (form o ks) → (s : Shape) → shape o ≡ s → (k : N) (d : ℕ) → In (open_kids d s ks) k → Free view d k → Free view d n
  up n o ks e s is k d m z = below n k o ks e (subst (λ (q : Shape). In (open_kids d q ks) k) (sym is) m) z

  values_shift : (i j : Index) (ks : List N) (vs : List Val) → ((k : N) → In ks k → Agrees view k i j) → AllZip (λ k u. R k i u) ks vs → AllZip (λ k u. S k j u) ks vs
  values_shift i j [] [] p h = tt
  values_shift i j (k ∷ ks) (v ∷ vs) p h = (step k i j v (p k (inl refl)) h.0, values_shift i j ks vs (λ n m. p n (inr m)) h.1)
  values_shift i j ks vs p h = absurd h

  true_shift : (t : Bool) (c : N) (i j : Index) → Agrees view c i j → IsTrueAt R t c i → IsTrueAt S t c j
  true_shift t c i j a h = (h.0, step c i j h.0 a h.1, h.2)

  ending_shift : (r : N) (i j : Index) (e : Fault) (m : Heap) (v : Val) → Agrees view r i j → Ending R r i e m v → Ending S r j e m v
  ending_shift r i j fault.Clear m v a h = (h.0, h.1, step r i j h.0 a h.2, h.3, h.4)
  ending_shift r i j e m v a h = h

  -- kids of eval and pass are looked at with any iteration of that depth
  inside : (d k : ℕ) (c n : N) (i j : Index) → Agrees view n i j → ((o : ℕ) → o ≢ d → Free view o c → Free view o n) → Agrees view c (at_depth i d k) (at_depth j d k)
  inside d k c n i j a up_ o z = at_agree i j d k o (λ y. a o (up_ o y z))

  means_shift : (n : N) (o : Op) (ks : List N) → view n ≡ Some (form o ks) → (s : Shape) → shape o ≡ s → (i j : Index) (v : Val) → Agrees view n i j → Means w x R s o ks i v → Means w x S s o ks j v
  means_shift n o ks e plain is i j v a h = (h.0, values_shift i j ks h.0 (λ k m d z. a d (up n o ks e plain is k d m z)) h.1, h.2)
  means_shift n o (c ∷ p ∷ q ∷ []) e choice is i j v a h = (
    h.0,
    true_shift h.0 c i j (λ d z. a d (up n o _ e choice is c d (inl refl) z)) h.1,
    step (if h.0 then p else q) i j v (λ d z. a d (up n o _ e choice is (if h.0 then p else q) d (in_choice h.0 c p q) z)) h.2,
  )
  means_shift n o (p ∷ q ∷ []) e (theta d) is i j v a (inl h) =
      inl (sym (a d (here n o _ e is)) ∙ h.0, step p i j v (λ l z. a l (up n o _ e (theta d) is p l (inl refl) z)) h.1)
  means_shift n o (p ∷ q ∷ []) e (theta d) is i j v a (inr h) =
      inr (h.0, sym (a d (here n o _ e is)) ∙ h.1, step q _ _ v (inside d h.0 q n i j a (λ l y z. up n o _ e (theta d) is q l (inr (inl refl)) z)) h.2)
  means_shift n o (p ∷ q ∷ []) e (eval d) is i j v a h = (
    h.0,
    step q i j (val.Count h.0) (λ l z. a l (up n o _ e (eval d) is q l (in_second (d == l) p q) z)) h.1,
    step p _ _ v (inside d h.0 p n i j a (λ l y z. up n o _ e (eval d) is p l (in_first (d == l) p (q ∷ []) (apart d l y)) z)) h.2,
  )
  means_shift n o (c ∷ []) e (pass d) is i j v a h =
      let open_at = λ (k : ℕ). inside d k c n i j a (λ l y z. up n o _ e (pass d) is c l (in_pass (d == l) c (apart d l y)) z) in
      record { k = h.k; count = h.count; low = h.low; ends = true_shift true c _ _ (open_at h.k) h.ends; goes_on = λ l s t. true_shift false c _ _ (open_at l) (h.goes_on l s t) }
  means_shift n o (p ∷ []) e (shift d) is i j v a h = step p _ _ v agree h
    where
      agree : Agrees view p (at_depth i d (suc (i d))) (at_depth j d (suc (j d)))
      agree l z = go (same_or_not l d)
        where
          go : (l ≡ d) ⊎ (l ≢ d) → at_depth i d (suc (i d)) l ≡ at_depth j d (suc (j d)) l
          go (inl y) =
              let same : i l ≡ j l = a l (up n o _ e (shift d) is p l (inl refl) z) in
              subst (λ (m : ℕ). at_depth i d (suc (i d)) m ≡ at_depth j d (suc (j d)) m) (sym y) (at_same i d _ ∙ ap suc (subst (λ (m : ℕ). i m ≡ j m) y same) ∙ sym (at_same j d _))
          go (inr y) = at_other i d _ l y ∙ a l (up n o _ e (shift d) is p l (inl refl) z) ∙ sym (at_other j d _ l y)
  means_shift n o (t ∷ f ∷ r ∷ y ∷ []) e root is i j v a h = (
    h.0,
    h.1,
    kid t val.Unit (inl refl) h.2,
    kid f (val.Fault h.0) (inr (inl refl)) h.3,
    kid y (val.Heap h.1) (inr (inr (inr (inl refl)))) h.4,
    ending_shift r i j h.0 h.1 v (λ d q. a d (up n o _ e root is r d (inr (inr (inl refl))) q)) h.5,
  )
    where
      kid : (k : N) (u : Val) → In (t ∷ f ∷ r ∷ y ∷ []) k → R k i u → S k j u
      kid k u m z = step k i j u (λ d q. a d (up n o _ e root is k d m q)) z
  means_shift n o ks e s is i j v a h = absurd h

independent_with : {N : Type 0} (view : N → Option (Form N)) (w : World) (x : Input) (fuel : ℕ) (n : N) (i j : Index) (v : Val) → Agrees view n i j → With view w x fuel n i v → Value view w x n j v
unfolding den
independent_with view w x zero n i j v a h = absurd (cc)
independent_with view w x (suc fuel) n i j v a h =
    let r = den_says view w x fuel n i v h in
    den_makes view w x n j v r.0 r.1 r.2
    (means_shift view w x (With view w x fuel) (Value view w x) (λ k i j v a h. independent_with view w x fuel k i j v a h) n r.0 r.1 r.2 (shape r.0) refl i j v a r.3)

-- a value at an index is one at each index that agrees with it at the free depths
pub independent : {N : Type 0} (view : N → Option (Form N)) (w : World) (x : Input) (n : N) (i j : Index) (v : Val) → Agrees view n i j → Value view w x n i v → Value view w x n j v
independent view w x n i j v a h = independent_with view w x h.0 n i j v a h.1

-- where depth d isn't free, the iteration at d doesn't matter
pub not_free : {N : Type 0} (view : N → Option (Form N)) (w : World) (x : Input) (n : N) (i : Index) (d k : ℕ) (v : Val) → (Free view d n → ⊥) → Value view w x n i v ↔ Value view w x n (at_depth i d k) v
not_free view w x n i d k v h = (independent view w x n i (at_depth i d k) v there, independent view w x n (at_depth i d k) i v (λ e z. sym (there e z)))
  where
    there : Agrees view n i (at_depth i d k)
    there e z = go (same_or_not e d)
      where
        go : (e ≡ d) ⊎ (e ≢ d) → i e ≡ at_depth i d k e
        go (inl y) = absurd (h (subst (λ (l : ℕ). Free view l n) y z))
        go (inr y) = sym (at_other i d k e y)

-- a closed node with a value has it at every index
pub closed_value : {N : Type 0} (view : N → Option (Form N)) (w : World) (x : Input) (n : N) (i j : Index) (v : Val) → IsClosed view n → Value view w x n i v → Value view w x n j v
closed_value view w x n i j v closed h = independent view w x n i j v (λ d z. absurd (closed d z)) h

-- ---- what a value says of a node's kids

-- the values of a node are what its operation means over those of its kids
pub value_says : {N : Type 0} (view : N → Option (Form N)) (w : World) (x : Input) (n : N) (i : Index) (v : Val) (o : Op) (ks : List N) → view n ≡ Some (form o ks) → Value view w x n i v → Means w x (Value view w x) (shape o) o ks i v
value_says view w x n i v o ks e (zero, h) = absurd (unfold den in cc)
value_says {N} view w x n i v o ks e (suc fuel, h) =
    let r = den_says view w x fuel n i v h in
    let op : r.0 ≡ o = cc (r.2, e) in
    let kids : r.1 ≡ ks = cc (r.2, e) in
    let more = means_map w x (λ _. Unit {0}) (With view w x fuel) (Value view w x) (λ (a b : N). a ≡ b) (λ a b j u t _ z. (fuel, subst (λ (n : N). With view w x fuel n j u) t z)) (shape r.0) r.0 r.1 r.1 i v
    (moves_all (Stays (λ _. Unit {0})) (λ d j k _. tt) (shape r.0)) (each_itself r.1) tt r.3 in
    subst (λ (z : Op). Means w x (Value view w x) (shape z) z ks i v) op (subst (λ (zs : List N). Means w x (Value view w x) (shape r.0) r.0 zs i v) kids more)
  where
    each_itself : (ks : List N) → AllZip (λ a b. a ≡ b) ks ks
    each_itself [] = tt
    each_itself (k ∷ ks) = (refl, each_itself ks)

both_has : {N : Type 0} (view : N → Option (Form N)) (w : World) (x : Input) (t a b : N) (i : Index) (v : Val) → view t ≡ Some (form Both (a ∷ b ∷ [])) → Value view w x t i v → ((u : Val) × Value view w x a i u) × ((u : Val) × Value view w x b i u)
both_has view w x t a b i v e h = let m = value_says view w x t i v Both (a ∷ b ∷ []) e h in go m.0 m.1
  where
    go : (vs : List Val) → AllZip (λ k u. Value view w x k i u) (a ∷ b ∷ []) vs → ((u : Val) × Value view w x a i u) × ((u : Val) × Value view w x b i u)
    go (u ∷ v ∷ []) z = ((u, z.0), (v, z.1.0))
    go vs z = absurd (assumption)

count_has : {N : Type 0} (view : N → Option (Form N)) (w : World) (x : Input) (a p : N) (d : ℕ) (o : Op) (s : Shape) (i : Index) (v : Val) → s ≡ eval d → Means w x (Value view w x) s o (a ∷ p ∷ []) i v → (u : Val) × Value view w x p i u
count_has view w x a p d o s i v is h = let m = subst (λ (q : Shape). Means w x (Value view w x) q o (a ∷ p ∷ []) i v) is h in (val.Count m.0, m.1)

-- what is on the spine of a token with a value has a value
pub spine_has : {N : Type 0} (view : N → Option (Form N)) (w : World) (x : Input) (t n : N) (i : Index) → Spine view t n → (v : Val) → Value view w x t i v → (u : Val) × Value view w x n i u
spine_has view w x t n i (token z) v h = (v, h)
spine_has view w x t n i (left z a b m e s) v h = let y = both_has view w x z a b i v e h in spine_has view w x a m i s y.0.0 y.0.1
spine_has view w x t n i (right z a b m e s) v h = let y = both_has view w x z a b i v e h in spine_has view w x b m i s y.1.0 y.1.1
spine_has view w x t n i (count z a p o d e is) v h = count_has view w x a p d o (shape o) i v is (value_says view w x z i v o (a ∷ p ∷ []) e h)
