-- Which depths are free in an expression, decided where the equations name finitely many blocks and slots.
use Rattle.std.proofs.Common.{◌≡◌, ℕ, ◌<◌, List, [], ◌∷◌, ◌++◌, length, ◌⊎◌, inl, inr, ⊎_elim, refl, sym, ap, subst, subst₂}
use Rattle.pv_equations.proofs.Words.{Op, shape, In, open_kids, Exp, Exps, Name, Over, NoExp, Then, listed, Part, Parts, Slot, Of, NoPart, More, put, put_all, NamesBelow, AllBelow, Flow, Values, FreeIn, theta, name, entered, begun, kid, first_kid}
use Rattle.pv_graph.specs.declared.node.Op.TheVariants as op
use Rattle.pv_graph.specs.Ops as ops
use Rattle.pv_equations.specs.Exp.{made}
use Rattle.pv_equations.proofs.Same.{counted_in}
use Rattle.pv_equations.proofs.Search.{Decided, number, less, both, either, equally, Reach, there, onward, reach, below, in_below}

-- the names in an expression are of finitely many blocks and slots
abbrev mutual
  pub Within : ℕ → ℕ → Exp → Type 0
  Within blocks slots (Name h s) = (h < blocks) × (s < slots)
  Within blocks slots (Over o es) = AllWithin blocks slots es

  pub AllWithin : ℕ → ℕ → Exps → Type 0
  AllWithin blocks slots NoExp = Unit {0}
  AllWithin blocks slots (Then e es) = Within blocks slots e × AllWithin blocks slots es

module _ (blocks slots : ℕ) where
  within_in : (es : Exps) (k : Exp) → In (listed es) k → AllWithin blocks slots es → Within blocks slots k
  within_in NoExp k h p = absurd h
  within_in (Then e es) k (inl h) p = subst (Within blocks slots) h p.0
  within_in (Then e es) k (inr h) p = within_in es k h p.1

  pub made_within : (o : Op) (es : Exps) → AllWithin blocks slots es → Within blocks slots (made o es)
  unfolding made
  made_within op.Both (Then (Over op.Unit NoExp) (Then t NoExp)) p = p.1.0
  made_within o es p = p

  mutual
    pub put_within : (g : ℕ → Exp) → ((s : ℕ) → s < slots → Within blocks slots (g s)) → (p : Part) → NamesBelow slots p → Within blocks slots (put g p)
    put_within g h (Slot s) l = h s l
    put_within g h (Of o p ps) l = made_within o (put_all g ps) (put_all_within g h ps l)

    put_all_within : (g : ℕ → Exp) → ((s : ℕ) → s < slots → Within blocks slots (g s)) → (ps : Parts) → AllBelow slots ps → AllWithin blocks slots (put_all g ps)
    put_all_within g h NoPart l = tt
    put_all_within g h (More p ps) l = (put_within g h p l.0, put_all_within g h ps l.1)

-- found in the expression through open kids: a theta of depth d, where T lets it count, or a name of which P says so; names aren't followed
pub data Shows (d : ℕ) (T : Type 0) (P : ℕ → ℕ → Type 0) : Exp → Type 0 where
  shown : (o : Op) (es : Exps) → T → shape o ≡ ops.theta d → Shows d T P (Over o es)
  named : (h s : ℕ) → P h s → Shows d T P (Name h s)
  inside : (o : Op) (es : Exps) (k : Exp) → In (open_kids d (shape o) (listed es)) k → Shows d T P k → Shows d T P (Over o es)

theta_dec : (d : ℕ) (s : ops.Shape) → Decided (s ≡ ops.theta d)
theta_dec d (ops.theta e) = equally (e ≡ d) (ops.theta e ≡ ops.theta d) (λ z. ap ops.theta z) (λ z. let y = z in cc) (number e d)
theta_dec d s = inr (λ z. absurd (let y = z in cc))

module _ (d : ℕ) (T : Type 0) (P : ℕ → ℕ → Type 0) where
  S : Exp → Type 0
  S x = Shows d T P x

  abbrev Says : Exp → Type 0
  Says (Name h s) = P h s
  Says (Over o es) = (T × (shape o ≡ ops.theta d)) ⊎ ((k : Exp) × In (open_kids d (shape o) (listed es)) k × S k)

  says : (x : Exp) → Shows d T P x → Says x
  unfolding S
  says x (shown o es t z) = inl (t, z)
  says x (named h s p) = p
  says x (inside o es k i t) = inr (k, i, t)

  any : (ks : List Exp) → ((k : Exp) → In ks k → Decided (S k)) → Decided ((k : Exp) × In ks k × S k)
  any [] h = inr (λ z. z.1)
  any (x ∷ ks) h = go (h x (inl refl)) (any ks (λ k i. h k (inr i)))
    where
      go : Decided (S x) → Decided ((k : Exp) × In ks k × S k) → Decided ((k : Exp) × In (x ∷ ks) k × S k)
      go (inl p) q = inl (x, inl refl, p)
      go (inr n) (inl q) = inl (q.0, inr q.1, q.2)
      go (inr n) (inr m) = inr (λ z. ⊎_elim (λ e. n (subst S (sym e) z.2)) (λ i. m (z.0, i, z.2)) z.1)

  module _ (t_dec : Decided T) (dec : (h s : ℕ) → Decided (P h s)) where
    mutual
      unfolding S

      shows_in : (x : Exp) → Decided (S x)
      shows_in (Name h s) = equally (P h s) (Shows d T P (Name h s)) (λ p. named h s p) (λ t. says (Name h s) t) (dec h s)
      shows_in (Over o es) = equally ((T × (shape o ≡ ops.theta d)) ⊎ ((k : Exp) × In (open_kids d (shape o) (listed es)) k × S k)) (Shows d T P (Over o es))
          (λ z. ⊎_elim (λ t. shown o es t.0 t.1) (λ y. inside o es y.0 y.1 y.2) z) (λ t. says (Over o es) t)
          (either _ _ (both _ _ t_dec (theta_dec d (shape o))) (any (open_kids d (shape o) (listed es)) (λ k i. all es k (counted_in d (shape o) (listed es) k i))))

      all : (es : Exps) (k : Exp) → In (listed es) k → Decided (S k)
      all NoExp k i = absurd i
      all (Then e es) k (inl i) = subst (λ (k : Exp). Decided (S k)) i (shows_in e)
      all (Then e es) k (inr i) = all es k i

    pub shows : (x : Exp) → Decided (Shows d T P x)
    unfolding S
    shows x = shows_in x

-- the pairs of a block and a slot
abbrev Pair : Type 0
Pair = ℕ × ℕ

abbrev row : ℕ → List ℕ → List Pair
row h [] = []
row h (s ∷ ss) = (h, s) ∷ row h ss

abbrev grid : List ℕ → List ℕ → List Pair
grid [] ss = []
grid (h ∷ hs) ss = row h ss ++ grid hs ss

in_left : (xs ys : List Pair) (p : Pair) → In {A = Pair} xs p → In {A = Pair} (xs ++ ys) p
in_left [] ys p i = absurd i
in_left (x ∷ xs) ys p (inl e) = inl e
in_left (x ∷ xs) ys p (inr i) = inr (in_left xs ys p i)

in_right : (xs ys : List Pair) (p : Pair) → In {A = Pair} ys p → In {A = Pair} (xs ++ ys) p
in_right [] ys p i = i
in_right (x ∷ xs) ys p i = inr (in_right xs ys p i)

in_row : (h s : ℕ) (ss : List ℕ) → In ss s → In {A = Pair} (row h ss) (h, s)
in_row h s [] i = absurd i
in_row h s (t ∷ ss) (inl e) = inl (ap (λ (t : ℕ). (h, t)) e)
in_row h s (t ∷ ss) (inr i) = inr (in_row h s ss i)

in_grid : (hs ss : List ℕ) (h s : ℕ) → In hs h → In ss s → In {A = Pair} (grid hs ss) (h, s)
in_grid [] ss h s i j = absurd i
in_grid (k ∷ hs) ss h s (inl e) j = in_left (row k ss) (grid hs ss) (h, s) (subst (λ (k : ℕ). In {A = Pair} (row k ss) (h, s)) (sym e) (in_row h s ss j))
in_grid (k ∷ hs) ss h s (inr i) j = in_right (row k ss) (grid hs ss) (h, s) (in_grid hs ss h s i j)

module _ (f : Flow) (v : Values) (d : ℕ) where
  -- a test of one name, and of none
  abbrev Is : Pair → ℕ → ℕ → Type 0
  Is p h s = (p.0 ≡ h) × (p.1 ≡ s)

  abbrev Never : ℕ → ℕ → Type 0
  Never h s = ⊥

  -- a theta; the name alone; a theta or a name of which P says so
  abbrev Theta : Exp → Type 0
  Theta x = Shows d (Unit {0}) Never x

  abbrev Only : Pair → Exp → Type 0
  Only c x = Shows d ⊥ (Is c) x

  abbrev Some_of : (ℕ → ℕ → Type 0) → Exp → Type 0
  Some_of P x = Shows d (Unit {0}) P x

  -- the name is of a deeper loop, and Q holds of one of the kids of its theta
  abbrev Deeper : (Exp → Type 0) → Pair → Type 0
  Deeper Q a = (d < length (f.around a.0)) × (Q (first_kid v a.0 a.1) ⊎ Q (v.again a.0 a.1))

  Step : Pair → Pair → Type 0
  Step a c = Deeper (Only c) a

  Goal : Pair → Type 0
  Goal a = (length (f.around a.0) ≡ d) ⊎ Deeper Theta a

  abbrev Reached : ℕ → ℕ → Type 0
  Reached h s = Reach Pair Step Goal (h, s)

  deeper_dec : (Q : Exp → Type 0) → ((x : Exp) → Decided (Q x)) → (a : Pair) → Decided (Deeper Q a)
  deeper_dec Q dec a = both _ _ (less d (length (f.around a.0))) (either _ _ (dec (first_kid v a.0 a.1)) (dec (v.again a.0 a.1)))

  -- what is shown is a theta or one name
  split : (P : ℕ → ℕ → Type 0) (x : Exp) → Some_of P x → Theta x ⊎ ((c : Pair) × Only c x × P c.0 c.1)
  split P x (shown o es t z) = inl (shown o es tt z)
  split P x (named h s p) = inr ((h, s), named h s (refl, refl), p)
  split P x (inside o es k i t) = ⊎_elim (λ y. inl (inside o es k i y)) (λ y. inr (y.0, inside o es k i y.1, y.2)) (split P k t)

  to_free : (T : Type 0) (P : ℕ → ℕ → Type 0) → ((h s : ℕ) → P h s → FreeIn f v d (Name h s)) → (x : Exp) → Shows d T P x → FreeIn f v d x
  to_free T P h x (shown o es t z) = theta o es z
  to_free T P h x (named k s p) = h k s p
  to_free T P h x (inside o es k i t) = kid o es k i (to_free T P h k t)

  through : (Q : Exp → Type 0) → ((x : Exp) → Q x → FreeIn f v d x) → (h s : ℕ) → Deeper Q (h, s) → FreeIn f v d (Name h s)
  through Q free h s (l, inl z) = entered h s l (free (first_kid v h s) z)
  through Q free h s (l, inr z) = begun h s l (free (v.again h s) z)

  from_reach : (a : Pair) → Reach Pair Step Goal a → FreeIn f v d (Name a.0 a.1)
  unfolding Step Goal
  from_reach a (there a' (inl e)) = name a'.0 a'.1 e
  from_reach a (there a' (inr z)) = through Theta (to_free (Unit {0}) Never (λ h s n. absurd n)) a'.0 a'.1 z
  from_reach a (onward a' c z r) =
      let free = from_reach c r in
      through (Only c) (to_free ⊥ (Is c) (λ h s e. subst₂ (λ (h s : ℕ). FreeIn f v d (Name h s)) e.0 e.1 free)) a'.0 a'.1 z

  step_in : (h s : ℕ) → Deeper (Some_of Reached) (h, s) → Reached h s
  unfolding Step Goal
  step_in h s (l, inl z) = ⊎_elim (λ y. there (h, s) (inr (l, inl y))) (λ y. onward (h, s) y.0 (l, inl y.1) y.2) (split Reached (first_kid v h s) z)
  step_in h s (l, inr z) = ⊎_elim (λ y. there (h, s) (inr (l, inr y))) (λ y. onward (h, s) y.0 (l, inr y.1) y.2) (split Reached (v.again h s) z)

  to_reach : (x : Exp) → FreeIn f v d x → Some_of Reached x
  unfolding Step Goal
  to_reach x (theta o es z) = shown o es tt z
  to_reach x (name h s z) = named h s (there (h, s) (inl z))
  to_reach x (entered h s l t) = named h s (step_in h s (l, inl (to_reach (first_kid v h s) t)))
  to_reach x (begun h s l t) = named h s (step_in h s (l, inr (to_reach (v.again h s) t)))
  to_reach x (kid o es k i t) = inside o es k i (to_reach k t)

  module _ (blocks slots : ℕ) (first_within : (h s : ℕ) → Within blocks slots (first_kid v h s)) (again_within : (h s : ℕ) → Within blocks slots (v.again h s)) where
    abbrev Pairs : List Pair
    Pairs = grid (below blocks) (below slots)

    only_within : (c : Pair) (x : Exp) → Only c x → Within blocks slots x → In {A = Pair} Pairs c
    only_within c x (shown o es t z) w = absurd t
    only_within c x (named h s p) w =
        in_grid (below blocks) (below slots) c.0 c.1 (in_below blocks c.0 (subst (λ (h : ℕ). h < blocks) (sym p.0) w.0)) (in_below slots c.1 (subst (λ (s : ℕ). s < slots) (sym p.1) w.1))
    only_within c x (inside o es k i t) w = only_within c k t (within_in blocks slots es k (counted_in d (shape o) (listed es) k i) w)

    step_within : (a c : Pair) → Step a c → In {A = Pair} Pairs c
    unfolding Step
    step_within a c (l, inl z) = only_within c (first_kid v a.0 a.1) z (first_within a.0 a.1)
    step_within a c (l, inr z) = only_within c (v.again a.0 a.1) z (again_within a.0 a.1)

    step_dec : (a c : Pair) → Decided (Step a c)
    unfolding Step
    step_dec a c = deeper_dec (Only c) (shows d ⊥ (Is c) (inr (λ z. z)) (λ h s. both _ _ (number c.0 h) (number c.1 s))) a

    goal_dec : (a : Pair) → Decided (Goal a)
    unfolding Goal
    goal_dec a = either _ _ (number (length (f.around a.0)) d) (deeper_dec Theta (shows d (Unit {0}) Never (inl tt) (λ h s. inr (λ z. z))) a)

    -- whether depth d is free
    pub free : (x : Exp) → Decided (FreeIn f v d x)
    free x = equally (Some_of Reached x) (FreeIn f v d x) (to_free (Unit {0}) Reached (λ h s r. from_reach (h, s) r) x) (to_reach x)
        (shows d (Unit {0}) Reached (inl tt) (λ h s. reach Pair Step Goal step_dec goal_dec Pairs step_within (h, s)) x)
