-- Where an exit comes to, and whether a target or the end is ahead, computed by the checker.
use Rattle.std.proofs.Common.{◌≡◌, ℕ, zero, suc, Bool, true, false, not, ◌&&◌, ◌||◌, List, [], ◌∷◌, ◌++◌, ◌⊎◌, inl, inr, ⊎_elim, refl, sym, ap, ◌∙◌, subst, ◌==◌, if◌then◌else◌}
use Rattle.pv_equations.specs.Flow.{Dest, To, End, Exit, Chain, Leave, Test, InChain, Flow}
use Rattle.pv_equations.specs.Equations.{Target, Node, Back, Finish, Returning, Leaving, Place, On, Again, Header, Gone, Lands, beside, enters, again, header, leaves, gone, Hits, Ahead, now, later}
use Rattle.examples_flows.proofs.Tests.{same_number, number_self, and_parts, or_parts, or_neither, not_both, same_list, list_self, ends_with, ends_self, ends_more, ends_not, longer_not, member, heads_by, heads_true, heads_false}

-- ---- places

abbrev pub place_by : List ℕ → ℕ → List ℕ → List ℕ → Place
place_by R b A [] = if ends_with A R then (if same_list A R then (if heads_by R b then Header else On [] b) else On (b ∷ []) b) else Gone
place_by R b A (h ∷ F) = if ends_with A (h ∷ (F ++ R)) then (if same_list A (h ∷ (F ++ R)) then (if h == b then Again else On (h ∷ F) b) else On (b ∷ h ∷ F) b) else place_by R b A F

pub place_is : (R : List ℕ) (b : ℕ) (A F : List ℕ) (p : Place) → Lands R b A F p → place_by R b A F ≡ p
place_is R b A F p (beside F' e n) = go F' e
  where
    go : (F : List ℕ) → A ≡ F ++ R → place_by R b A F ≡ On F b
    go [] e = at_top (heads_by R b) refl
      where
        at_top : (t : Bool) → heads_by R b ≡ t → place_by R b A [] ≡ On [] b
        at_top true h = absurd (let z = heads_true R b h in n b z.0 (e ∙ z.1) refl)
        at_top false h = rw (e, ends_self R, list_self R, h) refl
    go (h ∷ F) e = in_loop (h == b) refl
      where
        in_loop : (t : Bool) → (h == b) ≡ t → place_by R b A (h ∷ F) ≡ On (h ∷ F) b
        in_loop true q = absurd (n h (F ++ R) e (sym (same_number h b q)))
        in_loop false q = rw (e, ends_self (h ∷ (F ++ R)), list_self (h ∷ (F ++ R)), q) refl
place_is R b A F p (enters F' e) = go F' e
  where
    go : (F : List ℕ) → A ≡ b ∷ (F ++ R) → place_by R b A F ≡ On (b ∷ F) b
    go [] e = rw (e, ends_more b R, longer_not b R) refl
    go (h ∷ F) e = rw (e, ends_more b (h ∷ (F ++ R)), longer_not b (h ∷ (F ++ R))) refl
place_is R b A F p (again h F' q e) = rw (e ∙ ap (λ (h : ℕ). h ∷ (F' ++ R)) (sym q), ends_self (h ∷ (F' ++ R)), list_self (h ∷ (F' ++ R)), q, number_self b) refl
place_is R b A F p (header B q e) = rw (e, ends_self R, list_self R, ap (λ (R : List ℕ). heads_by R b) q, number_self b) refl
place_is R b A F p (leaves h F' p' n l) = rw (ends_not A (h ∷ (F' ++ R)) n, place_is R b A F' p' l) refl
place_is R b A F p (gone n) = rw (ends_not A R n) refl

-- ---- what is ahead

abbrev pub any_exit : (Dest → Bool) → Chain → Bool
any_exit q (Leave e) = q e.dest
any_exit q (Test t e rest) = q e.dest || any_exit q rest

pub any_exit_true : (q : Dest → Bool) (ch : Chain) → any_exit q ch ≡ true → (e : Exit) × InChain ch e × (q e.dest ≡ true)
any_exit_true q (Leave e) h = (e, refl, h)
any_exit_true q (Test t e rest) h = go (or_parts (q e.dest) (any_exit q rest) h) (λ h. any_exit_true q rest h)
  where
    go : (q e.dest ≡ true) ⊎ (any_exit q rest ≡ true) → (any_exit q rest ≡ true → (d : Exit) × InChain rest d × (q d.dest ≡ true)) → (d : Exit) × InChain (Test t e rest) d × (q d.dest ≡ true)
    go (inl h) more = (e, inl refl, h)
    go (inr h) more = let r = more h in (r.0, inr r.1, r.2)

any_exit_false : (q : Dest → Bool) (ch : Chain) → any_exit q ch ≡ false → (e : Exit) → InChain ch e → q e.dest ≡ false
any_exit_false q (Leave d) h e i = subst (λ (e : Exit). q e.dest ≡ false) i h
any_exit_false q (Test t d rest) h e (inl i) = subst (λ (e : Exit). q e.dest ≡ false) i (or_neither (q d.dest) (any_exit q rest) h).0
any_exit_false q (Test t d rest) h e (inr i) = any_exit_false q rest (or_neither (q d.dest) (any_exit q rest) h).1 e i

abbrev pub hits_by : List ℕ → Target → Dest → Bool
hits_by R t (End k) = true
hits_by R (Node n) (To m) = m == n
hits_by R Back (To m) = heads_by R m
hits_by R t (To m) = false

hits_true : (R : List ℕ) (t : Target) (d : Dest) → hits_by R t d ≡ true → Hits R t d
hits_true R t (End k) h = tt
hits_true R (Node n) (To m) h = same_number m n h
hits_true R Back (To m) h = heads_true R m h
hits_true R Finish (To m) h = absurd (cc)
hits_true R Returning (To m) h = absurd (cc)
hits_true R Leaving (To m) h = absurd (cc)

hits_false : (R : List ℕ) (t : Target) (d : Dest) → hits_by R t d ≡ false → Hits R t d → ⊥
hits_false R t (End k) e h = absurd (cc)
hits_false R (Node n) (To m) e h = not_both (m == n) (subst (λ (n : ℕ). (m == n) ≡ true) h (number_self m)) e
hits_false R Back (To m) e h = heads_false R m e h
hits_false R Finish (To m) e h = h
hits_false R Returning (To m) e h = h
hits_false R Leaving (To m) e h = h

abbrev pub onward : (ℕ → Bool) → Dest → Bool
onward q (To m) = q m
onward q (End k) = false

module _ (f : Flow) (R : List ℕ) (t : Target) where
  -- in at most n exits
  abbrev pub ahead_by : ℕ → ℕ → Bool
  ahead_by zero b = false
  ahead_by (suc n) b = any_exit (λ d. hits_by R t d || onward (λ m. ahead_by n m) d) (f.chain b)

  pub ahead_true : (n b : ℕ) → ahead_by n b ≡ true → Ahead f R t b
  ahead_true zero b h = absurd (cc)
  ahead_true (suc n) b h = go (any_exit_true (λ d. hits_by R t d || onward (λ m. ahead_by n m) d) (f.chain b) h) (λ m h. ahead_true n m h)
    where
      kind : (e : Exit) (d : Dest) → e.dest ≡ d → InChain (f.chain b) e → onward (λ m. ahead_by n m) d ≡ true → ((m : ℕ) → ahead_by n m ≡ true → Ahead f R t m) → Ahead f R t b
      kind e (To m) q i h rec = later b m e i q (rec m h)
      kind e (End k) q i h rec = absurd (cc)

      go : (e : Exit) × InChain (f.chain b) e × ((hits_by R t e.dest || onward (λ m. ahead_by n m) e.dest) ≡ true) → ((m : ℕ) → ahead_by n m ≡ true → Ahead f R t m) → Ahead f R t b
      go z rec = ⊎_elim (λ h. now b z.0 z.1 (hits_true R t z.0.dest h)) (λ h. kind z.0 z.0.dest refl z.1 h rec) (or_parts (hits_by R t z.0.dest) (onward (λ m. ahead_by n m) z.0.dest) z.2)

  -- no exit of a block of S hits, or leads out of S
  abbrev pub leads_out : List ℕ → Dest → Bool
  leads_out S d = hits_by R t d || onward (λ m. not (member S m)) d

  abbrev pub closed : List ℕ → List ℕ → Bool
  closed S [] = true
  closed S (b ∷ B) = not (any_exit (leads_out S) (f.chain b)) && closed S B

  abbrev pub lost_in : List ℕ → ℕ → Bool
  lost_in S b = member S b && closed S S

  -- the blocks of a list that aren't ahead
  abbrev pub lost_of : ℕ → List ℕ → List ℕ
  lost_of n [] = []
  lost_of n (b ∷ B) = if ahead_by n b then lost_of n B else b ∷ lost_of n B

  not_true : (b : Bool) → not b ≡ true → b ≡ false
  not_true true e = absurd (cc)
  not_true false e = refl

  not_false : (b : Bool) → not b ≡ false → b ≡ true
  not_false true e = refl
  not_false false e = absurd (cc)

  closed_at : (S B : List ℕ) (b : ℕ) → closed S B ≡ true → member B b ≡ true → any_exit (leads_out S) (f.chain b) ≡ false
  closed_at S [] b c m = absurd (cc)
  closed_at S (a ∷ B) b c m = go (or_parts (a == b) (member B b) m) (and_parts (not (any_exit (leads_out S) (f.chain a))) (closed S B) c) (λ c m. closed_at S B b c m)
    where
      go : ((a == b) ≡ true) ⊎ (member B b ≡ true) → (not (any_exit (leads_out S) (f.chain a)) ≡ true) × (closed S B ≡ true) → (closed S B ≡ true → member B b ≡ true → any_exit (leads_out S) (f.chain b) ≡ false) → any_exit (leads_out S) (f.chain b) ≡ false
      go (inl e) p rec = subst (λ (a : ℕ). any_exit (leads_out S) (f.chain a) ≡ false) (same_number a b e) (not_true (any_exit (leads_out S) (f.chain a)) p.0)
      go (inr e) p rec = rec p.1 e

  lost_from : (S : List ℕ) (b : ℕ) → closed S S ≡ true → member S b ≡ true → Ahead f R t b → ⊥
  lost_from S b c m (now b' e i h) = hits_false R t e.dest (or_neither (hits_by R t e.dest) (onward (λ m. not (member S m)) e.dest) (any_exit_false (leads_out S) (f.chain b') (closed_at S S b' c m) e i)).0 h
  lost_from S b c m (later b' k e i d a) =
      let out = (or_neither (hits_by R t e.dest) (onward (λ m. not (member S m)) e.dest) (any_exit_false (leads_out S) (f.chain b') (closed_at S S b' c m) e i)).1 in
      lost_from S k c (not_false (member S k) (subst (λ (d : Dest). onward (λ m. not (member S m)) d ≡ false) d out)) a

  pub lost_true : (S : List ℕ) (b : ℕ) → lost_in S b ≡ true → Ahead f R t b → ⊥
  lost_true S b h a = let p = and_parts (member S b) (closed S S) h in lost_from S b p.1 p.0 a
