-- An accepted section makes its roots the same; a section is accepted, or rejected with one number.
use Rattle.std.specs.Prelude.{◌≡◌, ◌⊎◌, ℕ, zero, suc, ◌<◌, ◌≤◌, List, [], ◌∷◌, length, reverse, take, Some, slice_get, get_or}
use Rattle.std.proofs.Common.{inl, inr, sym, ap, ◌∙◌, subst, arith, take-suc, take_all}
use Rattle.std.proofs.lemmas.List.{reverse-append}
use Rattle.std.proofs.lemmas.Option.{slice_get_within, slice_get-get_or, same_Some}
use Rattle.pv_denote.specs.Denote.{SameAt}
use Rattle.pv_graph.specs.Graphs.{Graph, form_at}
use Rattle.pv_graph.proofs.Cited.{found}
use Rattle.pv_denote.proofs.Cited.{growth_law}
use Rattle.pv_alike.proofs.Cited.{least_within, first_means, second_means}
use Rattle.pv_steps.specs.Steps.{Step, OpenBlock, blocks}
use Rattle.pv_steps.specs.Right.{Instances, Right}
use Rattle.pv_steps.specs.Accepted.{AllRight, LastStates, IsConcluded, first_steps, Rejects}
use Rattle.pv_steps.specs.Facts.{Holds}
use Rattle.pv_steps.specs.Laws.{AreSound, AcceptedSame, AcceptedLeast, AcceptedNotRejected, RejectedOnce}
use Rattle.pv_steps.proofs.Growing.{extends_self, after_grown}
use Rattle.pv_steps.proofs.Section.{section_holds, graph_there}

pub accepted_same : (Instance : Instances) → AreSound Instance → AcceptedSame Instance
accepted_same Instance sound g a b steps made sealed low low' derives w x world input i = go derives.1.1
  where
    go : (a ≡ b) ⊎ LastStates (reverse steps) a b → SameAt (form_at g.nodes) w x i a b
    go (inl e) = subst (λ (c : ℕ). SameAt (form_at g.nodes) w x i a c) e (λ v. (λ z. z, λ z. z))
    go (inr l) =
        let last = graph_there Instance g (reverse steps) derives.0 in
        let grown = after_grown g (reverse steps) last.0 made sealed last.1 in
        let all = section_holds Instance sound g last.0 made sealed (reverse steps) derives.0 last.0 last.1 (extends_self last.0) in
        let holds = subst (λ (ps : List OpenBlock). Holds (form_at last.0.nodes) (blocks ps) a b) l.outside (all.0 (length (reverse steps)) l.stated l.last a b l.states_) in
        let same = holds w x world input i tt i tt in
        let kept = growth_law g last.0 made.graph grown.extends_ in
        λ v. (
          λ z. (kept b low' w x i v).0 ((same v).0 ((kept a low w x i v).1 z)),
          λ z. (kept a low w x i v).0 ((same v).1 ((kept b low' w x i v).1 z)),
        )

pub accepted_least : (Instance : Instances) → AreSound Instance → AcceptedLeast Instance
accepted_least Instance sound g a b l steps made sealed is derives w x world input i =
    let within = least_within is.least in
    let same = accepted_same Instance sound l.graph l.first l.second steps is.made is.sealed within.first within.second derives w x world input i in
    λ v. (
      λ z. (second_means is.least w x i v).0 ((same v).0 ((first_means is.least w x i v).1 z)),
      λ z. (first_means is.least w x i v).0 ((same v).1 ((second_means is.least w x i v).1 z)),
    )

-- ---- the first steps

-- with one step more, that step is the last
pub next_steps : (steps : List Step) (n : ℕ) (s : Step) → slice_get steps n ≡ Some s → first_steps (suc n) steps ≡ s ∷ first_steps n steps
next_steps steps n s e =
    let low : n < length steps = slice_get_within steps n s e in
    let one : get_or steps n s ≡ s = same_Some _ _ (sym (slice_get-get_or steps n s low) ∙ e) in
    ap reverse (take-suc steps n s low) ∙ reverse-append (take n steps) (get_or steps n s ∷ []) ∙ ap (λ (y : Step). y ∷ reverse (take n steps)) one

-- as many as there are: all steps
pub whole_steps : (steps : List Step) → first_steps (length steps) steps ≡ reverse steps
whole_steps steps = ap reverse (take_all (length steps) steps (omega arith))

-- where the first steps are right, so is each of them
pub right_at : (Instance : Instances) (g : Graph) (steps : List Step) (n m : ℕ) → n ≤ length steps → AllRight Instance g (first_steps n steps) → m < n → (s : Step) → slice_get steps m ≡ Some s → Right Instance g (first_steps m steps) s
right_at Instance g steps zero m le all low s e = absurd (omega (arith, low))
right_at Instance g steps (suc n) m le all low s e =
    let last = found steps n (omega (arith, le)) in
    let both = subst (AllRight Instance g) (next_steps steps n last.0 last.1) all in
    go (m_cases m n (omega (arith, low))) last both (λ all z. right_at Instance g steps n m (omega (arith, le)) all z s e)
  where
    m_cases : (m n : ℕ) → m ≤ n → (m ≡ n) ⊎ (m < n)
    m_cases m n h = grind arith

    go : (m ≡ n) ⊎ (m < n) → (last : (t : Step) × (slice_get steps n ≡ Some t)) → AllRight Instance g (last.0 ∷ first_steps n steps)
        → (AllRight Instance g (first_steps n steps) → m < n → Right Instance g (first_steps m steps) s) → Right Instance g (first_steps m steps) s
    go (inl z) last both again =
        let same : last.0 ≡ s = same_Some _ _ (sym last.1 ∙ ap (slice_get steps) (sym z) ∙ e) in
        subst (λ (k : ℕ). Right Instance g (first_steps k steps) s) (sym z) (subst (λ (t : Step). Right Instance g (first_steps n steps) t) same both.0)
    go (inr z) last both again = again both.1 z

pub accepted_not_rejected : (Instance : Instances) → AcceptedNotRejected Instance
accepted_not_rejected Instance g a b steps n derives rejects = go rejects.wrong
  where
    go : ((s : Step) × (slice_get steps rejects.before ≡ Some s) × (Right Instance g (first_steps rejects.before steps) s → ⊥))
        ⊎ ((rejects.before ≡ length steps) × (IsConcluded (first_steps rejects.before steps) a b → ⊥)) → ⊥
    go (inl h) = h.2 (right_at Instance g steps (length steps) rejects.before (omega arith) (subst (AllRight Instance g) (sym (whole_steps steps)) derives.0) (slice_get_within steps rejects.before h.0 h.1) h.0 h.1)
    go (inr h) = h.1 (subst (λ (q : List Step). IsConcluded q a b) (sym (ap (λ (k : ℕ). first_steps k steps) h.0 ∙ whole_steps steps)) derives.1)

-- the steps before the wrong one are within the section
before_within : (Instance : Instances) (g : Graph) (a b : ℕ) (steps : List Step) (n : ℕ) (r : Rejects Instance g a b steps n) → r.before ≤ length steps
before_within Instance g a b steps n r = go r.wrong
  where
    go : ((s : Step) × (slice_get steps r.before ≡ Some s) × (Right Instance g (first_steps r.before steps) s → ⊥))
        ⊎ ((r.before ≡ length steps) × (IsConcluded (first_steps r.before steps) a b → ⊥)) → r.before ≤ length steps
    go (inl h) = let z = slice_get_within steps r.before h.0 h.1 in omega (arith, z)
    go (inr h) = let z = h.0 in omega (arith, z)

-- no rejection comes before another
not_before : (Instance : Instances) (g : Graph) (a b : ℕ) (steps : List Step) (m n : ℕ) (p : Rejects Instance g a b steps m) (q : Rejects Instance g a b steps n) → p.before < q.before → ⊥
not_before Instance g a b steps m n p q low = go p.wrong
  where
    le : q.before ≤ length steps
    le = before_within Instance g a b steps n q

    go : ((s : Step) × (slice_get steps p.before ≡ Some s) × (Right Instance g (first_steps p.before steps) s → ⊥))
        ⊎ ((p.before ≡ length steps) × (IsConcluded (first_steps p.before steps) a b → ⊥)) → ⊥
    go (inl h) = h.2 (right_at Instance g steps q.before p.before le q.right low h.0 h.1)
    go (inr h) = let z = h.0 in absurd (omega (arith, z, le, low))

one_of : (p q : ℕ) → (p < q → ⊥) → (q < p → ⊥) → p ≡ q
one_of p q a b = go (cases p q)
  where
    cases : (p q : ℕ) → (p < q) ⊎ (q < p) ⊎ (p ≡ q)
    cases p q = grind arith

    go : (p < q) ⊎ (q < p) ⊎ (p ≡ q) → p ≡ q
    go (inl h) = absurd (a h)
    go (inr (inl h)) = absurd (b h)
    go (inr (inr h)) = h

pub rejected_once : (Instance : Instances) → RejectedOnce Instance
rejected_once Instance g a b steps m n p q =
    let same = one_of p.before q.before (not_before Instance g a b steps m n p q) (not_before Instance g a b steps n m q p) in
    p.number ∙ ap suc same ∙ sym q.number
