-- A part has one value, and the tests choose one exit; where a block waits they choose none with a token.
use Rattle.std.proofs.Common.{◌≡◌, ℕ, true, false, List, ◌∷◌, Some, ◌⊎◌, ap, sym, subst, ◌∙◌, inl, inr}
use Rattle.pv_outcomes.proofs.Words.{World, Input, Val, strict, truth, Part, Parts, Slot, Of, NoPart, More, Exit, Chain, Leave, Test, PartIs, PartsAre, Chooses, Waits}

module _ (w : World) (x : Input) (σ : ℕ → Val) where
  mutual
    pub part_once : (q : Part) (u v : Val) → PartIs w x σ q u → PartIs w x σ q v → u ≡ v
    part_once (Slot s) u v a b = sym a ∙ b
    part_once (Of o p ps) u v a b =
        let same = parts_once ps a.0 b.0 a.1 b.1 in
        let z : Some u ≡ Some v = sym a.2 ∙ ap (λ (vs : List Val). strict w x o vs) same ∙ b.2 in
        cc

    pub parts_once : (ps : Parts) (us vs : List Val) → PartsAre w x σ ps us → PartsAre w x σ ps vs → us ≡ vs
    parts_once NoPart us vs a b = a ∙ sym b
    parts_once (More q ps) us vs a b =
        let first = part_once q a.0 b.0 a.2 b.2 in
        let rest = parts_once ps a.1 b.1 a.3 b.3 in
        a.4 ∙ ap (λ (u : Val). u ∷ a.1) first ∙ ap (λ (us : List Val). b.0 ∷ us) rest ∙ sym b.4

  pub chooses_once : (c : Chain) (d e : Exit) → Chooses w x σ c d → Chooses w x σ c e → d ≡ e
  chooses_once (Leave f) d e a b = sym a ∙ b
  chooses_once (Test t f c) d e a b = go (part_once t a.0 b.0 a.1 b.1) a.2 b.2 (λ p q. chooses_once c d e p q)
    where
      go : a.0 ≡ b.0 → ((truth a.0 ≡ Some true) × (f ≡ d)) ⊎ ((truth a.0 ≡ Some false) × Chooses w x σ c d) → ((truth b.0 ≡ Some true) × (f ≡ e)) ⊎ ((truth b.0 ≡ Some false) × Chooses w x σ c e)
          → (Chooses w x σ c d → Chooses w x σ c e → d ≡ e) → d ≡ e
      go z (inl p) (inl q) ih = sym p.1 ∙ q.1
      go z (inr p) (inr q) ih = ih p.1 q.1
      go z (inl p) (inr q) ih = absurd (let y : truth a.0 ≡ truth b.0 = ap truth z in let k = p.0 in let l = q.0 in cc)
      go z (inr p) (inl q) ih = absurd (let y : truth a.0 ≡ truth b.0 = ap truth z in let k = p.0 in let l = q.0 in cc)

  -- where a block waits for a call, no exit with a token is chosen
  pub waits_on : (c : Chain) (e : Exit) (v : Val) → Waits w x σ c → Chooses w x σ c e → PartIs w x σ (e.slots 0) v → ⊥
  waits_on (Leave d) e v h ch i = h.1 v (subst (λ (e : Exit). PartIs w x σ (e.slots 0) v) (sym ch) i)
  waits_on (Test t d c) e v h (u, is, inl (holds, same)) i =
      let fails = (h.0 v (subst (λ (e : Exit). PartIs w x σ (e.slots 0) v) (sym same) i)).1 in
      let one = ap truth (part_once t u fails.0 is fails.1) in
      absurd (let f = fails.2 in cc)
  waits_on (Test t d c) e v h (u, is, inr (n, ch)) i = waits_on c e v h.1 ch i
