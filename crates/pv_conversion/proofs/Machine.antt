-- Blocks and the steps of a machine.
use Rattle.std.proofs.Common.{◌≡◌, ℕ, zero, suc, ◌+◌, ◌<◌, Option, ◌↔◌, refl, sym, ap, ◌∙◌, subst, arith}
use Rattle.pv_conversion.proofs.Words.{World, Input, Val, Outcome, Returned, Threw, Fault, Heap, Kind, Return, Throw, Dest, To, End, Exit, Flow, Steps, Runs, ends, goes, IsOutcome, EndsWith, Next, Stops, then, after, MachineEnds, Carries}
use Rattle.pv_value.specs.declared.number.Num.{Num}
use Rattle.pv_conversion.specs.Outcomes.{Goes}

pub outcome_once : (k : Kind) (τ : ℕ → Val) (o p : Outcome) → IsOutcome k τ o → IsOutcome k τ p → o ≡ p
outcome_once Return τ o p a b =
    let m : a.0 ≡ b.0 = (let x = a.3 in let y = b.3 in cc) in
    let n : a.1 ≡ b.1 = (let x = a.4 in let y = b.4 in cc) in
    a.5 ∙ ap (λ (m : Heap). Returned a.1 m) m ∙ ap (λ (n : Option Num). Returned n b.0) n ∙ sym b.5
outcome_once Throw τ o p a b =
    let m : a.1 ≡ b.1 = (let x = a.4 in let y = b.4 in cc) in
    let q : a.0 ≡ b.0 = (let x = a.3 in let y = b.3 in cc) in
    a.5 ∙ ap (λ (m : Heap). Threw a.0 m) m ∙ ap (λ (q : Fault). Threw q b.1) q ∙ sym b.5

module _ (S : Type 0) (step : S → Next S) where
  pub after_add : (n : ℕ) (s t : S) (m : ℕ) (o : Outcome) → after step n s ≡ Goes t → after step m t ≡ Stops o → MachineEnds step s o
  after_add zero s t m o e h = (m, subst (λ (t : S). after step m t ≡ Stops o) (let z : t ≡ s = cc in z) h)
  after_add (suc n) s t m o e h = let r = next (step s) e (λ u e. after_add n u t m o e h) in (suc r.0, r.1)
    where
      next : (q : Next S) → then q (λ u. after step n u) ≡ Goes t → ((u : S) → after step n u ≡ Goes t → MachineEnds step u o) → (k : ℕ) × (then q (λ u. after step k u) ≡ Stops o)
      next (Goes u) e ih = ih u e
      next (Stops p) e ih = absurd (cc)

  -- a machine that ends in n steps, and is at t after k steps, ends from t in the others
  pub after_rest : (k n : ℕ) (s t : S) (o : Outcome) → after step k s ≡ Goes t → after step n s ≡ Stops o → (m : ℕ) × (m + k ≡ n) × (after step m t ≡ Stops o)
  after_rest zero n s t o e h = (n, omega arith, subst (λ (t : S). after step n t ≡ Stops o) (let z : s ≡ t = cc in z) h)
  after_rest (suc k) zero s t o e h = absurd (cc)
  after_rest (suc k) (suc n) s t o e h = let r = next (step s) e h (λ u e h. after_rest k n u t o e h) in (r.0, (let z = r.1 in omega arith), r.2)
    where
      next : (q : Next S) → then q (λ u. after step k u) ≡ Goes t → then q (λ u. after step n u) ≡ Stops o → ((u : S) → after step k u ≡ Goes t → after step n u ≡ Stops o → (m : ℕ) × (m + k ≡ n) × (after step m t ≡ Stops o))
          → (m : ℕ) × (m + k ≡ n) × (after step m t ≡ Stops o)
      next (Goes u) e h ih = ih u e h
      next (Stops p) e h ih = absurd (cc)

  pub after_once : (k n : ℕ) (s : S) (o p : Outcome) → after step k s ≡ Stops o → after step n s ≡ Stops p → o ≡ p
  after_once zero n s o p e h = absurd (cc)
  after_once (suc k) zero s o p e h = absurd (cc)
  after_once (suc k) (suc n) s o p e h = next (step s) e h (λ u e h. after_once k n u o p e h)
    where
      next : (q : Next S) → then q (λ u. after step k u) ≡ Stops o → then q (λ u. after step n u) ≡ Stops p → ((u : S) → after step k u ≡ Stops o → after step n u ≡ Stops p → o ≡ p) → o ≡ p
      next (Goes u) e h ih = ih u e h
      next (Stops q) e h ih = cc

  module _ (w : World) (x : Input) (f : Flow) (At : ℕ → (ℕ → Val) → S → Type 0) (carries : Carries w x f S step At) where
    -- blocks to machine
    blocks_end : (k : Kind) (τ : ℕ → Val) (b : ℕ) (σ : ℕ → Val) → Runs w x f k τ b σ → (o : Outcome) → IsOutcome k τ o → (s : S) → At b σ s → MachineEnds step s o
    blocks_end k τ b σ (ends c χ e st d) o out s at' =
        let r = carries.finishes c χ τ e k s at' st d in (r.0, r.2 ∙ ap Stops (outcome_once k τ r.1 o r.3 out))
    blocks_end k τ b σ (goes c m χ ρ e st d rest) o out s at' =
        let r = carries.goes_on c m χ ρ e s at' st d in
        let q = blocks_end k τ m ρ rest o out r.1 r.3 in
        after_add (suc r.0) s r.1 q.0 o r.2 q.1

    -- machine to blocks
    machine_ends : (N : ℕ) (b : ℕ) (σ : ℕ → Val) (s : S) (o : Outcome) → At b σ s → (n : ℕ) → n < N → after step n s ≡ Stops o → EndsWith w x f b σ o
    machine_ends zero b σ s o at' n less h = absurd (omega arith)
    machine_ends (suc N) b σ s o at' n less h = stepped (carries.not_stuck b σ s o at' (n, h)) (λ m τ t a k l z. machine_ends N m τ t o a k l z)
      where
        stepped : (e : Exit) × (τ : ℕ → Val) × Steps w x f b σ e τ → ((m : ℕ) (τ : ℕ → Val) (t : S) → At m τ t → (k : ℕ) → k < N → after step k t ≡ Stops o → EndsWith w x f m τ o) → EndsWith w x f b σ o
        stepped (e, τ, st) ih = to e.dest refl
          where
            to : (d : Dest) → e.dest ≡ d → EndsWith w x f b σ o
            to (End k) d =
                let r = carries.finishes b σ τ e k s at' st d in
                (k, τ, ends b σ e st d, subst (IsOutcome k τ) (after_once r.0 n s r.1 o r.2 h) r.3)
            to (To m) d =
                let r = carries.goes_on b m σ τ e s at' st d in
                let q = after_rest (suc r.0) n s r.1 o r.2 h in
                let z = ih m τ r.1 r.3 q.0 (let y = q.1 in omega arith) q.2 in
                (z.0, z.1, goes b m σ τ e st d z.2, z.3)

    -- BLOCKS AND MACHINE: both end with the same outcomes
    pub blocks_machine : (b : ℕ) (σ : ℕ → Val) (s : S) (o : Outcome) → At b σ s → EndsWith w x f b σ o ↔ MachineEnds step s o
    blocks_machine b σ s o at' = ((λ h. blocks_end h.0 h.1 b σ h.2 o h.3 s at'), (λ h. machine_ends (suc h.0) b σ s o at' h.0 (omega arith) h.1))
