-- One action after the other: what is left to do after some of them.
use Rattle.std.proofs.Common.{◌≡◌, ℕ, zero, suc, List, Option, Some, None, refl, ap, sym, subst, ◌∙◌}
use Rattle.pv_block.proofs.Words.{slice_get, ◌>>=◌, Action, Program, IsAt, some_of, no_some, Node, acted, acted_along, Held, Entry, HoldsFor, Acts, ActsAlong}
use Rattle.pv_runs.specs.Held as parts

-- in parts, m actions are left from place j on, of the n from place k on: what is held in nodes after them stands for what is held there
abbrev pub Reaches : Program → ℕ → ℕ → ℕ → ℕ → List Node → Held → List Node → Held → Type 0
Reaches p n k m j old before new now = (at : Entry) (h g : parts.Held) → HoldsFor at old before h → acted_along p n k h ≡ Some g → (i : parts.Held) × HoldsFor at new now i × (acted_along p m j i ≡ Some g)

-- from what is held in parts the action goes on, and so do the others
record Goes (p : Program) (m j : ℕ) (a : Action) (i g : parts.Held) : Type 0 where
  next : parts.Held
  acts : acted a i ≡ Some next
  rest : acted_along p m (suc j) next ≡ Some g

goes : (p : Program) (m j : ℕ) (a : Action) (i g : parts.Held) → IsAt p j a → acted_along p (suc m) j i ≡ Some g → Goes p m j a i g
goes p m j a i g is e = go (acted a i) refl (ap (λ (o : Option Action). o >>= λ a. acted a i >>= λ g. acted_along p m (suc j) g) (sym is) ∙ e)
  where
    go : (o : Option parts.Held) → acted a i ≡ o → (o >>= λ g. acted_along p m (suc j) g) ≡ Some g → Goes p m j a i g
    go None q e = no_some g e
    go (Some next) q e = record { next = next; acts = q; rest = e }

module _ (p : Program) (n k m j : ℕ) (old mid : List Node) (before now : Held) (so_far : Reaches p n k (suc m) j old before mid now) where
  pub reaches_next : (a : Action) (new : List Node) (after : Held) → IsAt p j a → Acts a mid now new (Some after) → Reaches p n k m (suc j) old before new after
  reaches_next a new after is acts at h g x e =
      let r = so_far at h g x e in
      let s = goes p m j a r.0 g is r.2 in
      let t = acts at r.0 s.next r.1 s.acts in
      (s.next, subst (λ (c : Held). HoldsFor at new c s.next) (some_of _ _ (sym t.1)) t.2, s.rest)

  pub stops : (a : Action) (new : List Node) → IsAt p j a → Acts a mid now new None → ActsAlong p n k old before new None
  stops a new is acts at h g x e =
      let r = so_far at h g x e in
      let s = goes p m j a r.0 g is r.2 in
      let t = acts at r.0 s.next r.1 s.acts in
      no_some _ t.1

  pub runs_out : (new : List Node) → slice_get p.actions j ≡ None → ActsAlong p n k old before new None
  runs_out new is at h g x e =
      let r = so_far at h g x e in
      no_some g (ap (λ (o : Option Action). o >>= λ a. acted a r.0 >>= λ g. acted_along p m (suc j) g) (sym is) ∙ r.2)

pub reaches_last : (p : Program) (n k j : ℕ) (old new : List Node) (before now : Held) → Reaches p n k zero j old before new now → ActsAlong p n k old before new (Some now)
reaches_last p n k j old new before now r at h g x e =
    let s = r at h g x e in
    (now, refl, subst (HoldsFor at new now) (some_of _ _ s.2) s.1)
