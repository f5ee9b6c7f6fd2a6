-- A worked example: iload_0, istore_1, iload_1, ireturn.
use Rattle.std.proofs.Common.{◌≡◌, ℕ, zero, suc, false, [], ◌∷◌, Some, refl, sym, ◌∙◌, subst, inl, inr}
use Rattle.std.specs.Prelude.{slice_get, Contains}
use Rattle.pv_value.specs.declared.descriptor.JType.TheVariants.{I}
use Rattle.pv_frame.specs.declared.sort.Sort.{Sort}
use Rattle.pv_frame.specs.declared.sort.Sort.TheVariants as sort
use Rattle.pv_frame.specs.declared.action.Action.{Action}
use Rattle.pv_frame.specs.declared.action.Action.TheVariants as act
use Rattle.pv_frame.specs.declared.program.Program.{Program}
use Rattle.pv_frame.specs.Effects.{successors}
use Rattle.pv_frame.specs.Programs.{IsAt}
use Rattle.pv_frame.proofs.Cited.{some_of, no_some, contains_none, contains_cases}
use Rattle.pv_live.specs.Live.{Reads, Writes, Live, read, later}
use Rattle.pv_live.specs.Needed.{IsNeededSort, IsNeededFrame}

abbrev copies : Program
copies = record {
  actions = act.Load sort.Int 0 ∷ act.Store sort.Int 1 ∷ act.Load sort.Int 1 ∷ act.Give (Some sort.Int) ∷ [];
  instance = false;
  desc = record { params = I ∷ []; result = Some I };
  max_stack = 1;
  max_locals = 2;
}

-- what the instruction at a place neither reads nor leaves live isn't live there
not_live : (p : Program) (k x : ℕ) (a : Action) → IsAt p k a → (Reads a x → ⊥) → ((Writes a x → ⊥) → (j : ℕ) → Contains (successors k a) j → Live p j x → ⊥) → Live p k x → ⊥
not_live p k x a at unread dead (read _ _ b is r) = unread (subst (λ (c : Action). Reads c x) (some_of _ _ (sym is ∙ at)) r)
not_live p k x a at unread dead (later _ _ b j is w among l) =
    let one : b ≡ a = some_of _ _ (sym is ∙ at) in
    dead (subst (λ (c : Action). Writes c x → ⊥) one w) j (subst (λ (c : Action). Contains (successors k c) j) one among) l

-- nothing is live before the return
last_dead : (x : ℕ) → Live copies 3 x → ⊥
last_dead x = not_live copies 3 x (act.Give (Some sort.Int)) refl (λ r. r) (λ w j among l. contains_none j among)

-- at the second load local 1 is live, and no other
third_live : Live copies 2 1
third_live = read 2 1 (act.Load sort.Int 1) refl refl

third_dead : Live copies 2 0 → ⊥
third_dead = not_live copies 2 0 (act.Load sort.Int 1) refl (λ r. absurd (cc)) (λ w j among l. elim (contains_cases 3 j [] among) [ inl e ↦ last_dead 0 (subst (λ (k : ℕ). Live copies k 0) (sym e) l) | inr more ↦ contains_none j more ])

-- at the store local 0 isn't live any more, and local 1 not yet
second_dead : Live copies 1 0 → ⊥
second_dead = not_live copies 1 0 (act.Store sort.Int 1) refl (λ r. r) (λ w j among l. elim (contains_cases 2 j [] among) [ inl e ↦ third_dead (subst (λ (k : ℕ). Live copies k 0) (sym e) l) | inr more ↦ contains_none j more ])

second_not_yet : Live copies 1 1 → ⊥
second_not_yet = not_live copies 1 1 (act.Store sort.Int 1) refl (λ r. r) (λ w j among l. w refl)

-- at the first load local 0 is live, and local 1 isn't
first_live : Live copies 0 0
first_live = read 0 0 (act.Load sort.Int 0) refl refl

first_dead : Live copies 0 1 → ⊥
first_dead = not_live copies 0 1 (act.Load sort.Int 0) refl (λ r. absurd (cc)) (λ w j among l. elim (contains_cases 1 j [] among) [ inl e ↦ second_not_yet (subst (λ (k : ℕ). Live copies k 1) (sym e) l) | inr more ↦ contains_none j more ])

-- of the frame at the second load, which knows both locals, what is needed knows local 1 alone
third_needed : IsNeededFrame copies 2 (record { stack = []; locals = sort.Int ∷ sort.Int ∷ [] }) (record { stack = []; locals = sort.Unknown ∷ sort.Int ∷ [] })
third_needed = record { stack = refl; long = refl; locals = locals }
  where
    locals : (x : ℕ) (s t : Sort) → slice_get (sort.Int ∷ sort.Int ∷ []) x ≡ Some s → slice_get (sort.Unknown ∷ sort.Int ∷ []) x ≡ Some t → IsNeededSort copies 2 x s t
    locals zero s t a b = record { live = λ l. absurd (third_dead l); dead = λ d. sym (some_of _ _ b) }
    locals (suc zero) s t a b = record { live = λ l. sym (some_of _ _ b) ∙ some_of _ _ a; dead = λ d. absurd (d third_live) }
    locals (suc (suc x)) s t a b = no_some s a
