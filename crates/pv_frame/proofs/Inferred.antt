-- The frames that are inferred are one list.
use Rattle.std.proofs.Common.{◌≡◌, ℕ, zero, suc, ◌<◌, List, [], ◌∷◌, length, get_or, Option, Some, None, ◌∙◌, refl, ap, sym, subst, inl, inr, arith, ◌⊎◌, slice_get, Contains}
use Rattle.pv_frame.proofs.Words.{AllZip, AllByRecursion, slice_get_within, same_lists, Sort, Action, successors, Program, IsAt, Frame, Flows, IsFrameAt, LeadsTo, IsEnd, Leaves, GoesOn, IsTyped, Agrees, Reached, first, next, IsInferred}
use Rattle.pv_frame.specs.declared.action.Action.TheVariants as act
use Rattle.pv_frame.proofs.FrameLaws.{Less, some_of, no_some}

pub all_contains : {A : Type 0} (P : A → Type 0) (xs : List A) (x : A) → AllByRecursion P xs → (i : ℕ) → i < length xs → get_or xs i x ≡ x → P x
all_contains P [] x all i h e = absurd (omega arith)
all_contains P (y ∷ xs) x all zero h e = subst P e all.0
all_contains P (y ∷ xs) x all (suc i) h e = all_contains P xs x all.1 i (omega arith) e

-- what an instruction at a place does there
pub typed_goes : (p : Program) (frames : List (Option Frame)) (k : ℕ) (f : Frame) (a : Action) → IsAt p k a → IsTyped p frames k f → Leaves p a f ⊎ GoesOn frames k a f
typed_goes p frames k f a at typed = subst (λ (x : Action). Leaves p x f ⊎ GoesOn frames k x f) (some_of _ _ (sym typed.at ∙ at)) typed.goes

-- an instruction that ends the method leads nowhere
pub leads_nowhere : (p : Program) (k : ℕ) (a : Action) → IsEnd p a → successors k a ≡ []
leads_nowhere p k (act.Give s) h = refl
leads_nowhere p k act.Throw h = refl
leads_nowhere p k a h = elim h [ ]

not_in_none : (xs : List ℕ) (j : ℕ) → xs ≡ [] → Contains xs j → ⊥
not_in_none [] j e (i, h, is) = omega arith
not_in_none (x ∷ xs) j e among = cc

-- where an instruction is reached, frames that agree have a frame
pub reached_frame : (p : Program) (frames : List (Option Frame)) → Agrees p frames → (k : ℕ) → Reached p k → (f : Frame) × IsFrameAt frames k f
reached_frame p frames agrees k first = (agrees.entry.target, agrees.entry.there)
reached_frame p frames agrees k (next i j a reached at among) =
    let source = reached_frame p frames agrees i reached in
    elim (typed_goes p frames i source.0 a at (agrees.each i source.0 source.1)) [
      | inl leaves ↦ absurd (not_in_none (successors i a) j (leads_nowhere p i a leaves.0) among)
      | inr on ↦ let edge = all_contains (LeadsTo frames on.after) (successors i a) j on.edges among.0 among.1 among.2 in (edge.target, edge.there)
    ]

-- frames that flow to each other are one
less_both : (s t : Sort) → Less s t → Less t s → s ≡ t
less_both s t (inl e) q = sym e
less_both s t (inr e) (inl d) = d
less_both s t (inr e) (inr d) = d ∙ sym e

all_less_both : (l m : List Sort) → AllZip Less l m → AllZip Less m l → l ≡ m
all_less_both [] [] p q = refl
all_less_both [] (t ∷ m) p q = elim p [ ]
all_less_both (s ∷ l) [] p q = elim p [ ]
all_less_both (s ∷ l) (t ∷ m) p q =
    let head = less_both s t p.0 q.0 in
    let tail = all_less_both l m p.1 q.1 in
    cc (head, tail)

flows_both : (f g : Frame) → Flows f g → Flows g f → f ≡ g
flows_both f g p q = λ i. record { stack = q.stack i; locals = all_less_both f.locals g.locals p.locals q.locals i }

-- past the end of one list is past the end of one that is as long
past : {A : Type 0} (xs ys : List A) (k : ℕ) (x : A) → length xs ≡ length ys → slice_get xs k ≡ None → slice_get ys k ≡ Some x → ⊥
past [] ys k x e none some = let within = slice_get_within ys k x some in omega arith
past (y ∷ xs) [] k x e none some = no_some x some
past (y ∷ xs) (z ∷ ys) zero x e none some = no_some y (sym none)
past (y ∷ xs) (z ∷ ys) (suc k) x e none some = past xs ys k x (omega arith) none some

some_none : {A P : Type 0} (f : A) → Some (Some f) ≡ Some None → P
some_none f e = absurd (cc)

module _ (p : Program) (a b : List (Option Frame)) (ia : IsInferred p a) (ib : IsInferred p b) where
  abbrev Same : ℕ → Option (Option Frame) → Option (Option Frame) → Type 0
  Same k x y = slice_get a k ≡ x → slice_get b k ≡ y → x ≡ y

  same_at : (k : ℕ) (x y : Option (Option Frame)) → Same k x y
  same_at k None None d e = refl
  same_at k None (Some y) d e = absurd (past a b k y (ia.well_typed.one_each ∙ sym ib.well_typed.one_each) d e)
  same_at k (Some x) None d e = absurd (past b a k x (ib.well_typed.one_each ∙ sym ia.well_typed.one_each) e d)
  same_at k (Some None) (Some None) d e = refl
  same_at k (Some (Some f)) (Some None) d e = let g = reached_frame p b ib.well_typed.agrees k (ia.well_typed.reached k f d) in some_none g.0 (sym g.1 ∙ e)
  same_at k (Some None) (Some (Some g)) d e = let f = reached_frame p a ia.well_typed.agrees k (ib.well_typed.reached k g e) in some_none f.0 (sym f.1 ∙ d)
  same_at k (Some (Some f)) (Some (Some g)) d e = ap (λ (x : Frame). Some (Some x)) (flows_both f g (ia.fewest b ib.well_typed.agrees k f g d e) (ib.fewest a ia.well_typed.agrees k g f e d))

  pub inferred_once : a ≡ b
  inferred_once = same_lists a b (λ k. same_at k (slice_get a k) (slice_get b k) refl refl)
