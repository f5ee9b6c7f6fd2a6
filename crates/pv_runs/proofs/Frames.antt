-- Inferred frames have as many locals as the method, and no more operands than its stack has room for.
use Rattle.std.proofs.Common.{◌≡◌, ℕ, zero, suc, ◌-◌, ◌≤◌, true, false, List, [], ◌∷◌, length, replicate, Option, Some, None, refl, ap, sym, subst, ◌∙◌, inl, inr, arith, if◌then◌else◌}
use Rattle.pv_runs.proofs.Words.{option_map, Contains, AllByRecursion, sum_by, length-append, length-replicate, ◌>>=◌, Sort, Action, Program, Frame, is_wide, width, popped, moved, has_room, first_cleared, set_local, takes, gives, successors, same, holds, pushed, padded_sorts, passed_to, frame_done, frame_after, IsFrameAt, LeadsTo, IsEnd, Reached, first, next, AreFrames, some_of, no_some, if_some, framed, contains_cases, contains_none}
use Rattle.std.proofs.lemmas.List.Sums.{sum_by-cons}
use Rattle.std.proofs.lemmas.Slice.Zip.{AllZip-long}
use Rattle.pv_frame.specs.declared.sort.Sort.TheVariants as sort
use Rattle.pv_frame.specs.declared.action.Action.TheVariants as act

-- ---- an action leaves as many locals

set_long : (k : ℕ) (s : Sort) (l : List Sort) → length (set_local same sort.Unknown k s l) ≡ length l
set_long k s [] = refl
set_long zero s (a ∷ l) = elim (is_wide s) as (λ b. suc (length (if b then first_cleared sort.Unknown l else l)) ≡ suc (length l)) [ true ↦ ap suc (cleared l) | false ↦ refl ]
  where
    cleared : (l : List Sort) → length (first_cleared sort.Unknown l) ≡ length l
    cleared [] = refl
    cleared (b ∷ l) = refl
set_long (suc zero) s (a ∷ l) = ap suc (set_long zero s l)
set_long (suc (suc k)) s (a ∷ l) = ap suc (set_long (suc k) s l)

long_of : (f h : Frame) (n : ℕ) → length f.locals ≡ n → f ≡ h → length h.locals ≡ n
long_of f h n is e = ap (λ (x : Frame). length x.locals) (sym e) ∙ is

done_long : (a : Action) (stack l : List Sort) (h : Frame) → frame_done a (framed stack l) ≡ Some h → length h.locals ≡ length l
done_long (act.Load s k) stack l h e = long_of _ h _ refl (if_some (holds _ s) (framed (s ∷ stack) l) h e).1
done_long (act.Store s k) stack l h e = long_of _ h _ (set_long k s l) (if_some (has_room s k l) (framed stack (set_local same sort.Unknown k s l)) h e).1
done_long (act.Increase k n) stack l h e = long_of _ h _ refl (if_some (holds _ sort.Int) (framed stack l) h e).1
done_long (act.Move m) stack l h e = elim (moved same m stack) as (λ o. option_map (λ (st : List Sort). framed st l) o ≡ Some h → length h.locals ≡ length l) [
  | None ↦ λ e. no_some h e
  | Some st ↦ λ e. long_of (framed st l) h _ refl (some_of _ _ e)
] e
done_long (act.Give s) stack l h e = no_some h e
done_long act.Throw stack l h e = no_some h e
done_long a stack l h e = long_of (pushed (gives a) (framed stack l)) h _ refl (some_of _ _ e)

after_long : (a : Action) (f h : Frame) → frame_after a f ≡ Some h → length h.locals ≡ length f.locals
after_long a f h e = elim (popped same (takes a) f.stack) as (λ o. (o >>= λ x. frame_done a (framed x.1 f.locals)) ≡ Some h → length h.locals ≡ length f.locals) [
  | None ↦ λ e. no_some h e
  | Some q ↦ λ e. done_long a q.1 f.locals h e
] e

-- ---- frames along edges

pub no_successor : (p : Program) (k j : ℕ) (a : Action) → IsEnd p a → Contains (successors k a) j → ⊥
no_successor p k j (act.Give s) e among = contains_none j among
no_successor p k j act.Throw e among = contains_none j among
no_successor p k j a e among = e

pub each_of : (P : ℕ → Type 0) (xs : List ℕ) (x : ℕ) → AllByRecursion P xs → Contains xs x → P x
each_of P [] x all among = absurd (contains_none x among)
each_of P (y ∷ xs) x all among = elim (contains_cases y x xs among) [ inl e ↦ subst P e all.0 | inr more ↦ each_of P xs x all.1 more ]

padded_long : (n : ℕ) (sorts : List Sort) → length sorts ≤ n → length (padded_sorts n sorts) ≡ n
padded_long n sorts fits = omega (arith, length-append sorts (replicate (n - length sorts) sort.Unknown), length-replicate (n - length sorts) sort.Unknown)

narrower : (stack : List Sort) → length stack ≤ sum_by width stack
narrower [] = omega arith
narrower (s ∷ stack) = let rest = narrower stack in let all = sum_by-cons width s stack in elim (is_wide s) as (λ b. is_wide s ≡ b → length (s ∷ stack) ≤ sum_by width (s ∷ stack)) [
  | true ↦ λ e. let two : width s ≡ 2 = ap (λ (b : _). if b then 2 else 1) e in omega (arith, rest, all, two)
  | false ↦ λ e. let one : width s ≡ 1 = ap (λ (b : _). if b then 2 else 1) e in omega (arith, rest, all, one)
] refl

module _ (p : Program) (frames : List (Option Frame)) (is : AreFrames p frames) where
  -- the frame where an instruction is reached
  record Long (k : ℕ) : Type 0 where
    frame : Frame
    there : IsFrameAt frames k frame
    long : length frame.locals ≡ p.max_locals

  reached_long : (k : ℕ) → Reached p k → Long k
  reached_long _ first =
      let e = is.agrees.entry in
      record { frame = e.target; there = e.there; long = AllZip-long _ _ e.target.locals e.flows.locals ∙ padded_long p.max_locals (passed_to p) is.agrees.passed }
  reached_long _ (next k j a r at among) = on (reached_long k r)
    where
      on : Long k → Long j
      on f =
          let t = is.agrees.each k f.frame f.there in
          let same_action : t.action ≡ a = some_of t.action a (sym t.at ∙ at) in
          let leads : Contains (successors k t.action) j = subst (λ (a : Action). Contains (successors k a) j) (sym same_action) among in
          elim t.goes [
            | inl ends ↦ absurd (no_successor p k j t.action ends.0 leads)
            | inr goes ↦
                let e = each_of (LeadsTo frames goes.after) (successors k t.action) j goes.edges leads in
                record { frame = e.target; there = e.there; long = AllZip-long _ _ e.target.locals e.flows.locals ∙ after_long t.action f.frame goes.after goes.is ∙ f.long }
          ]

  pub frame_long : (k : ℕ) (f : Frame) → IsFrameAt frames k f → length f.locals ≡ p.max_locals
  frame_long k f there =
      let l = reached_long k (is.reached k f there) in
      ap (λ (f : Frame). length f.locals) (some_of f l.frame (some_of (Some f) (Some l.frame) (sym there ∙ l.there))) ∙ l.long

  pub frame_room : (k : ℕ) (f : Frame) → IsFrameAt frames k f → length f.stack ≤ p.max_stack
  frame_room k f there = let t = is.agrees.each k f there in let le = narrower f.stack in omega (arith, le, t.room)
