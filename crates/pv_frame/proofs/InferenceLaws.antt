-- The frames so far, from the entry on until no place waits.
use Rattle.std.proofs.Common.{◌≡◌, ℕ, zero, suc, ◌+◌, ◌-◌, ◌≤◌, ◌<◌, true, false, List, [], ◌∷◌, ◌++◌, length, replicate, Option, Some, None, refl, sym, ap, ◌∙◌, subst, inl, inr, arith, get_or, length-append, ◌⊎◌, slice_get, sum_by, option_map, Contains, if◌then◌else◌, Result, Ok, Err}
use Rattle.pv_frame.proofs.Words.{AllByRecursion, length-replicate, Contains-push_cases, slice_get_within, slice_get_read, all_map, ◌>>=◌}
use Rattle.pv_frame.proofs.Words.{Sort, Action, Program, Frame, is_wide, width, popped, moved, first_cleared, has_room, set_local, takes, gives, successors, IsAt, same, pushed, holds, padded_sorts, passed_to, entry_frame, frame_done, frame_after, Flows, IsFrameAt, LeadsTo, Leaves, GoesOn, IsTyped, Agrees, HasFrames, Reached, first, next, IsInferred, Untyped, FoundOr, weight, HaveLocals}
use Rattle.pv_frame.proofs.Words.{Within, Follows, Clashes, Inferring, Visits}
use Rattle.pv_frame.specs.declared.sort.Sort.TheVariants as sort
use Rattle.pv_frame.specs.declared.action.Action.TheVariants as act
use Rattle.pv_frame.specs.declared.stop.Untyped.TheVariants as untyped
use Rattle.pv_frame.proofs.FrameLaws.{some_of, no_some, if_some, framed, goes_from}
use Rattle.pv_frame.proofs.Inferred.{typed_goes, leads_nowhere}
use Rattle.pv_frame.proofs.Lists.{contains_first, contains_more, contains_cases, contains_none}
use Rattle.pv_frame.proofs.Edges.{leads_from, leads_below}

-- ---- the number of locals stays

first_cleared_length : (l : List Sort) → length (first_cleared sort.Unknown l) ≡ length l
first_cleared_length [] = refl
first_cleared_length (s ∷ l) = refl

set_local_length : (k : ℕ) (s : Sort) (l : List Sort) → length (set_local same sort.Unknown k s l) ≡ length l
set_local_length k s [] = refl
set_local_length zero s (a ∷ l) = elim (is_wide s) as (λ b. suc (length (if b then first_cleared sort.Unknown l else l)) ≡ suc (length l)) [ true ↦ ap suc (first_cleared_length l) | false ↦ refl ]
set_local_length (suc zero) s (a ∷ l) = ap suc (set_local_length zero s l)
set_local_length (suc (suc k)) s (a ∷ l) = ap suc (set_local_length (suc k) s l)

same_length : (l : List Sort) (f h : Frame) → f.locals ≡ l → f ≡ h → length h.locals ≡ length l
same_length l f h is e = ap (λ (x : Frame). length x.locals) (sym e) ∙ ap length is

done_locals : (a : Action) (stack l : List Sort) (h : Frame) → frame_done a (framed stack l) ≡ Some h → length h.locals ≡ length l
done_locals (act.Load s k) stack l h e = let found = if_some (holds (slice_get l k) s) (framed (s ∷ stack) l) h e in same_length l _ h refl found.1
done_locals (act.Store s k) stack l h e =
    let found = if_some (has_room s k l) (framed stack (set_local same sort.Unknown k s l)) h e in
    same_length (set_local same sort.Unknown k s l) (framed stack (set_local same sort.Unknown k s l)) h refl found.1 ∙ set_local_length k s l
done_locals (act.Increase k n) stack l h e = let found = if_some (holds (slice_get l k) sort.Int) (framed stack l) h e in same_length l _ h refl found.1
done_locals (act.Move mv) stack l h e =
    elim (moved same mv stack) as (λ o. option_map (λ (st : List Sort). framed st l) o ≡ Some h → length h.locals ≡ length l) [
      | None ↦ λ e. no_some h e
      | Some st ↦ λ e. same_length l (framed st l) h refl (some_of _ _ e)
    ] e
done_locals (act.Give s) stack l h e = no_some h e
done_locals act.Throw stack l h e = no_some h e
done_locals a stack l h e = same_length l (pushed (gives a) (framed stack l)) h refl (some_of _ _ e)

after_locals : (a : Action) (f h : Frame) → frame_after a f ≡ Some h → length h.locals ≡ length f.locals
after_locals a f h e =
    elim (popped same (takes a) f.stack) as (λ o. (o >>= λ x. frame_done a (framed x.1 f.locals)) ≡ Some h → length h.locals ≡ length f.locals) [
      | None ↦ λ e. no_some h e
      | Some q ↦ λ e. done_locals a q.1 f.locals h e
    ] e

-- ---- lists of frames that agree

agrees_within : (p : Program) (others : List (Option Frame)) → Agrees p others → Within (length p.actions) others
agrees_within p others agrees k f at = let typed = agrees.each k f at in slice_get_within p.actions k typed.action typed.at

-- ---- the entry

padded_length : (n : ℕ) (sorts : List Sort) → length sorts ≤ n → length (padded_sorts n sorts) ≡ n
padded_length n sorts fits = omega (arith, length-append sorts (replicate (n - length sorts) sort.Unknown), length-replicate (n - length sorts) sort.Unknown)

none_at : (n k : ℕ) (f : Frame) → slice_get (replicate n None) k ≡ Some (Some f) → ⊥
none_at zero k f e = cc
none_at (suc n) zero f e = cc
none_at (suc n) (suc k) f e = none_at n k f e

pub starts : (p : Program) (frames : List (Option Frame)) (work : List ℕ) → length (passed_to p) ≤ p.max_locals → Follows (replicate (length p.actions) None) [] (entry_frame p) (0 ∷ []) frames work → Inferring p frames work
starts p frames work passed f = record {
  passed = passed;
  one_each = f.long ∙ length-replicate (length p.actions) None;
  locals = λ k g at. f.locals k g at ∙ padded_length p.max_locals (passed_to p) passed;
  entry = f.leads.0;
  settled = λ k g at. elim (f.changed k g at) [ inl was ↦ absurd (none_at (length p.actions) k g was) | inr new ↦ inl new.0 ];
  reached = λ k g at. elim (f.changed k g at) [
    | inl was ↦ absurd (none_at (length p.actions) k g was)
    | inr new ↦ elim (contains_cases 0 k [] new.1) [ inl e ↦ subst (Reached p) e first | inr other ↦ absurd (contains_none k other) ]
  ];
  fewest = λ others agrees. f.needed others (λ k g at. absurd (none_at (length p.actions) k g at)) (agrees.entry, tt);
}

pub starts_not : (p : Program) → Clashes (replicate (length p.actions) None) (entry_frame p) (0 ∷ []) → HasFrames p → ⊥
starts_not p clash (others, agrees) =
    clash others (λ k f at. let inside = agrees_within p others agrees k f at in let long = length-replicate {A = Option Frame} (length p.actions) None in omega arith) (λ k g at. absurd (none_at (length p.actions) k g at)) (agrees.entry, tt)

-- the same frames, while other places wait
waits_for : (p : Program) (frames : List (Option Frame)) (work left : List ℕ) → Inferring p frames work → ((j : ℕ) (g : Frame) → IsFrameAt frames j g → Contains left j ⊎ IsTyped p frames j g) → Inferring p frames left
waits_for p frames work left i settled = record {
  passed = i.passed;
  one_each = i.one_each;
  locals = i.locals;
  entry = i.entry;
  settled = settled;
  reached = i.reached;
  fewest = i.fewest;
}

-- ---- a visit

module _ (p : Program) (frames : List (Option Frame)) (work : List ℕ) (k : ℕ) (i : Inferring p frames (k ∷ work)) where
  module _ (f : Frame) (at : IsFrameAt frames k f) (a : Action) (here : IsAt p k a) where
    frame_is : (g : Frame) → IsFrameAt frames k g → g ≡ f
    frame_is g is = some_of g f (some_of _ _ (sym is ∙ at))

    -- its instruction ends the method
    pub visits_end : sum_by width f.stack ≤ p.max_stack → Leaves p a f → Visits p frames work frames work
    visits_end room leaves = record {
      inferring = waits_for p frames (k ∷ work) work i settled;
      lighter = omega arith;
    }
      where
        settled : (j : ℕ) (g : Frame) → IsFrameAt frames j g → Contains work j ⊎ IsTyped p frames j g
        settled j g is = elim (i.settled j g is) [
          | inr typed ↦ inr typed
          | inl waits ↦ elim (contains_cases k j work waits) [
            | inr more ↦ inl more
            | inl e ↦
                let same_frame : g ≡ f = frame_is g (subst (λ (x : ℕ). IsFrameAt frames x g) (sym e) is) in
                let typed : IsTyped p frames k f = record { action = a; at = here; room = room; goes = inl leaves } in
                inr (subst (λ (x : ℕ). IsTyped p frames x g) e (subst (λ (x : Frame). IsTyped p frames k x) (sym same_frame) typed))
          ]
        ]

    -- the frame of a list that agrees, at this place
    above : (others : List (Option Frame)) → Agrees p others → LeadsTo others f k
    above others agrees = i.fewest others agrees k f at

    pub no_room : (sum_by width f.stack ≤ p.max_stack → ⊥) → HasFrames p → ⊥
    no_room wide (others, agrees) =
        let up = above others agrees in
        let typed = agrees.each k up.target up.there in
        wide (subst (λ (s : List Sort). sum_by width s ≤ p.max_stack) up.flows.stack typed.room)

    pub no_after : (Leaves p a f → ⊥) → frame_after a f ≡ None → HasFrames p → ⊥
    no_after stays none (others, agrees) =
        let up = above others agrees in
        elim (typed_goes p others k up.target a here (agrees.each k up.target up.there)) [
          | inl leaves ↦ stays (leaves.0, subst (λ (s : List Sort). (operands : List Sort × List Sort) × (popped same (takes a) s ≡ Some operands)) up.flows.stack leaves.1)
          | inr on ↦ let goes = goes_from a f up.target on.after up.flows on.is in no_some goes.after (sym none ∙ goes.is)
        ]

    -- its edges in a list that agrees
    edges_of : (after : Frame) → frame_after a f ≡ Some after → (others : List (Option Frame)) → Agrees p others → AllByRecursion (LeadsTo others after) (successors k a)
    edges_of after is others agrees =
        let up = above others agrees in
        elim (typed_goes p others k up.target a here (agrees.each k up.target up.there)) [
          | inl leaves ↦ subst (λ (l : List ℕ). AllByRecursion (LeadsTo others after) l) (sym (leads_nowhere p k a leaves.0)) tt
          | inr on ↦
              let goes = goes_from a f up.target on.after up.flows on.is in
              let same_after : goes.after ≡ after = some_of _ _ (sym goes.is ∙ is) in
              let flows : Flows after on.after = subst (λ (x : Frame). Flows x on.after) same_after goes.flows in
              all_map (LeadsTo others on.after) (LeadsTo others after) (λ j edge. leads_from others after on.after j flows edge) (successors k a) on.edges
        ]

    pub after_have : (after : Frame) → frame_after a f ≡ Some after → HaveLocals (length after.locals) frames
    after_have after is j g is_at = i.locals j g is_at ∙ sym (after_locals a f after is ∙ i.locals k f at)

    pub visits_not : (after : Frame) → frame_after a f ≡ Some after → Clashes frames after (successors k a) → HasFrames p → ⊥
    visits_not after is clash (others, agrees) =
        clash others (λ j g there. let inside = agrees_within p others agrees j g there in let long = i.one_each in omega arith) (i.fewest others agrees) (edges_of after is others agrees)

    -- its edges are followed
    pub visits_on : (after : Frame) (now : List (Option Frame)) (left : List ℕ) → sum_by width f.stack ≤ p.max_stack → frame_after a f ≡ Some after → Follows frames work after (successors k a) now left → Visits p frames work now left
    visits_on after now left room is w = record {
      inferring = record {
        passed = i.passed;
        one_each = w.long ∙ i.one_each;
        locals = λ j g there. w.locals j g there ∙ long;
        entry = leads_below frames now (entry_frame p) 0 w.stays i.entry;
        settled = settled;
        reached = λ j g there. elim (w.changed j g there) [ inl was ↦ i.reached j g was | inr new ↦ next k j a (i.reached k f at) here new.1 ];
        fewest = λ others agrees. w.needed others (i.fewest others agrees) (edges_of after is others agrees);
      };
      lighter = subst (λ (n : ℕ). weight n now + length left ≤ weight n frames + length work) long w.lighter;
    }
      where
        long : length after.locals ≡ p.max_locals
        long = after_locals a f after is ∙ i.locals k f at

        typed_still : (j : ℕ) (g : Frame) → IsTyped p frames j g → IsTyped p now j g
        typed_still j g t = record { action = t.action; at = t.at; room = t.room; goes = goes_still t.goes }
          where
            goes_still : Leaves p t.action g ⊎ GoesOn frames j t.action g → Leaves p t.action g ⊎ GoesOn now j t.action g
            goes_still (inl leaves) = inl leaves
            goes_still (inr on) = inr (record {
              after = on.after;
              is = on.is;
              edges = all_map (LeadsTo frames on.after) (LeadsTo now on.after) (λ x edge. leads_below frames now on.after x w.stays edge) (successors j t.action) on.edges;
            })

        typed_here : IsTyped p now k f
        typed_here = record { action = a; at = here; room = room; goes = inr (record { after = after; is = is; edges = w.leads }) }

        settled : (j : ℕ) (g : Frame) → IsFrameAt now j g → Contains left j ⊎ IsTyped p now j g
        settled j g there = elim (w.changed j g there) [
          | inr new ↦ inl new.0
          | inl was ↦ elim (i.settled j g was) [
            | inr typed ↦ inr (typed_still j g typed)
            | inl waits ↦ elim (contains_cases k j work waits) [
              | inr more ↦ inl (w.kept j more)
              | inl e ↦
                  let same_frame : g ≡ f = frame_is g (subst (λ (x : ℕ). IsFrameAt frames x g) (sym e) was) in
                  inr (subst (λ (x : ℕ). IsTyped p now x g) e (subst (λ (x : Frame). IsTyped p now k x) (sym same_frame) typed_here))
            ]
          ]
        ]

-- ---- the end

-- the place on top is visited next
pub next_waits : (p : Program) (frames : List (Option Frame)) (work : List ℕ) (k : ℕ) → Inferring p frames (work ++ k ∷ []) → Inferring p frames (k ∷ work)
next_waits p frames work k i = waits_for p frames (work ++ k ∷ []) (k ∷ work) i (λ j g at. elim (i.settled j g at) [
  | inr typed ↦ inr typed
  | inl waits ↦ elim (Contains-push_cases work k j waits) [ inl more ↦ inl (contains_more k j work more) | inr e ↦ inl (subst (λ (x : ℕ). Contains (k ∷ work) x) e (contains_first k work)) ]
])

-- no place waits
pub inferred : (p : Program) (frames : List (Option Frame)) (work : List ℕ) → length work ≡ 0 → Inferring p frames work → IsInferred p frames
inferred p frames work none i = record {
  well_typed = record {
    agrees = record { passed = i.passed; entry = i.entry; each = λ k f at. elim (i.settled k f at) [ inl (x, within, is) ↦ absurd (omega arith) | inr typed ↦ typed ] };
    one_each = i.one_each;
    reached = i.reached;
  };
  fewest = λ others agrees k f g at there. let up = i.fewest others agrees k f at in subst (Flows f) (some_of up.target g (some_of _ _ (sym up.there ∙ there))) up.flows;
}

-- ---- what the functions find

pub frame_at : (slots frames : List (Option Frame)) (k : ℕ) (slot : Option Frame) (f : Frame) → slots ≡ frames → k < length slots → slot ≡ get_or slots k slot → slot ≡ Some f → IsFrameAt frames k f
frame_at slots frames k slot f same within is there =
    subst (λ (l : List (Option Frame)). IsFrameAt l k f) same (slice_get_read slots (length slots) k slot refl within is ∙ ap Some there)

pub action_at : (p : Program) (frames slots : List (Option Frame)) (work : List ℕ) (actions : List Action) (k : ℕ) (a : Action) → Inferring p frames work → slots ≡ frames → actions ≡ p.actions → k < length slots → a ≡ get_or actions k a → IsAt p k a
action_at p frames slots work actions k a i same same_actions within is =
    let inside : k < length actions = omega (arith, i.one_each, ap length same, ap length same_actions) in
    subst (λ (l : List Action). slice_get l k ≡ Some a) same_actions (slice_get_read actions (length actions) k a refl inside is)

pub start_answers : {A B : Type 0} (p : Program) (n : ℕ) (frames : List (Option Frame)) (source : Frame) (e : Untyped) (P : A → Type 0) (Q : B → Type 0) → frames ≡ replicate n None → n ≡ length p.actions → source ≡ entry_frame p → FoundOr (Err e) P (Clashes frames source (0 ∷ [])) → FoundOr (Err e) Q (¬ HasFrames p)
start_answers p n frames source untyped.Memory P Q is long from clash = tt
start_answers p n frames source untyped.Types P Q is long from clash =
    starts_not p (subst (λ (l : List (Option Frame)). Clashes l (entry_frame p) (0 ∷ [])) (is ∙ ap (λ m. replicate m None) long) (subst (λ (x : Frame). Clashes frames x (0 ∷ [])) from clash))

pub start_follows : (p : Program) (n : ℕ) (frames now : List (Option Frame)) (none left : List ℕ) (source : Frame) → frames ≡ replicate n None → n ≡ length p.actions → none ≡ [] → (length (passed_to p) ≤ p.max_locals) × (source ≡ entry_frame p) → Follows frames none source (0 ∷ []) now left → Inferring p now left
start_follows p n frames now none left source is long empty from f =
    let same = is ∙ ap (λ m. replicate m None) long in
    starts p now left from.0 (subst (λ (l : List (Option Frame)). Follows l [] (entry_frame p) (0 ∷ []) now left) same (subst (λ (w : List ℕ). Follows frames w (entry_frame p) (0 ∷ []) now left) empty (subst (λ (x : Frame). Follows frames none x (0 ∷ []) now left) from.1 f)))

-- what edges answer is what the visit answers
pub visit_answers : (p : Program) (frames now : List (Option Frame)) (work left : List ℕ) (k : ℕ) (i : Inferring p frames (k ∷ work)) (f : Frame) (at : IsFrameAt frames k f) (a : Action) (here : IsAt p k a) (after : Frame) (places : List ℕ) (r : Result (Unit {0}) Untyped) → sum_by width f.stack ≤ p.max_stack → frame_after a f ≡ Some after → places ≡ successors k a
    → FoundOr r (λ _. Follows frames work after places now left) (Clashes frames after places) → FoundOr r (λ _. Visits p frames work now left) (¬ HasFrames p)
visit_answers p frames now work left k i f at a here after places (Ok u) room is to follows = visits_on p frames work k i f at a here after now left room is (subst (λ (l : List ℕ). Follows frames work after l now left) to follows)
visit_answers p frames now work left k i f at a here after places (Err untyped.Types) room is to clash = visits_not p frames work k i f at a here after is (subst (λ (l : List ℕ). Clashes frames after l) to clash)
visit_answers p frames now work left k i f at a here after places (Err untyped.Memory) room is to clash = tt
