-- A state of a program with typed frames goes on to such a state, ends, or waits for a call that isn't in the table.
use Rattle.std.proofs.Common.{◌≡◌, ℕ, zero, suc, ◌+◌, List, [], ◌∷◌, Option, Some, None, ◌∙◌, refl, ap, sym, subst, inl, inr, arith, ◌⊎◌, map, option_map, unwrap_or}
use Rattle.pv_machine.proofs.Words.{AllZip, AllByRecursion, ◌>>=◌, Num, JType, World, Input, Outcome, IsOfType, IsWorld, Sort, Action, Taken, popped, sort_of, sort_of_type, sorts_of_result, takes, successors, Program, IsAt, Frame, Flows, LeadsTo, IsEnd, Finds, Agrees, same, frame_done, frame_after, entry_frame, by_sorts, popped_map, no_some, popped_sorts, flows_flows, goes_from, State, Now, running, ended, start, given, done, performed, perform, perform_at, step, go_on, after, frame_of, IsTypedState, Waits, Proceeds, NeverStuck, EndsOnce}
use Rattle.pv_value.specs.declared.number.Num.TheVariants as num
use Rattle.pv_frame.specs.declared.action.Action.TheVariants as act
use Rattle.pv_machine.proofs.Values.{as_type_gives, start_sorts}
use Rattle.pv_machine.proofs.Performs.{IsSound, Among, Result, ends, runs, waits, done_ok, one_num, no_nums, one_ref}
use Rattle.pv_machine.proofs.Sound.{program_sound}

-- ---- one instruction

abbrev below : State → List Num → State
below s stack = record s { stack = stack }

record Goes (p : Program) (w : World) (s : State) (a : Action) (g : Frame) : Type 0 where
  operands : List Num × List Num
  found : popped sort_of (takes a) s.stack ≡ Some operands
  result : Result w (below s operands.1) a operands.0 g (done p w (below s operands.1) a operands.0)

goes : (p : Program) (w : World) (s : State) (a : Action) (g : Frame) → IsWorld w → IsSound a → frame_after a (frame_of s) ≡ Some g → Goes p w s a g
goes p w s a g world sound e =
    let after : Taken Sort → Option Frame = λ o. o >>= λ x. frame_done a (record (frame_of s) { stack = x.1 }) in
    let by_value : after (by_sorts sort_of (popped sort_of (takes a) s.stack)) ≡ Some g = ap after (sym (popped_map sort_of (takes a) s.stack)) ∙ e in
    elim (popped sort_of (takes a) s.stack) as (λ o. popped sort_of (takes a) s.stack ≡ o → after (by_sorts sort_of o) ≡ Some g → Goes p w s a g) [
      | None ↦ λ _ e. no_some g e
      | Some q ↦ λ is e. record { operands = q; found = is; result = done_ok p w world (below s q.1) a q.0 g sound (popped_sorts sort_of (takes a) s.stack q is) e }
    ] refl by_value

performed_as : (p : Program) (w : World) (s : State) (a : Action) (q : List Num × List Num) → popped sort_of (takes a) s.stack ≡ Some q → performed p w s a ≡ done p w (below s q.1) a q.0
performed_as p w s a q e = ap (λ (o : Taken Num). o >>= λ x. done p w (below s x.1) a x.0) e

-- a return and a throw end the method
gives_end : (p : Program) (w : World) (s : State) (t : Option Sort) (nums : List Num) (result : Option JType) → map sort_of nums ≡ sorts_of_result result → (o : Outcome) × (given s result nums ≡ Some (ended o))
gives_end p w s t nums None e = (_, ap (given s None) (no_nums nums e))
gives_end p w s t nums (Some u) e =
    let x = one_num nums (sort_of_type u) e in
    let g = as_type_gives u x.0 x.2 in
    (_, ap (given s (Some u)) x.1 ∙ ap (option_map _) g.is)

throw_ends : (p : Program) (w : World) (s : State) (r : ℕ) → (o : Outcome) × (done p w s act.Throw (num.Ref r ∷ []) ≡ Some (ended o))
throw_ends p w s zero = (_, refl)
throw_ends p w s (suc r) = (_, refl)

done_ends : (p : Program) (w : World) (s : State) (a : Action) (nums : List Num) → IsEnd p a → map sort_of nums ≡ takes a → (o : Outcome) × (done p w s a nums ≡ Some (ended o))
done_ends p w s (act.Give t) nums is e = gives_end p w s t nums p.desc.result (e ∙ is)
done_ends p w s act.Throw nums is e =
    let r = one_ref nums e in
    let t = throw_ends p w s r.0 in
    (t.0, ap (done p w s act.Throw) r.1 ∙ t.1)
done_ends p w s a nums is e = elim is [ ]

leaves : (p : Program) (w : World) (s : State) (a : Action) → IsEnd p a → Finds (takes a) (frame_of s) → (o : Outcome) × (performed p w s a ≡ Some (ended o))
leaves p w s a is finds =
    elim (popped sort_of (takes a) s.stack) as (λ o. popped sort_of (takes a) s.stack ≡ o → by_sorts sort_of o ≡ Some finds.0 → (o : Outcome) × (performed p w s a ≡ Some (ended o))) [
      | None ↦ λ _ e. no_some finds.0 e
      | Some q ↦ λ found e.
          let d = done_ends p w (below s q.1) a q.0 is (popped_sorts sort_of (takes a) s.stack q found) in
          (d.0, performed_as p w s a q found ∙ d.1)
    ] refl (sym (popped_map sort_of (takes a) s.stack) ∙ finds.1)

-- ---- one step

step_of : (p : Program) (w : World) (s : State) (a : Action) → IsAt p s.at a → step p w s ≡ perform p w s a
step_of p w s a at = ap (perform_at p w s) at

record Steps (frames : List (Option Frame)) (p : Program) (w : World) (s : State) : Type 0 where
  safe : Proceeds p w s ⊎ Waits p w s
  keeps : (t : State) → step p w s ≡ running t → IsTypedState frames t

steps_some : (frames : List (Option Frame)) (p : Program) (w : World) (s : State) (a : Action) (now : Now) → IsAt p s.at a → performed p w s a ≡ Some now → ((t : State) → now ≡ running t → IsTypedState frames t) → Steps frames p w s
steps_some frames p w s a now at e typed =
    let there : step p w s ≡ now = step_of p w s a at ∙ ap (λ o. unwrap_or o (running s)) e in
    record { safe = inl (record { action = a; at = at; now = now; does = e }); keeps = λ t is. typed t (sym there ∙ is) }

running_of : (s t : State) → running s ≡ running t → s ≡ t
running_of s t e = cc

never : {P : Type 0} (o : Outcome) (t : State) → ended o ≡ running t → P
never o t e = absurd (cc)

leads : (frames : List (Option Frame)) (g : Frame) (js : List ℕ) (j : ℕ) → AllByRecursion (LeadsTo frames g) js → Among j js → LeadsTo frames g j
leads frames g [] j all h = absurd h
leads frames g (k ∷ js) j all (inl e) = subst (LeadsTo frames g) (sym e) all.0
leads frames g (k ∷ js) j all (inr h) = leads frames g js j all.1 h

steps_with : (frames : List (Option Frame)) (p : Program) (w : World) (s : State) (a : Action) (g h : Frame) → IsTypedState frames s → IsAt p s.at a → Flows g h → AllByRecursion (LeadsTo frames h) (successors s.at a) →
    (q : List Num × List Num) → popped sort_of (takes a) s.stack ≡ Some q → (now : Option Now) → done p w (below s q.1) a q.0 ≡ now → Result w (below s q.1) a q.0 g now → Steps frames p w s
steps_with frames p w s a g h here at flows edges q found now is (ends o) =
    steps_some frames p w s a (ended o) at (performed_as p w s a q found ∙ is) (λ t e. never o t e)
steps_with frames p w s a g h here at flows edges q found now is (runs u same_frame among) =
    let edge = leads frames h (successors s.at a) u.at edges among in
    let typed : IsTypedState frames u = record { frame = edge.target; there = edge.there; flows = subst (λ (x : Frame). Flows x edge.target) (sym same_frame) (flows_flows g h edge.target flows edge.flows) } in
    steps_some frames p w s a (running u) at (performed_as p w s a q found ∙ is) (λ t e. subst (IsTypedState frames) (running_of u t e) typed)
steps_with frames p w s a g h here at flows edges q found now is (waits f calls unanswered) =
    let stays : step p w s ≡ running s = step_of p w s a at ∙ ap (λ o. unwrap_or o (running s)) (performed_as p w s a q found ∙ is) in
    record {
      safe = inr (record { action = a; sym = f; at = at; operands = q; popped = found; calls = calls; unanswered = unanswered });
      keeps = λ t e. subst (IsTypedState frames) (running_of s t (sym stays ∙ e)) here;
    }

steps : (frames : List (Option Frame)) (p : Program) (w : World) (s : State) → IsWorld w → ((k : ℕ) (a : Action) → IsAt p k a → IsSound a) → Agrees p frames → IsTypedState frames s → Steps frames p w s
steps frames p w s world sound agrees here =
    let typed = agrees.each s.at here.frame here.there in
    elim typed.goes [
      | inl (is, finds) ↦
          let same_stack = subst (λ (stack : List Sort). (o : List Sort × List Sort) × (popped same (takes typed.action) stack ≡ Some o)) here.flows.stack finds in
          let l = leaves p w s typed.action is same_stack in
          steps_some frames p w s typed.action (ended l.0) typed.at l.1 (λ t e. never l.0 t e)
      | inr on ↦
          let from = goes_from typed.action (frame_of s) here.frame on.after here.flows on.is in
          let g = goes p w s typed.action from.after world (sound s.at typed.action typed.at) from.is in
          steps_with frames p w s typed.action from.after on.after here typed.at from.flows on.edges g.operands g.found _ refl g.result
    ]

-- ---- runs

pub starts : (frames : List (Option Frame)) (p : Program) (input : Input) → Agrees p frames → AllZip IsOfType p.desc.params input.args → IsTypedState frames (start p input)
starts frames p input agrees fits =
    let sorts : frame_of (start p input) ≡ entry_frame p = ap (λ (l : List Sort). record { stack = []; locals = l }) (start_sorts p input fits) in
    record { frame = agrees.entry.target; there = agrees.entry.there; flows = subst (λ (x : Frame). Flows x agrees.entry.target) (sym sorts) agrees.entry.flows }

pub stays_typed : (frames : List (Option Frame)) (p : Program) (w : World) (s : State) → IsWorld w → ((k : ℕ) (a : Action) → IsAt p k a → IsSound a) → Agrees p frames → IsTypedState frames s →
    (n : ℕ) (t : State) → after p w s n ≡ running t → IsTypedState frames t
unfolding after
stays_typed frames p w s world sound agrees here zero t e = subst (IsTypedState frames) (running_of s t e) here
stays_typed frames p w s world sound agrees here (suc n) t e =
    elim (after p w s n) as (λ now. after p w s n ≡ now → go_on p w now ≡ running t → IsTypedState frames t) [
      | running u ↦ λ is e. (steps frames p w u world sound agrees (stays_typed frames p w s world sound agrees here n u is)).keeps t e
      | ended o ↦ λ _ e. never o t e
    ] refl e

pub never_stuck : NeverStuck
never_stuck file m p is w world input fits n s e =
    let sound = program_sound file m p is.of_method in
    let frames = is.typed.0 in
    let agrees = is.typed.1 in
    (steps frames p w s world sound agrees (stays_typed frames p w (start p input) world sound agrees (starts frames p input agrees fits.args) n s e)).safe

-- ---- ends

pub after_more : (p : Program) (w : World) (s : State) (n : ℕ) → after p w s (suc n) ≡ go_on p w (after p w s n)
unfolding after
after_more p w s n = refl

pub after_none : (p : Program) (w : World) (s : State) → after p w s zero ≡ running s
unfolding after
after_none p w s = refl

pub ended_later : (p : Program) (w : World) (s : State) (n k : ℕ) (o : Outcome) → after p w s n ≡ ended o → after p w s (k + n) ≡ ended o
ended_later p w s n zero o e = subst (λ (m : ℕ). after p w s m ≡ ended o) (omega arith) e
ended_later p w s n (suc k) o e =
    let next : suc (k + n) ≡ suc k + n = omega arith in
    subst (λ (m : ℕ). after p w s m ≡ ended o) next (after_more p w s (k + n) ∙ ap (go_on p w) (ended_later p w s n k o e))

pub ends_once : EndsOnce
ends_once p w s m n o q a b =
    let both : n + m ≡ m + n = omega arith in
    let first = ended_later p w s m n o a in
    let second = subst (λ (k : ℕ). after p w s k ≡ ended q) (sym both) (ended_later p w s n m q b) in
    cc (first, second)
