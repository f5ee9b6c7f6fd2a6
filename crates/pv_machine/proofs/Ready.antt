-- A run of a method with typed frames has no more values on the operand stack than the method may have.
use Rattle.std.proofs.Common.{◌≡◌, ℕ, suc, ◌<◌, ◌≤◌, List, [], ◌∷◌, length, get_or, Option, None, Result, Ok, Err, refl, ap, sym, subst, ◌∙◌, arith, sum_by, slice_get, IsOk, OnErr}
use Rattle.pv_machine.proofs.Words.{sum_by-cons, length-map, slice_get_read, slice_get_past, Memory, World, Outcome, Sort, Action, Program, Frame, width, sort_of, IsAt, Agrees, StateInMemory, State, running, start, perform_at, step, go_on, IsTypedState, IsQuiet, IsOverfull, IsQuietAt, IsReached}
use Rattle.pv_frame.specs.declared.sort.Sort.TheVariants as sort
use Rattle.pv_machine.proofs.Sound.{program_sound}
use Rattle.pv_machine.proofs.Typing.{starts, stays_typed, after_more}

-- each value is one wide at least
wide : (s : Sort) → 1 ≤ width s
wide sort.Int = omega arith
wide s = omega arith

long_width : (sorts : List Sort) → length sorts ≤ sum_by width sorts
long_width [] = omega arith
long_width (s ∷ sorts) =
    let one = wide s in
    let rest = long_width sorts in
    let sum = sum_by-cons width s sorts in
    omega (arith, one, rest, sum)

within : (frames : List (Option Frame)) (p : Program) (s : State) → Agrees p frames → IsTypedState frames s → length s.stack ≤ p.max_stack
within frames p s agrees typed =
    let room = (agrees.each s.at typed.frame typed.there).room in
    let long = long_width typed.frame.stack in
    let same = ap length typed.flows.stack ∙ length-map s.stack sort_of in
    omega (arith, room, long, same)

reached_within : (p : Program) (w : World) (s : State) → IsReached p w s → length s.stack ≤ p.max_stack
reached_within p w s r =
    let frames = r.program.typed.0 in
    let agrees = r.program.typed.1 in
    let sound = program_sound r.file r.method p r.program.of_method in
    within frames p s agrees (stays_typed frames p w (start p r.input) r.world sound agrees (starts frames p r.input agrees r.fits.args) r.steps s r.run)

next_reached : (p : Program) (w : World) (s t : State) → IsReached p w s → step p w s ≡ running t → IsReached p w t
next_reached p w s t r e =
    record { file = r.file; method = r.method; program = r.program; world = r.world; input = r.input; fits = r.fits; steps = suc r.steps; run = after_more p w (start p r.input) r.steps ∙ ap (go_on p w) r.run ∙ e }

-- ---- the instruction at a place

pub found_at : (p q : Program) (s : State) (i : ℕ) (seen : List Action) (a : Action) → q ≡ p → i ≡ s.at → seen ≡ q.actions → i < length seen → ((d : Action) → a ≡ get_or seen i d) → IsAt p s.at a
found_at p q s i seen a same here is lt at =
    ap (λ (x : Program). slice_get x.actions s.at) (sym same) ∙ ap (slice_get q.actions) (sym here) ∙ ap (λ (l : List Action). slice_get l i) (sym is) ∙ slice_get_read seen (length seen) i a refl lt (at a)

pub no_step : (p q : Program) (w : World) (s : State) (i : ℕ) (seen : List Action) → q ≡ p → i ≡ s.at → seen ≡ q.actions → length seen ≤ i → running s ≡ step p w s
no_step p q w s i seen same here is past =
    let none : slice_get p.actions s.at ≡ None = ap (λ (x : Program). slice_get x.actions s.at) (sym same) ∙ ap (slice_get q.actions) (sym here) ∙ ap (λ (l : List Action). slice_get l i) (sym is) ∙ slice_get_past seen i past in
    sym (ap (perform_at p w s) none)

-- a quiet instruction of such a run has room
pub ready : (p q : Program) (w : World) (s : StateInMemory) (a : Action) (r : Result (Option Outcome) Memory) → q ≡ p → IsAt p s.state.at a → (IsQuiet a → OnErr r (IsOverfull q w s a)) →
    IsReached p w s.state → p.max_stack ≤ s.room → IsQuietAt p s.state.at → IsOk r
ready p q w s a (Ok x) same at full reached room quiet = refl
ready p q w s a (Err e) same at full reached room quiet =
    let over = subst (λ (x : Program). IsOverfull x w s a) same (full (quiet a at)) in
    let leads = ap (perform_at p w s.state) at ∙ over.1 in
    let few = reached_within p w over.0 (next_reached p w s.state over.0 reached leads) in
    let many = over.2 in
    absurd (omega (arith, few, many, room))
