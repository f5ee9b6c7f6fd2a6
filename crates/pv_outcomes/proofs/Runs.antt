-- A block of a program, run by the machine.
use Rattle.std.proofs.Common.{◌≡◌, ℕ, zero, suc, ◌+◌, ◌<◌, Bool, true, false, List, [], ◌∷◌, length, Option, refl, ap, sym, subst, ◌∙◌, arith, ◌==◌, if◌then◌else◌}
use Rattle.pv_outcomes.proofs.Words.{◌⊎◌, map, unwrap_or, AllZip, AllByRecursion, nat_tests, Num, World, Input, Val, IsWorld, Sort, Action, sort_of, sort_of_local, Program, IsAt, Frame, Flows, State, Now, running, step, perform_at, performed, frame_of, Part, Exit, Chain, InChain, PartIs, after, local_slot, stack_slot, by_turns, slots, Cell, Held, local_part, stack_part, local_cells, stack_cells, held_at, slots_of, EndsWell, IsCleanProgram, InRange, StackIs, LocalIs, Matches, chain_of, IsBlock, ends, goes_on, turns_both, turns_local, turns_stack}
use Rattle.std.proofs.lemmas.List.{length-map}
use Rattle.pv_value.specs.declared.outcome.Fault.TheVariants as fault
use Rattle.pv_value.specs.declared.outcome.Val.TheVariants as val
use Rattle.pv_frame.specs.declared.sort.Sort.TheVariants as sort
use Rattle.pv_denote.specs.Denote.{strict}
use Rattle.pv_conversion.specs.Outcomes.{Goes as Onward, then as followed}
use Rattle.pv_outcomes.proofs.States.{LocalsHeld, StackHeld, next_of, steps}
use Rattle.pv_outcomes.proofs.Acts.{M, steps_on}
use Rattle.pv_outcomes.proofs.Lasts.{Leaves}
use Rattle.pv_outcomes.proofs.Ends.{last_leaves}
use Rattle.pv_outcomes.proofs.Tokens.{IsToken, last_tokens}

module _ (p : Program) (clean : IsCleanProgram p) (w : World) (world : IsWorld w) (x : Input) (σ : ℕ → Val) (unit : σ 0 ≡ val.Unit) where
  step_is : (s : State) (k : ℕ) (a : Action) → s.at ≡ k → IsAt p k a → step p w s ≡ unwrap_or (performed p w s a) (running s)
  step_is s k a e at = ap (perform_at p w s) (subst (λ (k : ℕ). IsAt p k a) (sym e) at)

  -- after some steps the machine is at the last action of the block, which leaves it
  pub record Run (s : State) (c : Chain) : Type 0 where
    pub count : ℕ
    pub last : State
    pub reach : after (steps p w) count s ≡ Onward last
    pub now : Option Now
    pub step : step p w last ≡ unwrap_or now (running last)
    pub leaves : Leaves p w x σ c now
    pub tokens : (e : Exit) → InChain c e → IsToken p w x σ (e.slots 0)

  -- where the machine comes to a return, it gives a value of the sort of the result
  abbrev pub ComesWell : State → Type 0
  ComesWell s = (n : ℕ) (t : State) → after (steps p w) n s ≡ Onward t → (a : Action) → IsAt p t.at a → EndsWell p a

  -- THE RUN OF A BLOCK
  pub block_runs : (k : ℕ) (h : Held) (c : Chain) → IsBlock p k h c → (s : State) → s.at ≡ k → M p w x σ s h → ComesWell s → Run s c
  block_runs k0 h0 c0 (goes_on k h g a c at i e rest) s here m well =
      let r = steps_on p w x σ a s h g i (clean k a at) m e in
      let there : r.next.at ≡ suc k = r.there ∙ ap suc here in
      let one : step p w s ≡ running r.next = step_is s k a here at ∙ ap (λ (o : Option Now). unwrap_or o (running s)) r.is in
      let more = block_runs (suc k) g c rest r.next there r.matches (λ n t e. well (suc n) t (ap (λ (n' : Now). followed (next_of n') (λ t. after (steps p w) n t)) one ∙ e)) in
      record { count = suc more.count; last = more.last; reach = ap (λ (n : Now). followed (next_of n) (λ t. after (steps p w) more.count t)) one ∙ more.reach; now = more.now; step = more.step; leaves = more.leaves; tokens = more.tokens }
  block_runs k0 h0 c0 (ends k h a c at e) s here m well = record {
    count = 0;
    last = s;
    reach = refl;
    now = performed p w s a;
    step = step_is s k a here at;
    leaves = last_leaves p w x σ world unit a s h c (clean k a at) (well 0 s refl a (subst (λ (k : ℕ). IsAt p k a) (sym here) at)) m (ap (λ (k : ℕ). chain_of p.desc.result k a h) here ∙ e);
    tokens = last_tokens p w x σ a s h k c m e;
  }

-- ---- where a block begins

module _ (w : World) (x : Input) (σ : ℕ → Val) where
  enter_stack : (stack : List Num) (sorts : List Sort) → sorts ≡ map sort_of stack → StackHeld σ stack → AllZip (λ n c. StackIs w x σ n c) stack (stack_cells sorts)
  enter_stack [] [] e h = tt
  enter_stack [] (t ∷ sorts) e h = absurd (cc)
  enter_stack (n ∷ stack) [] e h = absurd (cc)
  enter_stack (n ∷ stack) (t ∷ sorts) e h =
      let rest : sorts ≡ map sort_of stack = cc in
      let long : length sorts ≡ length stack = ap length rest ∙ length-map stack sort_of in
      (record { sort = cc; range = h.1; is = subst (λ (j : ℕ). σ (stack_slot j) ≡ val.Num n) (sym long) h.0 }, enter_stack stack sorts rest h.2)

  enter_locals : (k : ℕ) (locals : List (Option Num)) (sorts : List Sort) → AllZip (λ s t. (t ≡ s) ⊎ (t ≡ sort.Unknown)) (map sort_of_local locals) sorts → LocalsHeld σ k locals → AllZip (λ l c. LocalIs w x σ l c) locals (local_cells k sorts)
  enter_locals k [] [] e h = tt
  enter_locals k [] (t ∷ sorts) e h = absurd e
  enter_locals k (l ∷ locals) [] e h = absurd e
  enter_locals k (l ∷ locals) (t ∷ sorts) e h = (record { sort = e.0; value = σ (local_slot k); is = refl; told = λ n z. (h.0 n z).0; range = λ n z. (h.0 n z).1 }, enter_locals (suc k) locals sorts e.1 h.1)

  -- what is held at a block's beginning
  pub enters : (s : State) (frame : Frame) → Flows (frame_of s) frame → σ 0 ≡ val.Unit → σ 3 ≡ val.Heap s.heap → LocalsHeld σ 0 s.locals → StackHeld σ s.stack → s.heap0 ≡ x.heap → Matches w x σ s (held_at frame)
  enters s frame flows unit heap locals stack start = record { stack = enter_stack s.stack frame.stack flows.stack stack; locals = enter_locals 0 s.locals frame.locals flows.locals locals; heap = heap; token = unit; start = start }

  -- ---- where a block is left

  local_value : (ls : List (Option Num)) (cs : List Cell) → AllZip (λ l c. LocalIs w x σ l c) ls cs → ℕ → Val
  local_value (l ∷ ls) (c ∷ cs) h zero = h.0.value
  local_value (l ∷ ls) (c ∷ cs) h (suc k) = local_value ls cs h.1 k
  local_value ls cs h k = val.Unit

  stack_value : List Num → ℕ → Val
  stack_value [] j = val.Unit
  stack_value (n ∷ stack) j = if j == length stack then val.Num n else stack_value stack j

  unit_is : PartIs w x σ (local_part [] 0) val.Unit
  unfolding strict
  unit_is = ([], refl, refl)

  local_parts : (ls : List (Option Num)) (cs : List Cell) (h : AllZip (λ l c. LocalIs w x σ l c) ls cs) (k : ℕ) → PartIs w x σ (local_part cs k) (local_value ls cs h k)
  unfolding local_value
  local_parts [] [] h k = unit_is
  local_parts [] (c ∷ cs) h k = absurd h
  local_parts (l ∷ ls) [] h k = absurd h
  local_parts (l ∷ ls) (c ∷ cs) h zero = h.0.is
  local_parts (l ∷ ls) (c ∷ cs) h (suc k) = local_parts ls cs h.1 k

  long_as : (ns : List Num) (cs : List Cell) → AllZip (λ n c. StackIs w x σ n c) ns cs → length ns ≡ length cs
  long_as [] [] h = refl
  long_as [] (c ∷ cs) h = absurd h
  long_as (n ∷ ns) [] h = absurd h
  long_as (n ∷ ns) (c ∷ cs) h = ap suc (long_as ns cs h.1)

  stack_parts : (ns : List Num) (cs : List Cell) → AllZip (λ n c. StackIs w x σ n c) ns cs → (j : ℕ) → PartIs w x σ (stack_part cs j) (stack_value ns j)
  unfolding stack_value
  stack_parts [] [] h j = unit_is
  stack_parts [] (c ∷ cs) h j = absurd h
  stack_parts (n ∷ ns) [] h j = absurd h
  stack_parts (n ∷ ns) (c ∷ cs) h j =
      subst (λ (l : ℕ). PartIs w x σ (if j == l then c.part else stack_part cs j) (if j == length ns then val.Num n else stack_value ns j)) (long_as ns cs h.1)
      (elim (j == length ns) as (λ b. PartIs w x σ (if b then c.part else stack_part cs j) (if b then val.Num n else stack_value ns j)) [ true ↦ h.0.is | false ↦ stack_parts ns cs h.1 j ])

-- i + k, by moving one after the other
abbrev pub moved_on : ℕ → ℕ → ℕ
moved_on zero k = k
moved_on (suc i) k = moved_on i (suc k)

pub moved_sum : (i k : ℕ) → moved_on i k ≡ i + k
moved_sum zero k = omega arith
moved_sum (suc i) k = moved_sum i (suc k) ∙ omega arith

module _ (w : World) (x : Input) (σ : ℕ → Val) (t : State) (g : Held) (m : Matches w x σ t g) where
  -- the slots at the next block
  pub left_slots : ℕ → Val
  left_slots = slots val.Unit (val.Fault fault.Clear) val.Unit (val.Heap t.heap) (by_turns (local_value w x σ t.locals g.locals m.locals) (stack_value w x σ t.stack))

  pub left_token : left_slots 0 ≡ val.Unit
  unfolding left_slots
  left_token = refl

  pub left_heap : left_slots 3 ≡ val.Heap t.heap
  unfolding left_slots
  left_heap = refl

  pub left_parts : (n : ℕ) → PartIs w x σ (slots_of g n) (left_slots n)
  unfolding left_slots strict
  left_parts zero = m.token
  left_parts (suc zero) = ([], refl, refl)
  left_parts (suc (suc zero)) = ([], refl, refl)
  left_parts (suc (suc (suc zero))) = m.heap
  left_parts (suc (suc (suc (suc n)))) =
      turns_both (λ (q : Part) (v : Val). PartIs w x σ q v) (local_part g.locals) (stack_part g.stack) (local_value w x σ t.locals g.locals m.locals) (stack_value w x σ t.stack)
      (local_parts w x σ t.locals g.locals m.locals) (stack_parts w x σ t.stack g.stack m.stack) n

  locals_held : (τ : ℕ → Val) (k : ℕ) (ls : List (Option Num)) (cs : List Cell) (h : AllZip (λ l c. LocalIs w x σ l c) ls cs) → ((i : ℕ) → τ (local_slot (moved_on i k)) ≡ local_value w x σ ls cs h i) → LocalsHeld τ k ls
  unfolding local_value
  locals_held τ k [] cs h f = tt
  locals_held τ k (l ∷ ls) [] h f = absurd h
  locals_held τ k (l ∷ ls) (c ∷ cs) h f = ((λ n e. (f zero ∙ h.0.told n e, h.0.range n e)), locals_held τ (suc k) ls cs h.1 (λ i. f (suc i)))

  top_value : (n : Num) (ns : List Num) → stack_value w x σ (n ∷ ns) (length ns) ≡ val.Num n
  unfolding stack_value
  top_value n ns = ap (λ (b : Bool). if b then val.Num n else stack_value w x σ ns (length ns)) (itself (length ns))
    where
      itself : (k : ℕ) → (k == k) ≡ true
      itself k = grind (arith, nat_tests)

  lower_value : (n : Num) (ns : List Num) (j : ℕ) → j < length ns → stack_value w x σ (n ∷ ns) j ≡ stack_value w x σ ns j
  unfolding stack_value
  lower_value n ns j less = ap (λ (b : Bool). if b then val.Num n else stack_value w x σ ns j) (other j (length ns) less)
    where
      other : (a b : ℕ) → a < b → (a == b) ≡ false
      other a b less = grind (arith, nat_tests)

  ranges : (ns : List Num) (cs : List Cell) → AllZip (λ n c. StackIs w x σ n c) ns cs → AllByRecursion InRange ns
  ranges [] cs h = tt
  ranges (n ∷ ns) [] h = absurd h
  ranges (n ∷ ns) (c ∷ cs) h = (h.0.range, ranges ns cs h.1)

  stack_held : (τ : ℕ → Val) (ns : List Num) → AllByRecursion InRange ns → ((j : ℕ) → j < length ns → τ (stack_slot j) ≡ stack_value w x σ ns j) → StackHeld τ ns
  stack_held τ [] r f = tt
  stack_held τ (n ∷ ns) r f = (f (length ns) (omega arith) ∙ top_value n ns, r.0, stack_held τ ns r.1 (λ j less. f j (omega arith) ∙ lower_value n ns j less))

  pub left_locals : LocalsHeld left_slots 0 t.locals
  unfolding left_slots
  left_locals = locals_held left_slots 0 t.locals g.locals m.locals (λ i.
      turns_local (local_value w x σ t.locals g.locals m.locals) (stack_value w x σ t.stack) (moved_on i 0) ∙ ap (local_value w x σ t.locals g.locals m.locals) (moved_sum i 0 ∙ omega arith))

  pub left_stack : StackHeld left_slots t.stack
  unfolding left_slots
  left_stack = stack_held left_slots t.stack (ranges t.stack g.stack m.stack) (λ j less. turns_stack (local_value w x σ t.locals g.locals m.locals) (stack_value w x σ t.stack) j)
