-- In well_typed frames each block of a program has its chain, where divisions have two operands, as those of a method's program do.
use Rattle.std.proofs.Common.{◌≡◌, ℕ, zero, suc, pos, ◌+◌, ◌-◌, ◌≤◌, Bool, true, false, List, [], ◌∷◌, Option, Some, None, refl, ap, sym, subst, ◌∙◌, inl, inr, arith, if◌then◌else◌}
use Rattle.pv_runs.proofs.Words.{map, option_map, slice_get, slice_set, Contains, AllByRecursion, ◌>>=◌, JType, Sort, Test, Action, Program, Frame, IsAt, Taken, popped, moved, has_room, set_local, sort_of_type, sort_of_word, sorts_of_result, test_takes, takes, successors, same, holds, frame_done, frame_after, Flows, IsFrameAt, LeadsTo, IsEnd, Finds, GoesOn, Reached, AreFrames, some_of, no_some, if_some, fits_same, popped_sorts, flows_flows, goes_from, by_sorts, popped_map, moved_map, has_room_map, set_local_map, flows_itself, reached_frame, Block, ends_block, Begins, IsSpan, IsFlow, goes_on, Part, Exit, Chain, Cell, Held, cell_sort, unset, of_cell, int_part, push, increased_cell, local_cells, stack_cells, held_at, with_result, acted_on, acted, to, branch, test_part, chain_with, given_chain, last_chain, ends_method, chain_of, acted_along, place_chain, IsClean}
use Rattle.pv_value.specs.declared.descriptor.Descriptor.{Descriptor}
use Rattle.pv_frame.specs.declared.sort.Sort.TheVariants as sort
use Rattle.pv_frame.specs.declared.action.Test.TheVariants as test
use Rattle.pv_frame.specs.declared.action.Action.TheVariants as act
use Rattle.pv_frame.specs.Frames as frame
use Rattle.pv_flow.specs.Blocks as blocks
use Rattle.pv_runs.proofs.Frames.{no_successor, each_of}
use Rattle.pv_runs.proofs.Actions as actions
use Rattle.pv_runs.proofs.Actions.{IsSimple, IsBlock}

-- ---- the sorts of what is held

-- what is held, as a frame
abbrev pub sorts_held : Held → Frame
sorts_held h = record { stack = map cell_sort h.stack; locals = map cell_sort h.locals }

stack_sorts : (sorts : List Sort) → map cell_sort (stack_cells sorts) ≡ sorts
stack_sorts [] = refl
stack_sorts (s ∷ sorts) = ap (λ (l : List Sort). s ∷ l) (stack_sorts sorts)

local_sorts : (k : ℕ) (sorts : List Sort) → map cell_sort (local_cells k sorts) ≡ sorts
local_sorts k [] = refl
local_sorts k (s ∷ sorts) = ap (λ (l : List Sort). s ∷ l) (local_sorts (suc k) sorts)

-- where a block begins these are the sorts of its frame
pub held_sorts : (f : Frame) → sorts_held (held_at f) ≡ f
held_sorts f = λ i. record { stack = stack_sorts f.stack i; locals = local_sorts 0 f.locals i }

-- ---- what an action does to the sorts

-- after an action, with its operands, these sorts are held
record Acts (a : Action) (h : Held) (cells : List Cell) (f : Frame) : Type 0 where
  after : Held
  is : acted_on a h cells ≡ Some after
  sorts : sorts_held after ≡ f

local_found : (locals : List Cell) (k : ℕ) (s : Sort) → holds (slice_get (map cell_sort locals) k) s ≡ true → (c : Cell) × ((slice_get locals k >>= of_cell s) ≡ Some c)
local_found [] k s h = absurd (cc)
local_found (c ∷ locals) zero s h = (c, ap (λ (b : Bool). if b then Some c else None) h)
local_found (c ∷ locals) (suc k) s h = local_found locals k s h

-- a cell of the same sort in the place of another
set_sorts : (locals : List Cell) (k : ℕ) (s : Sort) (c : Cell) → holds (slice_get (map cell_sort locals) k) s ≡ true → c.sort ≡ s → map cell_sort (slice_set locals k c) ≡ map cell_sort locals
set_sorts [] k s c h e = absurd (cc)
set_sorts (d ∷ locals) zero s c h e = ap (λ (x : Sort). x ∷ map cell_sort locals) (e ∙ sym (fits_same d.sort s h))
set_sorts (d ∷ locals) (suc k) s c h e = ap (λ (xs : List Sort). d.sort ∷ xs) (set_sorts locals k s c h e)

no_cells : (cells : List Cell) → map cell_sort cells ≡ [] → cells ≡ []
no_cells [] e = refl
no_cells (c ∷ cells) e = absurd (cc)

one_cell : (cells : List Cell) (s : Sort) → map cell_sort cells ≡ s ∷ [] → (c : Cell) × (cells ≡ c ∷ []) × (c.sort ≡ s)
one_cell [] s e = absurd (cc)
one_cell (c ∷ []) s e = (c, refl, cc)
one_cell (c ∷ d ∷ cells) s e = absurd (cc)

two_cells : (cells : List Cell) (s t : Sort) → map cell_sort cells ≡ s ∷ t ∷ [] → (c : Cell) × (d : Cell) × (cells ≡ c ∷ d ∷ [])
two_cells [] s t e = absurd (cc)
two_cells (c ∷ cells) s t e =
    let d = one_cell cells t (let z : map cell_sort cells ≡ t ∷ [] = cc in z) in
    (c, d.0, ap (λ (cs : List Cell). c ∷ cs) d.1)

three_cells : (cells : List Cell) (s t u : Sort) → map cell_sort cells ≡ s ∷ t ∷ u ∷ [] → (c : Cell) × (d : Cell) × (e : Cell) × (cells ≡ c ∷ d ∷ e ∷ [])
three_cells [] s t u e = absurd (cc)
three_cells (c ∷ cells) s t u e =
    let d = two_cells cells t u (let z : map cell_sort cells ≡ t ∷ u ∷ [] = cc in z) in
    (c, d.0, d.1, ap (λ (cs : List Cell). c ∷ cs) d.2)

more_cells : (cells : List Cell) (s : Sort) (sorts : List Sort) → map cell_sort cells ≡ s ∷ sorts → (c : Cell) × (rest : List Cell) × (cells ≡ c ∷ rest)
more_cells [] s sorts e = absurd (cc)
more_cells (c ∷ cells) s sorts e = (c, cells, refl)

call_acts : (r : Option JType) (h : Held) (f : _) (cells : List Cell) → sorts_held (with_result h f cells r) ≡ frame.pushed (sorts_of_result r) (sorts_held h)
call_acts None h f cells = refl
call_acts (Some t) h f cells = refl

module _ (h : Held) where
  pushes : (a : Action) (cells : List Cell) (f : Frame) (s : Sort) (q : Part) → acted_on a h cells ≡ Some (push h s q) → Some (frame.pushed (s ∷ []) (sorts_held h)) ≡ Some f → Acts a h cells f
  pushes a cells f s q is e = record { after = push h s q; is = is; sorts = some_of _ _ e }

  stays : (a : Action) (cells : List Cell) (f : Frame) (g : Held) → acted_on a h cells ≡ Some g → sorts_held g ≡ sorts_held h → Some (sorts_held h) ≡ Some f → Acts a h cells f
  stays a cells f g is s e = record { after = g; is = is; sorts = s ∙ some_of _ _ e }

  load_acts : (s : Sort) (k : ℕ) (cells : List Cell) (f : Frame) → frame_done (act.Load s k) (sorts_held h) ≡ Some f → Acts (act.Load s k) h cells f
  load_acts s k cells f e =
      let found = if_some (holds (slice_get (map cell_sort h.locals) k) s) (frame.pushed (s ∷ []) (sorts_held h)) f e in
      let c = local_found h.locals k s found.0 in
      pushes (act.Load s k) cells f s c.0.part (ap (option_map (λ (c : Cell). push h s c.part)) c.1) (ap Some found.1)

  store_acts : (s : Sort) (k : ℕ) (cells : List Cell) (f : Frame) → map cell_sort cells ≡ s ∷ [] → frame_done (act.Store s k) (sorts_held h) ≡ Some f → Acts (act.Store s k) h cells f
  store_acts s k cells f es e =
      let c = one_cell cells s es in
      let e' : frame_done (act.Store c.0.sort k) (sorts_held h) ≡ Some f = ap (λ (s : Sort). frame_done (act.Store s k) (sorts_held h)) c.2 ∙ e in
      let found = if_some (has_room c.0.sort k (map cell_sort h.locals)) (record { stack = map cell_sort h.stack; locals = set_local same sort.Unknown k c.0.sort (map cell_sort h.locals) }) f e' in
      let room : has_room c.0.sort k h.locals ≡ true = sym (has_room_map cell_sort c.0.sort k h.locals) ∙ found.0 in
      let done : Held = record h { locals = set_local cell_sort unset k c.0 h.locals } in
      record {
        after = done;
        is = ap (acted_on (act.Store s k) h) c.1 ∙ ap (λ (b : Bool). if b then Some done else None) room;
        sorts = ap (λ (l : List Sort). record { stack = map cell_sort h.stack; locals = l }) (sym (set_local_map cell_sort unset k c.0 h.locals)) ∙ found.1;
      }

  increase_acts : (k : ℕ) (by : _) (cells : List Cell) (f : Frame) → frame_done (act.Increase k by) (sorts_held h) ≡ Some f → Acts (act.Increase k by) h cells f
  increase_acts k by cells f e =
      let found = if_some (holds (slice_get (map cell_sort h.locals) k) sort.Int) (sorts_held h) f e in
      let c = local_found h.locals k sort.Int found.0 in
      stays (act.Increase k by) cells f (record h { locals = slice_set h.locals k (increased_cell by c.0) })
      (ap (option_map (λ (c : Cell). record h { locals = slice_set h.locals k (increased_cell by c) })) c.1)
      (ap (λ (l : List Sort). record { stack = map cell_sort h.stack; locals = l }) (set_sorts h.locals k sort.Int (increased_cell by c.0) found.0 refl)) (ap Some found.1)

  move_acts : (m : _) (cells : List Cell) (f : Frame) → frame_done (act.Move m) (sorts_held h) ≡ Some f → Acts (act.Move m) h cells f
  move_acts m cells f e = go (moved cell_sort m h.stack) refl (ap (option_map (λ (stack : List Sort). record { stack = stack; locals = map cell_sort h.locals })) (sym (moved_map cell_sort m h.stack)) ∙ e)
    where
      go : (o : Option (List Cell)) → moved cell_sort m h.stack ≡ o → option_map (λ (stack : List Sort). record { stack = stack; locals = map cell_sort h.locals }) (option_map (map cell_sort) o) ≡ Some f → Acts (act.Move m) h cells f
      go None is e = no_some f e
      go (Some st) is e = record { after = record h { stack = st }; is = ap (option_map (λ (stack : List Cell). record h { stack = stack })) is; sorts = some_of _ _ e }

  done_sorts : (a : Action) (cells : List Cell) (f : Frame) → map cell_sort cells ≡ takes a → frame_done a (sorts_held h) ≡ Some f → Acts a h cells f
  done_sorts act.Nop cells f es e = stays act.Nop cells f h refl refl e
  done_sorts (act.Push n) cells f es e = pushes (act.Push n) cells f _ _ refl e
  done_sorts (act.Literal text) cells f es e = pushes (act.Literal text) cells f _ _ refl e
  done_sorts (act.Load s k) cells f es e = load_acts s k cells f e
  done_sorts (act.Store s k) cells f es e = store_acts s k cells f es e
  done_sorts (act.Increase k by) cells f es e = increase_acts k by cells f e
  done_sorts (act.Move m) cells f es e = move_acts m cells f e
  done_sorts (act.Scalar o) cells f es e = pushes (act.Scalar o) cells f _ _ refl e
  done_sorts (act.Divide o) cells f es e = pushes (act.Divide o) cells f _ _ refl e
  done_sorts (act.Branch t target) cells f es e = stays (act.Branch t target) cells f h refl refl e
  done_sorts (act.Jump target) cells f es e = stays (act.Jump target) cells f h refl refl e
  done_sorts (act.Switch default cases) cells f es e = stays (act.Switch default cases) cells f h refl refl e
  done_sorts (act.Give s) cells f es e = no_some f e
  done_sorts act.Throw cells f es e = no_some f e
  done_sorts (act.GetStatic t s) cells f es e = pushes (act.GetStatic t s) cells f _ _ refl e
  done_sorts (act.PutStatic t s) cells f es e = stays (act.PutStatic t s) cells f _ refl refl e
  done_sorts (act.GetField t s) cells f es e = pushes (act.GetField t s) cells f _ _ refl e
  done_sorts (act.PutField t s) cells f es e = stays (act.PutField t s) cells f _ refl refl e
  done_sorts (act.LoadElement k) cells f es e = pushes (act.LoadElement k) cells f _ _ refl e
  done_sorts (act.StoreElement k) cells f es e = stays (act.StoreElement k) cells f _ refl refl e
  done_sorts act.StoreRef cells f es e = stays act.StoreRef cells f _ refl refl e
  done_sorts (act.Cast class) cells f es e = let c = one_cell cells _ es in pushes (act.Cast class) cells f sort.Ref c.0.part (ap (acted_on (act.Cast class) h) c.1) e
  done_sorts (act.InstanceOf class) cells f es e = let c = one_cell cells _ es in pushes (act.InstanceOf class) cells f sort.Int (int_part (pos 0)) (ap (acted_on (act.InstanceOf class) h) c.1) e
  done_sorts act.Length cells f es e = pushes act.Length cells f _ _ refl e
  done_sorts (act.Call d s) cells f es e = record { after = with_result h s cells d.result; is = refl; sorts = call_acts d.result h s cells ∙ some_of _ _ e }
  done_sorts (act.CallOn d s) cells f es e = record { after = with_result h s cells d.result; is = refl; sorts = call_acts d.result h s cells ∙ some_of _ _ e }

-- the operands of an action are held
record Pops (a : Action) (h : Held) : Type 0 where
  taken : List Cell × List Cell
  is : popped cell_sort (takes a) h.stack ≡ Some taken
  sorts : map cell_sort taken.0 ≡ takes a

abbrev below : Held → List Cell → Held
below h stack = record h { stack = stack }

pops : (P : Type 0) (a : Action) (h : Held) (K : Taken Sort → Type 0) → K (popped same (takes a) (map cell_sort h.stack)) → (K None → P) → ((x : Pops a h) → K (Some (map cell_sort x.taken.0, map cell_sort x.taken.1)) → P) → P
pops P a h K k none some = go (popped cell_sort (takes a) h.stack) refl (subst K (popped_map cell_sort (takes a) h.stack) k)
  where
    go : (o : Taken Cell) → popped cell_sort (takes a) h.stack ≡ o → K (by_sorts cell_sort o) → P
    go None is k = none k
    go (Some q) is k = some (record { taken = q; is = is; sorts = popped_sorts cell_sort (takes a) h.stack q is }) k

-- an action that goes on from the sorts that are held
record Goes (a : Action) (h : Held) (f : Frame) : Type 0 where
  operands : Pops a h
  done : Acts a (below h operands.taken.1) operands.taken.0 f

goes_held : (a : Action) (h : Held) (f : Frame) → frame_after a (sorts_held h) ≡ Some f → Goes a h f
goes_held a h f e = pops (Goes a h f) a h (λ o. (o >>= λ x. frame_done a (record { stack = x.1; locals = map cell_sort h.locals })) ≡ Some f) e (λ e. no_some f e)
    (λ x e. record { operands = x; done = done_sorts (below h x.taken.1) a x.taken.0 f x.sorts e })

acted_is : (a : Action) (h : Held) (f : Frame) (g : Goes a h f) → acted a h ≡ Some g.done.after
acted_is a h f g = ap (λ (o : Taken Cell). o >>= λ x. acted_on a (below h x.1) x.0) g.operands.is ∙ g.done.is

-- ---- the chain of the last action

test_some : (t : Test) (cells : List Cell) → map cell_sort cells ≡ test_takes t → (q : Part × Bool) × (test_part t cells ≡ Some q)
test_some (test.Zero c) cells e = let x = one_cell cells _ e in (_, ap (test_part (test.Zero c)) x.1)
test_some (test.Ints c) cells e = let x = two_cells cells _ _ e in (_, ap (test_part (test.Ints c)) x.2)
test_some test.Same cells e = let x = two_cells cells _ _ e in (_, ap (test_part test.Same) x.2)
test_some test.Other cells e = let x = two_cells cells _ _ e in (_, ap (test_part test.Other) x.2)
test_some test.Null cells e = let x = one_cell cells _ e in (_, ap (test_part test.Null) x.1)
test_some test.NonNull cells e = let x = one_cell cells _ e in (_, ap (test_part test.NonNull) x.1)

abbrev HasChain : Option Chain → Type 0
HasChain o = (c : Chain) × (o ≡ Some c)

next_some : (r : Option JType) (a : Action) (h : Held) (cells : List Cell) (n : Exit) → IsClean a → ends_method a ≡ false → map cell_sort cells ≡ takes a → HasChain (chain_with r a h cells n)
next_some r (act.Branch t target) h cells n i e s = let q = test_some t cells s in (_, ap (option_map (λ x. branch x (to target h) n)) q.1)
next_some r (act.Switch default cases) h cells n i e s = let x = one_cell cells _ s in (_, ap (λ (cs : List Cell). chain_with r (act.Switch default cases) h cs n) x.1)
next_some r (act.Divide o) h cells n i e s = let x = two_cells cells _ _ (s ∙ ap (map sort_of_word) i) in (_, ap (λ (cs : List Cell). chain_with r (act.Divide o) h cs n) x.2)
next_some r (act.GetField t f) h cells n i e s = let x = one_cell cells _ s in (_, ap (λ (cs : List Cell). chain_with r (act.GetField t f) h cs n) x.1)
next_some r (act.PutField t f) h cells n i e s = let x = two_cells cells _ _ s in (_, ap (λ (cs : List Cell). chain_with r (act.PutField t f) h cs n) x.2)
next_some r (act.LoadElement k) h cells n i e s = let x = two_cells cells _ _ s in (_, ap (λ (cs : List Cell). chain_with r (act.LoadElement k) h cs n) x.2)
next_some r (act.StoreElement k) h cells n i e s = let x = three_cells cells _ _ _ s in (_, ap (λ (cs : List Cell). chain_with r (act.StoreElement k) h cs n) x.3)
next_some r act.StoreRef h cells n i e s = let x = three_cells cells _ _ _ s in (_, ap (λ (cs : List Cell). chain_with r act.StoreRef h cs n) x.3)
next_some r (act.Cast class) h cells n i e s = let x = one_cell cells _ s in (_, ap (λ (cs : List Cell). chain_with r (act.Cast class) h cs n) x.1)
next_some r (act.InstanceOf class) h cells n i e s = let x = one_cell cells _ s in (_, ap (λ (cs : List Cell). chain_with r (act.InstanceOf class) h cs n) x.1)
next_some r act.Length h cells n i e s = let x = one_cell cells _ s in (_, ap (λ (cs : List Cell). chain_with r act.Length h cs n) x.1)
next_some r (act.CallOn d f) h cells n i e s = let x = more_cells cells _ _ (s ∙ ap (λ (d : Descriptor). map sort_of_type d.params) i.1.1) in (_, ap (λ (cs : List Cell). chain_with r (act.CallOn d f) h cs n) x.2)
next_some r (act.Give t) h cells n i e s = absurd (cc)
next_some r act.Throw h cells n i e s = absurd (cc)
next_some r a h cells n i e s = (_, refl)

given_some : (r : Option JType) (h : Held) (cells : List Cell) → map cell_sort cells ≡ sorts_of_result r → HasChain (given_chain r h cells)
given_some (Some t) h cells e = let x = one_cell cells _ e in (_, ap (given_chain (Some t) h) x.1)
given_some None h cells e = (_, ap (given_chain None h) (no_cells cells e))

-- an action that goes on ends no method
on_ends_none : (a : Action) (h g : Held) (cells : List Cell) → acted_on a h cells ≡ Some g → ends_method a ≡ false
on_ends_none (act.Give s) h g cells e = no_some g e
on_ends_none act.Throw h g cells e = no_some g e
on_ends_none a h g cells e = refl

goes_chain : (r : Option JType) (k : ℕ) (a : Action) (h : Held) (f : Frame) → IsClean a → Goes a h f → HasChain (chain_of r k a h)
goes_chain r k a h f clean g =
    let rest = below h g.operands.taken.1 in
    let cells = g.operands.taken.0 in
    let none = on_ends_none a rest g.done.after cells g.done.is in
    let c = next_some r a rest cells (to (suc k) g.done.after) clean none g.operands.sorts in (
      c.0,
      ap (λ (o : Taken Cell). o >>= λ x. if ends_method a then last_chain r a (below h x.1) x.0 else acted_on a (below h x.1) x.0 >>= λ after. chain_with r a (below h x.1) x.0 (to (suc k) after)) g.operands.is
          ∙ ap (λ (b : Bool). if b then last_chain r a rest cells else acted_on a rest cells >>= λ after. chain_with r a rest cells (to (suc k) after)) none
          ∙ ap (λ (o : Option Held). o >>= λ after. chain_with r a rest cells (to (suc k) after)) g.done.is ∙ c.1,
    )

ends_chain : (p : Program) (k : ℕ) (a : Action) (h : Held) → IsEnd p a → (x : Pops a h) → HasChain (chain_of p.desc.result k a h)
ends_chain p k (act.Give s) h is x =
    let c = given_some p.desc.result (below h x.taken.1) x.taken.0 (x.sorts ∙ is) in
    (c.0, ap (λ (o : Taken Cell). o >>= λ x. given_chain p.desc.result (below h x.1) x.0) x.is ∙ c.1)
ends_chain p k act.Throw h is x =
    let c = one_cell x.taken.0 _ x.sorts in
    (_, ap (λ (o : Taken Cell). o >>= λ x. last_chain p.desc.result act.Throw (below h x.1) x.0) x.is ∙ ap (last_chain p.desc.result act.Throw (below h x.taken.1)) c.1)
ends_chain p k a h is x = elim is [ ]

finds_held : (a : Action) (h : Held) (f : Frame) → Finds (takes a) f → f.stack ≡ map cell_sort h.stack → Pops a h
finds_held a h f (q, is) e = pops (Pops a h) a h (λ o. o ≡ Some q) (ap (popped same (takes a)) (sym e) ∙ is) (λ e. no_some q e) (λ x e. x)

-- ---- along a block

simple_of : (a : Action) → ends_block a ≡ false → IsSimple a
simple_of act.Nop e = tt
simple_of (act.Push n) e = tt
simple_of (act.Literal text) e = tt
simple_of (act.Load s k) e = tt
simple_of (act.Store s k) e = tt
simple_of (act.Increase k by) e = tt
simple_of (act.Move m) e = tt
simple_of (act.Scalar o) e = tt
simple_of (act.GetStatic t f) e = tt
simple_of (act.PutStatic t f) e = tt
simple_of a e = absurd (cc)

-- an action that ends the method ends its block
not_end : (p : Program) (a : Action) → ends_block a ≡ false → IsEnd p a → ⊥
not_end p (act.Give s) e is = cc
not_end p act.Throw e is = cc
not_end p a e is = elim is [ ]

ends_none : (p : Program) (k : ℕ) (a : Action) (b : Bool) → IsAt p k a → (Begins p (suc k) → ⊥) → ends_block a ≡ b → ends_block a ≡ false
ends_none p k a true at none e = absurd (none (blocks.next k a at e))
ends_none p k a false at none e = e

held_flows : (f : Frame) → Flows (sorts_held (held_at f)) f
held_flows f = subst (λ (g : Frame). Flows g f) (sym (held_sorts f)) (flows_itself f)

module _ (p : Program) (frames : List (Option Frame)) (well_typed : AreFrames p frames) (clean : (k : ℕ) (a : Action) → IsAt p k a → IsClean a) where
  -- what is held before the instruction at a place has the sorts of its frame
  pub record HeldAt (k : ℕ) (h : Held) : Type 0 where
    pub frame : Frame
    pub there : IsFrameAt frames k frame
    pub flows : Flows (sorts_held h) frame

  -- the instruction at a place goes on to the next one
  record GoesToNext (k : ℕ) (h : Held) : Type 0 where
    action : Action
    at : IsAt p k action
    simple : IsSimple action
    after : Held
    is : acted action h ≡ Some after
    next : HeldAt (suc k) after

  next_of : (k : ℕ) (h : Held) → HeldAt k h → (Begins p (suc k) → ⊥) → GoesToNext k h
  next_of k h t none =
      let y = well_typed.agrees.each k t.frame t.there in
      let ends = ends_none p k y.action (ends_block y.action) y.at none refl in
      elim y.goes [
        | inl l ↦ absurd (not_end p y.action ends l.0)
        | inr on ↦
            let from = goes_from y.action (sorts_held h) t.frame on.after t.flows on.is in
            let g = goes_held y.action h from.after from.is in
            let edge : LeadsTo frames on.after (suc k) = (subst (AllByRecursion (LeadsTo frames on.after)) (goes_on k y.action ends).0 on.edges).0 in
            record {
              action = y.action;
              at = y.at;
              simple = simple_of y.action ends;
              after = g.done.after;
              is = acted_is y.action h from.after g;
              next = record { frame = edge.target; there = edge.there; flows = subst (λ (f : Frame). Flows f edge.target) (sym g.done.sorts) (flows_flows from.after on.after edge.target from.flows edge.flows) };
            }
      ]

  -- what is held before the last instruction of a block, and that the block from place k on has the chain of that instruction
  record Along (n k last : ℕ) (h : Held) : Type 0 where
    held : Held
    is : acted_along p n k h ≡ Some held
    typed : HeldAt last held
    block : (c : Chain) (a : Action) → IsAt p last a → chain_of p.desc.result last a held ≡ Some c → IsBlock p k h c

  along : (first last : ℕ) → IsSpan p first last → (n k : ℕ) (h : Held) → first ≤ k → k + n ≡ last → HeldAt k h → Along n k last h
  along first last span zero k h le e t =
      let here : k ≡ last = omega arith in
      record { held = h; is = refl; typed = subst (λ (j : ℕ). HeldAt j h) here t; block = λ c a at ch. subst (λ (j : ℕ). IsBlock p j h c) (sym here) (actions.ends last h a c at ch) }
  along first last span (suc n) k h le e t =
      let x = next_of k h t (span.whole (suc k) (omega arith) (omega arith)) in
      let rest = along first last span n (suc k) x.after (omega arith) (omega arith) x.next in
      record {
        held = rest.held;
        is = ap (λ (o : Option Action). o >>= λ a. acted a h >>= λ g. acted_along p n (suc k) g) x.at ∙ ap (λ (o : Option Held). o >>= λ g. acted_along p n (suc k) g) x.is ∙ rest.is;
        typed = rest.typed;
        block = λ c a at ch. actions.goes_on k h x.after x.action c x.at x.simple x.is (rest.block c a at ch);
      }

  last_chain_is : (k : ℕ) (a : Action) (h : Held) → IsAt p k a → HeldAt k h → HasChain (chain_of p.desc.result k a h)
  last_chain_is k a h at t =
      let y = well_typed.agrees.each k t.frame t.there in
      subst (λ (a : Action). HasChain (chain_of p.desc.result k a h)) (some_of _ _ (sym y.at ∙ at)) (elim y.goes [
        | inl l ↦ ends_chain p k y.action h l.0 (finds_held y.action h t.frame l.1 t.flows.stack)
        | inr on ↦
            let from = goes_from y.action (sorts_held h) t.frame on.after t.flows on.is in
            goes_chain p.desc.result k y.action h from.after (clean k y.action y.at) (goes_held y.action h from.after from.is)
      ])

  -- a block with its chain: the one that its actions have from its frame on
  pub record Chained (b : Block) : Type 0 where
    pub frame : Frame
    pub there : IsFrameAt frames b.first frame
    pub chain : Chain
    pub is : place_chain p frames b ≡ Some chain
    pub block : IsBlock p b.first (held_at frame) chain
    -- its last action, and what is held before it, with the sorts of the frame there
    pub action : Action
    pub at : IsAt p b.last action
    pub held : Held
    pub along_ : acted_along p (b.last - b.first) b.first (held_at frame) ≡ Some held
    pub typed : HeldAt b.last held
    pub ends : chain_of p.desc.result b.last action held ≡ Some chain

  pub chained_at : (b : Block) → IsSpan p b.first b.last → Reached p b.first → Chained b
  chained_at b span reached =
      let f = reached_frame p frames well_typed.agrees b.first reached in
      let t : HeldAt b.first (held_at f.0) = record { frame = f.0; there = f.1; flows = held_flows f.0 } in
      let a = along b.first b.last span (b.last - b.first) b.first (held_at f.0) (omega arith) (let le = span.some in omega arith) t in
      let y = well_typed.agrees.each b.last a.typed.frame a.typed.there in
      let c = last_chain_is b.last y.action a.held y.at a.typed in
      record {
        frame = f.0;
        there = f.1;
        chain = c.0;
        is = ap (λ (o : Option (Option Frame)). o >>= option_map held_at >>= after_first b) f.1 ∙ ap (λ (o : Option Held). o >>= last_of b) a.is ∙ ap (λ (o : Option Action). o >>= λ x. chain_of p.desc.result b.last x a.held) y.at ∙ c.1;
        block = a.block c.0 y.action y.at c.1;
        action = y.action;
        at = y.at;
        held = a.held;
        along_ = a.is;
        typed = a.typed;
        ends = c.1;
      }
    where
      last_of : Block → Held → Option Chain
      last_of b g = slice_get p.actions b.last >>= λ a. chain_of p.desc.result b.last a g

      after_first : Block → Held → Option Chain
      after_first b h = acted_along p (b.last - b.first) b.first h >>= λ g. slice_get p.actions b.last >>= λ a. chain_of p.desc.result b.last a g

  pub chained : (blocks : List Block) → IsFlow p blocks → (n : ℕ) (b : Block) → slice_get blocks n ≡ Some b → Chained b
  chained blocks flow n b at = let is = flow.each n b at in chained_at b is.span is.reached

  -- what is held after an action that goes on has the sorts of the frames to which it leads
  pub leads_typed : (k j : ℕ) (a : Action) (h g : Held) → IsAt p k a → HeldAt k h → acted a h ≡ Some g → Contains (successors k a) j → HeldAt j g
  leads_typed k j a h g at t is among =
      let y = well_typed.agrees.each k t.frame t.there in
      let same_action : y.action ≡ a = some_of _ _ (sym y.at ∙ at) in
      let leads : Contains (successors k y.action) j = subst (λ (a : Action). Contains (successors k a) j) (sym same_action) among in
      elim y.goes [
        | inl l ↦ absurd (no_successor p k j y.action l.0 leads)
        | inr on ↦
            let from = goes_from y.action (sorts_held h) t.frame on.after t.flows on.is in
            let z = goes_held y.action h from.after from.is in
            let same : z.done.after ≡ g = some_of _ _ (sym (acted_is y.action h from.after z) ∙ ap (λ (a : Action). acted a h) same_action ∙ is) in
            let edge = each_of (LeadsTo frames on.after) (successors k y.action) j on.edges leads in
            record { frame = edge.target; there = edge.there; flows = subst (λ (f : Frame). Flows f edge.target) (sym z.done.sorts ∙ ap sorts_held same) (flows_flows from.after on.after edge.target from.flows edge.flows) }
      ]

  -- IN INFERRED FRAMES EACH BLOCK HAS ITS CHAIN
  pub typed_chain : (blocks : List Block) → IsFlow p blocks → (n : ℕ) (b : Block) → slice_get blocks n ≡ Some b → (c : Chain) × (place_chain p frames b ≡ Some c)
  typed_chain blocks flow n b at = let x = chained blocks flow n b at in (x.chain, x.is)

  -- a block with its chain, action by action
  pub block_is : (blocks : List Block) → IsFlow p blocks → (n : ℕ) (b : Block) → slice_get blocks n ≡ Some b → (c : Chain) → place_chain p frames b ≡ Some c
      → (f : Frame) × IsFrameAt frames b.first f × IsBlock p b.first (held_at f) c
  block_is blocks flow n b at c e =
      let x = chained blocks flow n b at in
      (x.frame, x.there, subst (IsBlock p b.first (held_at x.frame)) (some_of _ _ (sym x.is ∙ e)) x.block)
