-- The tokens at the exits of a flow's blocks, and what its loops don't carry.
use Rattle.std.proofs.Common.{◌≡◌, ℕ, zero, suc, ◌+◌, ◌-◌, ◌<◌, Bool, true, false, List, [], ◌∷◌, ◌++◌, length, Option, Some, None, refl, ap, sym, subst, ◌∙◌, inl, inr, arith}
use Rattle.pv_runs.proofs.Words.{◌⊎◌, not, nat_lt, slice_get, unwrap_or, option_map, Contains, list_any, or_parts, ltb-true, ◌>>=◌, Sort, Action, Program, Frame, IsFrameAt, AreFrames, some_of, no_some, contains_cases, contains_none, Block, Departure, Goes, Returns, Throws, departures, IsFlow, edges_of, Forest, IsForest, around, Part, Slot, To, Exit, InChain, TokenPart, kept, calls, local_place, local_slot, by_turns, Cell, Held, local_part, stack_part, slots_of, local_cells, stack_cells, held_at, call_parts, acted_on, held_first, block_chain, writes_along, block_writes, always_carried, members_of, writes_in, carries}
use Rattle.pv_runs.proofs.Turns.{turns_local}
use Rattle.pv_runs.proofs.Tokens.{acted_token}
use Rattle.pv_runs.proofs.Departures.{Departs, exit_departs}
use Rattle.pv_runs.proofs.Edges.{ExitOf, exit_of, goes_place, placed, no_exit}
use Rattle.pv_runs.proofs.Kept.{Local, heap, local, popped_leaves, on_leaves, along_keeps, token_kept, along_token}
use Rattle.pv_runs.proofs.Members.{member_of}
use Rattle.pv_runs.proofs.Frames.{frame_long}

-- the frame at which a block begins
pub first_frame : (frames : List (Option Frame)) (b : Block) (h : Held) → held_first frames b ≡ Some h → (f : Frame) × IsFrameAt frames b.first f × (held_at f ≡ h)
first_frame frames b h e = elim (slice_get frames b.first) as (λ o. slice_get frames b.first ≡ o → (o >>= option_map held_at) ≡ Some h → (f : Frame) × IsFrameAt frames b.first f × (held_at f ≡ h)) [
  | None ↦ λ at e. no_some h e
  | Some o ↦ λ at e. elim o as (λ o. slice_get frames b.first ≡ Some o → option_map held_at o ≡ Some h → (f : Frame) × IsFrameAt frames b.first f × (held_at f ≡ h)) [
    | None ↦ λ at e. no_some h e
    | Some f ↦ λ at e. (f, at, some_of (held_at f) h e)
  ] at e
] refl e

-- ---- tokens

departs_token : (a : Action) (h : Held) (cells : List Cell) (d : Departure) (e : Exit) → TokenPart h.token → Departs a h cells d e → TokenPart (e.slots 0)
departs_token a h cells (Goes place) e t (g, is, inl s) = subst (λ (e : Exit). TokenPart (e.slots 0)) (sym is) (subst (λ (g : Held). TokenPart g.token) (sym s) t)
departs_token a h cells (Goes place) e t (g, is, inr (inr s)) = subst (λ (e : Exit). TokenPart (e.slots 0)) (sym is) (subst (λ (g : Held). TokenPart g.token) (sym s.2) t)
departs_token a h cells (Goes place) e t (g, is, inr (inl s)) = subst (λ (e : Exit). TokenPart (e.slots 0)) (sym is) (token_kept h cells g.token t (acted_token a h g cells s))
departs_token a h cells Returns e t (q, is) = subst (λ (e : Exit). TokenPart (e.slots 0)) (sym is) t
departs_token a h cells Throws e t (q, g, is, inl s) = subst (λ (e : Exit). TokenPart (e.slots 0)) (sym is) (subst (λ (g : Held). TokenPart g.token) (sym s) t)
departs_token a h cells Throws e t (q, g, is, inr s) = subst (λ (e : Exit). TokenPart (e.slots 0)) (sym is) (subst (λ (g : Held). TokenPart g.token) (sym s.1) (calls s.0 (call_parts h cells)))

-- the token at an exit of a block is the one at its beginning, or that and the end of a call
pub exit_token : (p : Program) (frames : List (Option Frame)) (blocks : List Block) (n : ℕ) (e : Exit) → InChain (block_chain p frames blocks n) e → TokenPart (e.slots 0)
exit_token p frames blocks n e i = elim (exit_of p frames blocks n e i) [
  | inl none ↦ subst (λ (e : Exit). TokenPart (e.slots 0)) none kept
  | inr x ↦
      let h = x.has in
      let f = first_frame frames x.block h.start h.begins in
      let start = subst (λ (h : Held). TokenPart h.token) f.2 kept in
      let last = along_token p (x.block.last - x.block.first) x.block.first h.start h.last start h.along in
      let d = exit_departs (Departs h.action (record h.last { stack = h.exits.stack }) h.exits.cells) (departures x.block.last h.action) x.chain x.exit h.exits.exits x.within in
      subst (λ (e : Exit). TokenPart (e.slots 0)) x.same (departs_token h.action (record h.last { stack = h.exits.stack }) h.exits.cells d.0 x.exit last d.2)
]

-- ---- what isn't carried

turned_off : (f : ℕ → Bool) (i : ℕ) → by_turns f (λ j. true) i ≡ false → (k : ℕ) × (f k ≡ false) × (i ≡ local_place k)
turned_off f zero e = (0, e, refl)
turned_off f (suc zero) e = absurd (cc)
turned_off f (suc (suc i)) e = let q = turned_off (λ k. f (suc k)) i e in (suc q.0, q.1, ap (λ (i : ℕ). suc (suc i)) q.2)

below : (k n : ℕ) → not (nat_lt k n) ≡ false → k < n
below k n e = elim (nat_lt k n) as (λ b. nat_lt k n ≡ b → not b ≡ false → k < n) [ true ↦ λ lt e. ltb-true k n lt | false ↦ λ lt e. absurd (cc) ] refl e

-- only the heap and locals of the method may be left out
left_out : (p : Program) (s : ℕ) → always_carried p s ≡ false → (s ≡ 3) ⊎ ((k : ℕ) × (k < p.max_locals) × (s ≡ local_slot k))
left_out p zero e = absurd (cc)
left_out p (suc zero) e = absurd (cc)
left_out p (suc (suc zero)) e = absurd (cc)
left_out p (suc (suc (suc zero))) e = inl refl
left_out p (suc (suc (suc (suc i)))) e = let q = turned_off (λ k. not (nat_lt k p.max_locals)) i e in inr (q.0, below q.0 p.max_locals q.1, ap (λ (i : ℕ). suc (suc (suc (suc i)))) q.2)

local_at : (sorts : List Sort) (i k j : ℕ) → k < length sorts → j ≡ i + k → local_part (local_cells i sorts) k ≡ Slot (local_slot j)
local_at [] i k j lt e = absurd (omega arith)
local_at (s ∷ sorts) i zero j lt e = ap (λ (i : ℕ). Slot (local_slot i)) (let q : i ≡ j = omega arith in q)
local_at (s ∷ sorts) i (suc k) j lt e = local_at sorts (suc i) k j (omega arith) (omega arith)

none_passes : (test : ℕ → Bool) (xs : List ℕ) (x : ℕ) → list_any test xs ≡ false → Contains xs x → test x ≡ false
none_passes test [] x e among = absurd (contains_none x among)
none_passes test (y ∷ xs) x e among =
    let both = or_parts (test y) (list_any test xs) e in
    elim (contains_cases y x xs among) [ inl same ↦ subst (λ (x : ℕ). test x ≡ false) same both.0 | inr more ↦ none_passes test xs x both.1 more ]

departs_slot : (a : Action) (h : Held) (cells : List Cell) (place s : ℕ) (e : Exit) (q : Part) → Local s → slots_of h s ≡ q → ((g : Held) → acted_on a h cells ≡ Some g → slots_of g s ≡ q) → Departs a h cells (Goes place) e → e.slots s ≡ q
departs_slot a h cells place s e q l was now (g, is, inl same) = ap (λ (e : Exit). e.slots s) is ∙ ap (λ (g : Held). slots_of g s) same ∙ was
departs_slot a h cells place s e q l was now (g, is, inr (inl on)) = ap (λ (e : Exit). e.slots s) is ∙ now g on
departs_slot a h cells place s e q l was now (g, is, inr (inr pushed)) =
    ap (λ (e : Exit). e.slots s) is ∙ ap (λ (g : Held). slots_of g s) pushed.2 ∙ popped_leaves h (record { sort = pushed.0; part = pushed.1 } ∷ h.stack) s l ∙ was

module _ (p : Program) (frames : List (Option Frame)) (blocks : List Block) (well_typed : AreFrames p frames) (is : IsFlow p blocks) where
  -- the slot, which isn't always carried, has its own value at the beginning of a block
  record Starts (h : Held) (s : ℕ) : Type 0 where
    tracked : Local s
    own : slots_of h s ≡ Slot s

  starts : (b : Block) (h : Held) (s : ℕ) → held_first frames b ≡ Some h → always_carried p s ≡ false → Starts h s
  starts b h s e out =
      let f = first_frame frames b h e in
      subst (λ (h : Held). Starts h s) f.2 (elim (left_out p s out) [
        | inl at_heap ↦ subst (Starts (held_at f.0)) (sym at_heap) (record { tracked = heap; own = refl })
        | inr at_local ↦ subst (Starts (held_at f.0)) (sym at_local.2) (record {
          tracked = local at_local.0;
          own = turns_local (local_part (local_cells 0 f.0.locals)) (stack_part (stack_cells f.0.stack)) at_local.0
              ∙ local_at f.0.locals 0 at_local.0 at_local.0 (let long = frame_long p frames well_typed b.first f.0 f.1 in let lt = at_local.1 in omega (arith, long, lt)) (omega arith);
        })
      ])

  -- a block that doesn't write a slot has it at each exit to a block as it was
  unwritten : (n m s : ℕ) (e : Exit) → always_carried p s ≡ false → writes_in p frames blocks s n ≡ false → InChain (block_chain p frames blocks n) e → e.dest ≡ To m → e.slots s ≡ Slot s
  unwritten n m s e out w i t = elim (exit_of p frames blocks n e i) [ inl none ↦ absurd (no_exit e m none t) | inr x ↦ go x ]
    where
      go : ExitOf p frames blocks n e → e.slots s ≡ Slot s
      go x =
          let h = x.has in
          let b = x.block in
          let a = h.action in
          let rest = record h.last { stack = h.exits.stack } in
          let st = starts b h.start s h.begins out in
          let in_block : block_writes p frames s b ≡ false = subst (λ (o : Option Block). unwrap_or (option_map (block_writes p frames s) o) false ≡ false) x.at w in
          let in_actions : writes_along p (suc (b.last - b.first)) b.first h.start s ≡ false = subst (λ (o : Option Held). unwrap_or (option_map (λ h. writes_along p (suc (b.last - b.first)) b.first h s) o) false ≡ false) h.begins in_block in
          let some = (is.each n b x.at).span.some in
          let q = along_keeps p (b.last - b.first) b.first b.last h.start h.last a s st.tracked (omega (arith, some)) h.along h.at in_actions in
          let own : slots_of h.last s ≡ Slot s = q.0 ∙ st.own in
          let to_place = placed blocks x.exit.dest m (ap (λ (e : Exit). e.dest) x.same ∙ t) in
          let d = exit_departs (Departs a rest h.exits.cells) (departures b.last a) x.chain x.exit h.exits.exits x.within in
          let goes = goes_place a rest h.exits.cells d.0 x.exit to_place.0 d.2 to_place.1 in
          ap (λ (e : Exit). e.slots s) (sym x.same) ∙ departs_slot a rest h.exits.cells to_place.0 s x.exit (Slot s) st.tracked
          (popped_leaves h.last h.exits.stack s st.tracked ∙ own)
          (λ g on. on_leaves a h.last g h.exits.cells h.exits.stack s st.tracked h.exits.popped on q.1 ∙ own)
          (subst (λ (d : Departure). Departs a rest h.exits.cells d x.exit) goes d.2)

  -- an exit of a block in a loop leaves a slot as it is that the loop doesn't carry
  pub exit_keeps : (forest : Forest) → IsForest (edges_of blocks) forest → (n m h s : ℕ) (G B : List ℕ) (e : Exit) → around forest n ≡ G ++ h ∷ B → carries p frames blocks forest.loops.items h s ≡ false
      → InChain (block_chain p frames blocks n) e → e.dest ≡ To m → e.slots s ≡ Slot s
  exit_keeps forest f n m h s G B e inside out i t =
      let both = or_parts (always_carried p s) (list_any (writes_in p frames blocks s) (members_of forest.loops.items h)) out in
      unwritten n m s e both.0 (none_passes (writes_in p frames blocks s) (members_of forest.loops.items h) n both.1 (member_of (edges_of blocks) forest f n h G B inside)) i t
