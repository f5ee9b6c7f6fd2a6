-- A whole block: from the state where it begins to the states at its exits.
use Rattle.std.proofs.Common.{◌≡◌, ℕ, zero, suc, ◌+◌, ◌-◌, ◌<◌, Bool, true, false, List, [], ◌∷◌, length, Option, Some, None, refl, ap, sym, subst, ◌∙◌, inl, inr, arith, eq-eqb, ne_eqb}
use Rattle.pv_block.proofs.Words.{◌==◌, ◌⊎◌, if◌then◌else◌, map, slice_get, Contains, AllZip, AllByRecursion, JType, Sort, Action, Program, IsAt, popped, takes, successors, some_of, no_some, Node, Graph, Part, Slot, To, End, Exit, Chain, Leave, InChain, Stand, standing_reads, cell_sort, clear_part, unit_part, local_slot, stack_slot, local_part, stack_part, slots_of, local_cells, stack_cells, held_at, acted, chain_of, turns_both, turns_local, turns_stack, Departs, has_exits, exit_departs, bound, sorts_held, HeldAt, Chained, chained_at, leads_typed, place_chain, Cell, Held, Ran, Leaving, Goes, Returns, Throws, Entry, StandsFor, CellStands, HoldsFor, AreSorted, known_by, node_of_cell, local_node, stack_node, slot_of, entry_of, ExitStands, RunsAlong, IsCellOf, IsStateOf, FitsSort, FitsFrame, RanFor, BeginsAt, IsSortedExit, IsSortedRan, StateStands, IsExit, LeavesAlong, LeavesBy, LeavesAs, GivesResult, IsSortedState, IsSortedLeaving, AreSortedExits, HoldsFirst, ArePlain, ActsAlong}
use Rattle.std.proofs.lemmas.Slice.Zip.{AllZip-long}
use Rattle.pv_frame.specs.declared.sort.Sort.TheVariants as sort
use Rattle.pv_frame.specs.declared.action.Action.TheVariants as act
use Rattle.pv_frame.specs.declared.frame.Frame.{Frame}
use Rattle.pv_frame.specs.Frames.{same, frame_done, frame_after, Flows, IsEnd, Reached, AreFrames}
use Rattle.pv_flow.specs.declared.block.Block.{Block}
use Rattle.pv_flow.specs.Blocks.{IsSpan}
use Rattle.pv_flow.specs.Exits.{Departure, departures}
use Rattle.pv_flow.specs.Exits as leaves
use Rattle.pv_flow.proofs.Cited.{goes_to_successors}
use Rattle.pv_equations.specs.Flow as flow
use Rattle.pv_runs.specs.Held as parts
use Rattle.pv_runs.specs.Clean.{IsClean}
use Rattle.pv_block.specs.declared.ran.State.{State}
use Rattle.pv_block.specs.Ran.{result_sort}

-- ---- slots where the block is left

-- the node that is known stands for the part
abbrev Known : Entry → List Node → Option ℕ → Part → Type 0
Known at nodes o p = (n : ℕ) → o ≡ Some n → StandsFor at nodes n p

module _ (at : Entry) (nodes : List Node) where
  cell_known : (s : Sort) (n m : ℕ) (p : Part) → (s ≡ sort.Unknown) ⊎ StandsFor at nodes n p → known_by s n ≡ Some m → StandsFor at nodes m p
  cell_known s n m p (inl u) e = no_some m (sym (ap (λ (s : Sort). known_by s n) u) ∙ e)
  cell_known sort.Int n m p (inr x) e = subst (λ (n : ℕ). StandsFor at nodes n p) (some_of _ _ e) x
  cell_known sort.Long n m p (inr x) e = subst (λ (n : ℕ). StandsFor at nodes n p) (some_of _ _ e) x
  cell_known sort.Ref n m p (inr x) e = subst (λ (n : ℕ). StandsFor at nodes n p) (some_of _ _ e) x
  cell_known sort.Unknown n m p (inr x) e = no_some m e

  locals_known : (cs : List Cell) (ds : List parts.Cell) → AllZip (CellStands at nodes) cs ds → (k : ℕ) → Known at nodes (local_node cs k) (local_part ds k)
  locals_known [] [] z k n e = no_some n e
  locals_known [] (d ∷ ds) z k n e = absurd z
  locals_known (c ∷ cs) [] z k n e = absurd z
  locals_known (c ∷ cs) (d ∷ ds) z zero n e = cell_known c.sort c.node n d.part z.0.1 e
  locals_known (c ∷ cs) (d ∷ ds) z (suc k) n e = locals_known cs ds z.1 k n e

  stack_known : (cs : List Cell) (ds : List parts.Cell) → AllZip (CellStands at nodes) cs ds → (j : ℕ) → Known at nodes (stack_node cs j) (stack_part ds j)
  stack_known [] [] z j n e = no_some n e
  stack_known [] (d ∷ ds) z j n e = absurd z
  stack_known (c ∷ cs) [] z j n e = absurd z
  stack_known (c ∷ cs) (d ∷ ds) z j n e =
      subst (λ (l : ℕ). StandsFor at nodes n (if j == l then d.part else stack_part ds j)) (sym (AllZip-long (CellStands at nodes) cs ds z.1))
      (elim (j == length cs) as (λ b. (if b then node_of_cell c else stack_node cs j) ≡ Some n → StandsFor at nodes n (if b then d.part else stack_part ds j)) [
        | true ↦ λ e. cell_known c.sort c.node n d.part z.0.1 e
        | false ↦ λ e. stack_known cs ds z.1 j n e
      ] e)

  slots_known : (c : State) (h : parts.Held) → StateStands at nodes c h → (s : ℕ) → Known at nodes (slot_of c s) (slots_of h s)
  slots_known c h x zero n e = subst (λ (n : ℕ). StandsFor at nodes n h.token) (some_of _ _ e) x.token
  slots_known c h x (suc zero) n e = no_some n e
  slots_known c h x (suc (suc zero)) n e = no_some n e
  slots_known c h x (suc (suc (suc zero))) n e = subst (λ (n : ℕ). StandsFor at nodes n h.heap) (some_of _ _ e) x.heap
  slots_known c h x (suc (suc (suc (suc s)))) n e =
      turns_both (Known at nodes) (local_node c.locals) (stack_node c.stack) (local_part h.locals) (stack_part h.stack) (locals_known c.locals h.locals x.locals) (stack_known c.stack h.stack x.stack) s n e

  exit_stands : (after : Option parts.Held) (e : Leaving) (x : Exit) → IsExit at nodes after e x → ExitStands at nodes e x
  exit_stands after (Goes place c) x h = subst (ExitStands at nodes (Goes place c)) h.2 (record { dest = refl; slots_ = slots_known c h.0 h.3 })
  exit_stands after (Returns e) x h = h
  exit_stands after (Throws e) x h = h

  -- A BLOCK THAT IS LEFT ALONG A CHAIN RUNS ALONG IT
  pub runs_along : (after : Option parts.Held) (ts : List ℕ) (es : List Leaving) (c : Chain) → LeavesAlong at nodes after ts es c → RunsAlong at nodes ts es c
  runs_along after [] [] c h = absurd h
  runs_along after [] (e ∷ []) (Leave x) h = exit_stands after e x h
  runs_along after [] (e ∷ []) (flow.Test p x rest) h = absurd h
  runs_along after [] (e ∷ f ∷ es) c h = absurd h
  runs_along after (t ∷ ts) [] c h = absurd h
  runs_along after (t ∷ ts) (e ∷ es) (Leave x) h = absurd h
  runs_along after (t ∷ ts) (e ∷ es) (flow.Test p x rest) h = (h.0, exit_stands after e x h.1, runs_along after ts es rest h.2)

-- ---- slots where the block begins

slot_stands : (g : Graph) (c : State) (new : List Node) (s n : ℕ) → Stand g.nodes new → slot_of c s ≡ Some n → StandsFor (entry_of g c) new n (Slot s)
slot_stands g c new s n st e depth names base x = standing_reads.reads g.nodes new names names n (base s) st (λ h s n i. i) (x.slots s n e)

known_or : (s : Sort) (n : ℕ) → (s ≡ sort.Unknown) ⊎ (known_by s n ≡ Some n)
known_or sort.Int n = inr refl
known_or sort.Long n = inr refl
known_or sort.Ref n = inr refl
known_or sort.Unknown n = inl refl

module _ (g : Graph) (c : State) (new : List Node) (st : Stand g.nodes new) where
  first_cell : (d : Cell) (s : Sort) (i : ℕ) → IsCellOf g d s → slot_of c i ≡ node_of_cell d → CellStands (entry_of g c) new d (record { sort = s; part = Slot i })
  first_cell d s i is e = (is.0, elim (known_or d.sort d.node) [ inl u ↦ inl u | inr k ↦ inr (slot_stands g c new i d.node st (e ∙ k)) ])

  first_locals : (k : ℕ) (cs : List Cell) (sorts : List Sort) → AllZip (IsCellOf g) cs sorts → ((j : ℕ) → slot_of c (local_slot (k + j)) ≡ local_node cs j) → AllZip (CellStands (entry_of g c) new) cs (local_cells k sorts)
  first_locals k [] [] z e = tt
  first_locals k [] (s ∷ sorts) z e = absurd z
  first_locals k (d ∷ cs) [] z e = absurd z
  first_locals k (d ∷ cs) (s ∷ sorts) z e = (
    first_cell d s (local_slot k) z.0 (let i : k + 0 ≡ k = omega arith in subst (λ (m : ℕ). slot_of c (local_slot m) ≡ node_of_cell d) i (e 0)),
    first_locals (suc k) cs sorts z.1 (λ j. let i : k + suc j ≡ suc k + j = omega arith in subst (λ (m : ℕ). slot_of c (local_slot m) ≡ local_node cs j) i (e (suc j))),
  )

  first_stack : (cs : List Cell) (sorts : List Sort) → AllZip (IsCellOf g) cs sorts → ((j : ℕ) → j < length cs → slot_of c (stack_slot j) ≡ stack_node cs j) → AllZip (CellStands (entry_of g c) new) cs (stack_cells sorts)
  first_stack [] [] z e = tt
  first_stack [] (s ∷ sorts) z e = absurd z
  first_stack (d ∷ cs) [] z e = absurd z
  first_stack (d ∷ cs) (s ∷ sorts) z e =
      let long : length cs ≡ length sorts = sym (AllZip-long (IsCellOf g) cs sorts z.1) in
      let top : stack_node (d ∷ cs) (length cs) ≡ node_of_cell d = ap (λ (b : Bool). if b then node_of_cell d else stack_node cs (length cs)) (eq-eqb (length cs) (length cs) refl) in (
        subst (λ (m : ℕ). CellStands (entry_of g c) new d (record { sort = s; part = Slot (stack_slot m) })) long (first_cell d s (stack_slot (length cs)) z.0 (e (length cs) (omega arith) ∙ top)),
        first_stack cs sorts z.1 (λ j less.
            let other : (j == length cs) ≡ false = ne_eqb j (length cs) (λ same. absurd (omega (arith, same, less))) in
            e j (omega (arith, less)) ∙ ap (λ (b : Bool). if b then node_of_cell d else stack_node cs j) other),
      )

  -- WHERE A BLOCK BEGINS, WHAT IS HELD IN NODES STANDS FOR WHAT IS HELD IN PARTS
  pub holds_first : (f : Frame) (unit clear : ℕ) → IsStateOf g c f → StandsFor (entry_of g c) new unit unit_part → StandsFor (entry_of g c) new clear clear_part
      → HoldsFor (entry_of g c) new (record { stack = c.stack; locals = c.locals; heap = c.heap; token = c.token; unit = unit; clear = clear; start = c.token }) (held_at f)
  holds_first f unit clear x u k = record {
    stand = st;
    stack = first_stack c.stack f.stack x.stack (λ j less. turns_stack (local_node c.locals) (stack_node c.stack) j);
    locals = first_locals 0 c.locals f.locals x.locals (λ j. let i : 0 + j ≡ j = omega arith in subst (λ (m : ℕ). slot_of c (local_slot m) ≡ local_node c.locals j) (sym i) (turns_local (local_node c.locals) (stack_node c.stack) j));
    heap = slot_stands g c new 3 c.heap st refl;
    token = slot_stands g c new 0 c.token st refl;
    unit = u;
    clear = k;
    start = slot_stands g c new 0 c.token st refl;
  }

cells_sorted : (g : Graph) (cs : List Cell) (sorts : List Sort) → AllZip (IsCellOf g) cs sorts → AreSorted g cs
cells_sorted g [] [] z = tt
cells_sorted g [] (s ∷ sorts) z = absurd z
cells_sorted g (c ∷ cs) [] z = absurd z
cells_sorted g (c ∷ cs) (s ∷ sorts) z = (z.0.1, cells_sorted g cs sorts z.1)

pub state_is_sorted : (g : Graph) (c : State) (f : Frame) → IsStateOf g c f → IsSortedState g c
state_is_sorted g c f x = record { stack = cells_sorted g c.stack f.stack x.stack; locals = cells_sorted g c.locals f.locals x.locals; heap = x.heap; token = x.token }

-- ---- sorts where the block is left

module _ (g : Graph) (at : Entry) where
  cells_of : (cs : List Cell) (ds : List parts.Cell) → AllZip (CellStands at g.nodes) cs ds → AreSorted g cs → AllZip (IsCellOf g) cs (map cell_sort ds)
  cells_of [] [] z x = tt
  cells_of [] (d ∷ ds) z x = absurd z
  cells_of (c ∷ cs) [] z x = absurd z
  cells_of (c ∷ cs) (d ∷ ds) z x = ((z.0.0, x.0), cells_of cs ds z.1 x.1)

  cells_fit : (cs : List Cell) (ds : List parts.Cell) (sorts : List Sort) → AllZip (CellStands at g.nodes) cs ds → AreSorted g cs → AllZip (λ s t. (t ≡ s) ⊎ (t ≡ sort.Unknown)) (map cell_sort ds) sorts → AllZip (FitsSort g) cs sorts
  cells_fit [] [] [] z x y = tt
  cells_fit [] [] (s ∷ sorts) z x y = absurd y
  cells_fit [] (d ∷ ds) sorts z x y = absurd z
  cells_fit (c ∷ cs) [] sorts z x y = absurd z
  cells_fit (c ∷ cs) (d ∷ ds) [] z x y = absurd y
  cells_fit (c ∷ cs) (d ∷ ds) (s ∷ sorts) z x y = ((elim y.0 [ inl e ↦ inl (z.0.0 ∙ sym e) | inr u ↦ inr u ], x.0), cells_fit cs ds sorts z.1 x.1 y.1)

  fits_frame : (c : State) (h : parts.Held) (f : Frame) → StateStands at g.nodes c h → IsSortedState g c → Flows (sorts_held h) f → FitsFrame g c f
  fits_frame c h f s x y = record {
    stack = subst (AllZip (IsCellOf g) c.stack) (sym y.stack) (cells_of c.stack h.stack s.stack x.stack);
    locals = cells_fit c.locals h.locals f.locals s.locals x.locals y.locals;
    heap = x.heap;
    token = x.token;
  }

place_of : {m n : ℕ} → To m ≡ To n → m ≡ n
place_of e = cc

-- the exits of a chain that go to places go to successors
leads_on : (r : Option JType) (k : ℕ) (a : Action) (h : parts.Held) (c : Chain) → chain_of r k a h ≡ Some c → (e : Exit) → InChain c e → (j : ℕ) → e.dest ≡ To j → Contains (successors k a) j
leads_on r k a h c is e among j to_j =
    let x = has_exits r k a h c is in
    let d = exit_departs (Departs a (record h { stack = x.stack }) x.cells) (departures k a) c e x.exits among in
    (goes_to_successors k a j).0 (went d.0 d.1 d.2)
  where
    went : (d : Departure) → Contains (departures k a) d → Departs a (record h { stack = (has_exits r k a h c is).stack }) (has_exits r k a h c is).cells d e → Contains (departures k a) (leaves.Goes j)
    went (leaves.Goes place) among (g, same, _) = let there : To place ≡ To j = sym (ap (λ (e : Exit). e.dest) same) ∙ to_j in subst (λ (j : ℕ). Contains (departures k a) (leaves.Goes j)) (place_of there) among
    went leaves.Returns among (result, same) = let there : End flow.Return ≡ To j = sym (ap (λ (e : Exit). e.dest) same) ∙ to_j in absurd (cc)
    went leaves.Throws among (fault, g, same, _) = let there : End flow.Throw ≡ To j = sym (ap (λ (e : Exit). e.dest) same) ∙ to_j in absurd (cc)

module _ (p : Program) (frames : List (Option Frame)) (well_typed : AreFrames p frames) (clean : (k : ℕ) (a : Action) → IsAt p k a → IsClean a) where
  module _ (g : Graph) (at : Entry) (k : ℕ) (a : Action) (h : parts.Held) (there : IsAt p k a) (typed : HeldAt p frames well_typed clean k h) where
    exit_sorted : (e : Leaving) (x : Exit) → IsExit at g.nodes (acted a h) e x → IsSortedLeaving g (result_sort p.desc.result) e → ((j : ℕ) → x.dest ≡ To j → Contains (successors k a) j) → IsSortedExit g p frames e
    exit_sorted (Goes place c) x (after, is, same, stands) s leads =
        let t = leads_typed p frames well_typed clean k place a h is.held there typed is.is (leads place (sym (ap (λ (e : Exit). e.dest) same))) in
        let sorts : sorts_held is.held ≡ sorts_held after = cc (is.stack, is.locals) in
        (t.frame, t.there, fits_frame g at c after t.frame stands s (subst (λ (f : Frame). Flows f t.frame) sorts t.flows))
    exit_sorted (Returns e) x is s leads = s
    exit_sorted (Throws e) x is s leads = s

    -- THE EXITS OF A BLOCK FIT THE FRAMES TO WHICH THEY GO
    pub exits_sorted : (ts : List ℕ) (es : List Leaving) (c : Chain) → LeavesAlong at g.nodes (acted a h) ts es c → AllByRecursion (IsSortedLeaving g (result_sort p.desc.result)) es
        → ((e : Exit) → InChain c e → (j : ℕ) → e.dest ≡ To j → Contains (successors k a) j) → AllByRecursion (IsSortedExit g p frames) es
    exits_sorted [] [] c l s leads = tt
    exits_sorted [] (e ∷ []) (Leave x) l s leads = (exit_sorted e x l s.0 (leads x refl), tt)
    exits_sorted [] (e ∷ []) (flow.Test t x rest) l s leads = absurd l
    exits_sorted [] (e ∷ f ∷ es) c l s leads = absurd l
    exits_sorted (t ∷ ts) [] c l s leads = tt
    exits_sorted (t ∷ ts) (e ∷ es) (Leave x) l s leads = absurd l
    exits_sorted (t ∷ ts) (e ∷ es) (flow.Test q x rest) l s leads = (exit_sorted e x l.1 s.0 (leads x (inl refl)), exits_sorted ts es rest l.2 s.1 (λ y among. leads y (inr among)))

-- ---- the whole

module _ (p : Program) (frames : List (Option Frame)) (well_typed : AreFrames p frames) (plain_ : ArePlain p) (b : Block) (span : IsSpan p b.first b.last) (reached : Reached p b.first) where
  abbrev clean : (k : ℕ) (a : Action) → IsAt p k a → IsClean a
  clean k a at = (plain_ k a at).0

  pub whole : Chained p frames well_typed clean b
  whole = chained_at p frames well_typed clean b span reached

  module _ (g : Graph) (c : State) (first mid : List Node) (held : Held) (o : Option Held) (begins : BeginsAt g frames b.first c) (holds : HoldsFirst g c first held) (acts : ActsAlong p (b.last - b.first) b.first first held mid o) where
    -- what is held before the last action
    pub last_held : (d : Held) × (o ≡ Some d) × HoldsFor (entry_of g c) mid d whole.held
    last_held =
        let in_frame = subst (λ (f : Frame). HoldsFor (entry_of g c) first held (held_at f)) (some_of _ _ (some_of _ _ (sym begins.1 ∙ whole.there))) (holds begins.0 begins.2) in
        acts (entry_of g c) (held_at whole.frame) whole.held in_frame whole.along_

    module _ (d : Held) (a : Action) (is : o ≡ Some d) (at : IsAt p b.last a) where
      ends : chain_of p.desc.result b.last a whole.held ≡ Some whole.chain
      ends = subst (λ (a : Action). chain_of p.desc.result b.last a whole.held ≡ Some whole.chain) (some_of _ _ (sym whole.at ∙ at)) whole.ends

      -- how the block is left
      pub left : (new : List Node) (r : Option Ran) → LeavesAs p.desc.result b.last a mid d new r → (ran : Ran) × (r ≡ Some ran) × LeavesBy (entry_of g c) new (acted a whole.held) ran whole.chain
      left new r leaves = leaves (entry_of g c) whole.held whole.chain (subst (λ (d : Held). HoldsFor (entry_of g c) mid d whole.held) (some_of _ _ (sym last_held.1 ∙ is)) last_held.2) ends

      left_by : (new : List Node) (ran : Ran) → LeavesAs p.desc.result b.last a mid d new (Some ran) → LeavesBy (entry_of g c) new (acted a whole.held) ran whole.chain
      left_by new ran leaves = let l = left new (Some ran) leaves in subst (λ (ran : Ran). LeavesBy (entry_of g c) new (acted a whole.held) ran whole.chain) (some_of _ _ (sym l.1)) l.2

      pub runs_for : (new : List Node) (ran : Ran) → LeavesAs p.desc.result b.last a mid d new (Some ran) → (x : Chain) → place_chain p frames b ≡ Some x → RanFor (entry_of g c) new ran x
      runs_for new ran leaves x x_is =
          subst (RanFor (entry_of g c) new ran) (some_of _ _ (sym whole.is ∙ x_is)) (runs_along (entry_of g c) new (acted a whole.held) ran.tests.items ran.exits.items whole.chain (left_by new ran leaves))

      pub runs_sorted : (new : Graph) (ran : Ran) → LeavesAs p.desc.result b.last a mid d new.nodes (Some ran) → AreSortedExits new (result_sort p.desc.result) ran → IsSortedRan new p frames ran
      runs_sorted new ran leaves s = record {
        tests = s.tests;
        exits = exits_sorted p frames well_typed clean new (entry_of g c) b.last a whole.held at whole.typed ran.tests.items ran.exits.items whole.chain (left_by new.nodes ran leaves) s.exits (leads_on p.desc.result b.last a whole.held whole.chain ends);
      }

  -- a return gives a value of the sort of the result
  pub gives_result : (a : Action) → IsAt p b.last a → GivesResult p.desc.result a
  gives_result a at =
      let y = well_typed.agrees.each b.last whole.typed.frame whole.typed.there in
      subst (GivesResult p.desc.result) (some_of _ _ (sym y.at ∙ at)) (elim y.goes [ inl l ↦ given y.action l.0 | inr on ↦ going y.action whole.typed.frame on.after on.is ])
    where
      given : (a : Action) → IsEnd p a → GivesResult p.desc.result a
      given (act.Give s) e = e
      given a e = tt

      going : (a : Action) (f h : Frame) → frame_after a f ≡ Some h → GivesResult p.desc.result a
      going (act.Give s) f h e = let q = bound (popped same (takes (act.Give s)) f.stack) (λ x. frame_done (act.Give s) (record f { stack = x.1 })) h e in no_some h q.2
      going a f h e = tt

  pub last_some : slice_get p.actions b.last ≡ None → ⊥
  last_some e = no_some whole.action (sym e ∙ whole.at)
