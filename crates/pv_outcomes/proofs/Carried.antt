-- The blocks of a method's flow are carried by the machine.
use Rattle.std.proofs.Common.{◌≡◌, ℕ, zero, suc, List, Option, refl, ap, sym, subst, ◌∙◌, None, Some, inl, inr, ◌⊎◌}
use Rattle.pv_outcomes.proofs.Words.{unwrap_or, slice_get, Contains, World, Input, Outcome, Val, Sym, Descriptor, IsWorld, ◌>>=◌, Sort, Action, Program, Frame, Taken, IsAt, IsFrameAt, GoesOn, AreFrames, some_of, State, Now, running, ended, step, IsTypedState, IsSound, stays_typed, Block, Begins, IsBlockAt, IsFlow, target_or_next, goes_to_successors, Forest, Kind, Dest, To, End, Exit, Chain, Leave, InChain, Flow, Parts, call_token, PartIs, Chooses, Steps, PartsAre, Waits, IsOutcome, Next, Stops, after, MachineEnds, chooses_in, after_rest, Held, held_at, to, flow_of, IsClean, EndsWell, IsCleanProgram, Chained, Departs, IsBlock, chain_at, chained, exit_departs, goes_place, has_exits, in_numbered, number_is, Matches}
use mathlib.Core.Path.{fun_ext}
use Rattle.pv_frame.specs.declared.action.Action.TheVariants as act
use Rattle.pv_frame.specs.Frames as frames-of
use Rattle.pv_machine.specs.Machine as machine
use Rattle.pv_flow.specs.Blocks as blocks-of
use Rattle.pv_flow.specs.Exits.{departures}
use Rattle.pv_equations.specs.Flow as flows
use Rattle.pv_conversion.specs.Runs.{Ends}
use Rattle.pv_conversion.specs.Outcomes.{Goes as Onward, then as followed, Carries}
use Rattle.pv_runs.specs.Blocks.{number_at, numbered_dest, numbered_exit, numbered}
use Rattle.pv_outcomes.proofs.States.{At, next_of, steps}
use Rattle.pv_outcomes.proofs.Tokens.{token_arguments}
use Rattle.pv_outcomes.proofs.Once.{part_once, chooses_once, waits_on}
use Rattle.pv_outcomes.proofs.Lasts.{Leaves, comes, over, waits}
use Rattle.pv_outcomes.proofs.Runs.{block_runs, enters, left_slots, left_token, left_heap, left_parts, left_locals, left_stack, Run}

sound_of : (a : Action) → IsClean a → IsSound a
sound_of (act.Divide o) c = (_, _, c)
sound_of (act.GetStatic t f) c = c.0
sound_of (act.PutStatic t f) c = c.0
sound_of (act.GetField t f) c = c.0
sound_of (act.PutField t f) c = c.0
sound_of (act.Call d f) c = c
sound_of (act.CallOn d f) c = (c.0, (c.1.0.params, ap (λ (d : Descriptor). d.params) c.1.1))
sound_of a c = tt

none_after : (o : Taken Sort) (y : Frame) → (o >>= λ q. None) ≡ Some y → ⊥
none_after None y e = absurd (cc)
none_after (Some q) y e = absurd (cc)

-- ---- steps

module _ (p : Program) (w : World) where
  -- one step more at the end
  after_next : (n : ℕ) (s u : State) (r : Next State) → after (steps p w) n s ≡ Onward u → steps p w u ≡ r → after (steps p w) (suc n) s ≡ r
  after_next zero s u r e f =
      let same : s ≡ u = cc in
      let one : steps p w s ≡ r = ap (steps p w) same ∙ f in
      last (steps p w s) r one
    where
      last : (q r : Next State) → q ≡ r → followed q (λ t. Onward t) ≡ r
      last (Onward t) r e = e
      last (Stops o) r e = e
  after_next (suc n) s u r e f = go (steps p w s) e (λ v e. after_next n v u r e f)
    where
      go : (q : Next State) → followed q (λ v. after (steps p w) n v) ≡ Onward u → ((v : State) → after (steps p w) n v ≡ Onward u → after (steps p w) (suc n) v ≡ r) → followed q (λ v. after (steps p w) (suc n) v) ≡ r
      go (Onward v) e ih = ih v e
      go (Stops o) e ih = absurd (cc)

  back_to : (q : Next State) (n : Now) → q ≡ next_of n → (u : State) → q ≡ Onward u → n ≡ running u
  back_to q (running t) e u f = let z : Onward t ≡ Onward u = sym e ∙ f in cc
  back_to q (ended o) e u f = absurd (let z : Stops o ≡ Onward u = sym e ∙ f in cc)

  pub ended_to : (q : Next State) (n : Now) → q ≡ next_of n → (o : Outcome) → q ≡ Stops o → n ≡ ended o
  ended_to q (ended r) e o f = let z : Stops r ≡ Stops o = sym e ∙ f in cc
  ended_to q (running t) e o f = absurd (let z : Onward t ≡ Stops o = sym e ∙ f in cc)

  stopped : (n : ℕ) (s : State) (o : Outcome) → after (steps p w) n s ≡ Stops o → after (steps p w) (suc n) s ≡ Stops o
  stopped zero s o e = absurd (cc)
  stopped (suc n) s o e = go (steps p w s) e (λ v e. stopped n v o e)
    where
      go : (q : Next State) → followed q (λ v. after (steps p w) n v) ≡ Stops o → ((v : State) → after (steps p w) n v ≡ Stops o → after (steps p w) (suc n) v ≡ Stops o) → followed q (λ v. after (steps p w) (suc n) v) ≡ Stops o
      go (Onward v) e ih = ih v e
      go (Stops r) e ih = e

  -- both ways to count the steps
  pub same_after : (n : ℕ) (s : State) → after (steps p w) n s ≡ next_of (machine.after p w s n)
  unfolding machine.after
  same_after zero s = refl
  same_after (suc n) s = go (after (steps p w) n s) refl (same_after n s)
    where
      go : (q : Next State) → after (steps p w) n s ≡ q → after (steps p w) n s ≡ next_of (machine.after p w s n) → after (steps p w) (suc n) s ≡ next_of (machine.go_on p w (machine.after p w s n))
      go (Onward u) e ih = after_next n s u _ e refl ∙ ap (λ (m : Now). next_of (machine.go_on p w m)) (sym (back_to _ _ ih u e))
      go (Stops o) e ih = stopped n s o e ∙ sym (ap (λ (m : Now). next_of (machine.go_on p w m)) (ended_to _ _ ih o e))

-- ---- chains by number

chooses_numbered : (w : World) (x : Input) (σ : ℕ → Val) (blocks : List Block) (c : Chain) (e : Exit) → Chooses w x σ c e → Chooses w x σ (numbered blocks c) (numbered_exit blocks e)
chooses_numbered w x σ blocks (Leave f) e h = ap (numbered_exit blocks) h
chooses_numbered w x σ blocks (flows.Test t f c) e (u, is, inl (y, same)) = (u, is, inl (y, ap (numbered_exit blocks) same))
chooses_numbered w x σ blocks (flows.Test t f c) e (u, is, inr (n, h)) = (u, is, inr (n, chooses_numbered w x σ blocks c e h))

ends_numbered : (blocks : List Block) (e : Exit) → Ends e → Ends (numbered_exit blocks e)
ends_numbered blocks e (k, is) = (k, ap (numbered_dest blocks) is)

waits_numbered : (w : World) (x : Input) (σ : ℕ → Val) (blocks : List Block) (c : Chain) → Waits w x σ c → Waits w x σ (numbered blocks c)
waits_numbered w x σ blocks (Leave e) h = (ends_numbered blocks e h.0, h.1)
waits_numbered w x σ blocks (flows.Test t e c) h = ((λ u i. let z = h.0 u i in (ends_numbered blocks e z.0, z.1)), waits_numbered w x σ blocks c h.1)

-- ---- what a block does

module _ (p : Program) (clean : IsCleanProgram p) (w : World) (world : IsWorld w) (x : Input) (frames : List (Option Frame)) (well_typed : AreFrames p frames) (blocks : List Block) (flow : IsFlow p blocks) (forest : Forest) where
  abbrev f : Flow
  f = flow_of p frames blocks forest

  -- the machine is where block b begins
  abbrev pub Here : ℕ → (ℕ → Val) → State → Type 0
  Here b σ s = (k : Block) × (slice_get blocks b ≡ Some k) × At x frames k.first σ s

  -- what the machine does from where a block begins
  pub data Does (b : ℕ) (σ : ℕ → Val) (s : State) : Type 0 where
    moves : (e : Exit) (m : ℕ) (τ : ℕ → Val) (n : ℕ) (t : State) → Steps w x f b σ e τ → e.dest ≡ To m → after (steps p w) (suc n) s ≡ Onward t → Here m τ t → Does b σ s
    stops : (e : Exit) (k : Kind) (τ : ℕ → Val) (n : ℕ) (o : Outcome) → Steps w x f b σ e τ → e.dest ≡ End k → after (steps p w) n s ≡ Stops o → IsOutcome k τ o → Does b σ s
    idles : Waits w x σ (f.chain b) → ((o : Outcome) → MachineEnds (steps p w) s o → ⊥) → Does b σ s

  typed_after : (n : ℕ) (s t : State) → IsTypedState frames s → after (steps p w) n s ≡ Onward t → IsTypedState frames t
  typed_after n s t h e = stays_typed frames p w s world (λ k a at. sound_of a (clean k a at)) well_typed.agrees h n t (back_to p w _ _ (same_after p w n s) t e)

  -- where a step leads back to the same state the machine doesn't end
  stays_on : (n : ℕ) (s : State) → steps p w s ≡ Onward s → after (steps p w) n s ≡ Onward s
  stays_on zero s e = refl
  stays_on (suc n) s e = ap (λ (q : Next State). followed q (λ t. after (steps p w) n t)) e ∙ stays_on n s e

  at_left : (σ : ℕ → Val) (m : ℕ) (t : State) (g : Held) (y : Matches w x σ t g) → t.at ≡ m → IsTypedState frames t → At x frames m (left_slots w x σ t g y) t
  at_left σ m t g y e typed = record { here = e; typed = typed; start = y.start; token = left_token w x σ t g y; heap = left_heap w x σ t g y; locals = left_locals w x σ t g y; stack = left_stack w x σ t g y }

  -- a block with its chain
  chained_at : (b : ℕ) (k : Block) → slice_get blocks b ≡ Some k → Chained p frames well_typed clean k
  chained_at b k at = chained p frames well_typed clean blocks flow b k at

  chain_is : (b : ℕ) (k : Block) (at : slice_get blocks b ≡ Some k) → f.chain b ≡ numbered blocks (chained_at b k at).chain
  chain_is b k at = let y = chained_at b k at in chain_at p frames blocks b k y.chain at y.is

  chosen : (b : ℕ) (σ : ℕ → Val) (k : Block) (at : slice_get blocks b ≡ Some k) (e : Exit) → Chooses w x σ (chained_at b k at).chain e → Chooses w x σ (f.chain b) (numbered_exit blocks e)
  chosen b σ k at e ch = subst (λ (c : Chain). Chooses w x σ c (numbered_exit blocks e)) (sym (chain_is b k at)) (chooses_numbered w x σ blocks (chained_at b k at).chain e ch)

  among : (b : ℕ) (k : Block) (at : slice_get blocks b ≡ Some k) (e : Exit) → InChain (f.chain b) e → (d : Exit) × InChain (chained_at b k at).chain d × (numbered_exit blocks d ≡ e)
  among b k at e i = in_numbered blocks (chained_at b k at).chain e (subst (λ (c : Chain). InChain c e) (chain_is b k at) i)

  -- where an exit goes to a place, a block begins there
  begins_there : (b : ℕ) (k : Block) (at : slice_get blocks b ≡ Some k) (e : Exit) (m : ℕ) → InChain (chained_at b k at).chain e → e.dest ≡ To m → Begins p m
  begins_there b k at e m i d =
      let y = chained_at b k at in
      let x = has_exits p.desc.result k.last y.action y.held y.chain y.ends in
      let from = exit_departs (Departs y.action (record y.held { stack = x.stack }) x.cells) (departures k.last y.action) y.chain e x.exits i in
      let goes = goes_place y.action (record y.held { stack = x.stack }) x.cells from.0 e m from.2 d in
      elim (target_or_next k.last y.action m ((goes_to_successors k.last y.action m).0 (subst (Contains (departures k.last y.action)) goes from.1))) [
        | inl target ↦ blocks-of.target k.last m y.action y.at target
        | inr next ↦ subst (Begins p) (sym next) (flow.each b k at).span.next
      ]

  comes_to : (m : ℕ) (τ : ℕ → Val) (t : State) → Begins p m → At x frames m τ t → Here (number_at blocks m) τ t
  comes_to m τ t begins h =
      let there : IsFrameAt frames m h.typed.frame = subst (λ (j : ℕ). IsFrameAt frames j h.typed.frame) h.here h.typed.there in
      let n = flow.all m begins (well_typed.reached m h.typed.frame there) in
      let k = n.1 in
      subst (λ (i : ℕ). Here i τ t) (sym (number_is blocks flow.ascend n.0 m k)) (k.0, k.1, subst (λ (j : ℕ). At x frames j τ t) (sym k.2) h)

  left : (b : ℕ) (σ : ℕ → Val) (s : State) (h : Here b σ s) → (n : ℕ) (u : State) → after (steps p w) n s ≡ Onward u → (now : Option Now) → step p w u ≡ unwrap_or now (running u) → Leaves p w x σ (chained_at b h.0 h.1).chain now → Does b σ s
  left b σ s h n u reach now st (comes m g t ch at y) =
      let there = after_next p w n s u (Onward t) reach (ap next_of st) in
      let begins = begins_there b h.0 h.1 (to m g) m (chooses_in w x σ (chained_at b h.0 h.1).chain (to m g) ch) refl in
      moves (numbered_exit blocks (to m g)) (number_at blocks m) (left_slots w x σ t g y) n t (chosen b σ h.0 h.1 (to m g) ch, left_parts w x σ t g y) refl there
      (comes_to m (left_slots w x σ t g y) t begins (at_left σ m t g y at (typed_after (suc n) s t h.2.typed there)))
  left b σ s h n u reach now st (over e o ch k) =
      stops (numbered_exit blocks e) k.kind k.slots (suc n) o (chosen b σ h.0 h.1 e ch, k.parts) (ap (numbered_dest blocks) k.dest) (after_next p w n s u (Stops o) reach (ap next_of st)) k.outcome
  left b σ s h n u reach now st (waits none) = idles
      (subst (λ (c : Chain). Waits w x σ c) (sym (chain_is b h.0 h.1)) (waits_numbered w x σ blocks (chained_at b h.0 h.1).chain none))
      (λ o z.
      let r = after_rest State (steps p w) n z.0 s u o reach z.1 in
      absurd (let y = stays_on r.0 u (ap next_of st) in let k = r.2 in cc))

  ends_well : (k : ℕ) (a : Action) (y : Frame) → frames-of.Leaves p a y ⊎ GoesOn frames k a y → EndsWell p a
  ends_well k (act.Give t) y (inl l) = l.0
  ends_well k (act.Give t) y (inr g) = absurd (none_after _ g.after g.is)
  ends_well k a y h = tt

  well_at : (t : State) → IsTypedState frames t → (a : Action) → IsAt p t.at a → EndsWell p a
  well_at t h a at =
      let y = well_typed.agrees.each t.at h.frame h.there in
      subst (EndsWell p) (some_of _ _ (sym y.at ∙ at)) (ends_well t.at y.action h.frame y.goes)

  run_of : (b : ℕ) (σ : ℕ → Val) (s : State) (h : Here b σ s) → Run p clean w world x σ h.2.token s (chained_at b h.0 h.1).chain
  run_of b σ s h =
      let typed = h.2.typed in
      let y = chained_at b h.0 h.1 in
      let there : IsFrameAt frames h.0.first typed.frame = subst (λ (k : ℕ). IsFrameAt frames k typed.frame) h.2.here typed.there in
      let same : y.frame ≡ typed.frame = some_of _ _ (some_of _ _ (sym y.there ∙ there)) in
      let block : IsBlock p h.0.first (held_at typed.frame) y.chain = subst (λ (g : Frame). IsBlock p h.0.first (held_at g) y.chain) same y.block in
      block_runs p clean w world x σ h.2.token h.0.first (held_at typed.frame) y.chain block s h.2.here (enters w x σ s typed.frame typed.flows h.2.token h.2.heap h.2.locals h.2.stack h.2.start) (λ n t e. well_at t (typed_after n s t typed e))

  -- where an exit has the token of a call, its arguments have values
  pub arguments : (b : ℕ) (σ : ℕ → Val) (s : State) (e : Exit) (c : Sym) (ps : Parts) → Here b σ s → InChain (f.chain b) e → e.slots 0 ≡ call_token c ps → (us : List Val) × PartsAre w x σ ps us
  arguments b σ s e c ps h i z =
      let d = among b h.0 h.1 e i in
      token_arguments p w x σ (d.0.slots 0) c ps ((run_of b σ s h).tokens d.0 d.1) (ap (λ (e : Exit). e.slots 0) d.2 ∙ z)

  -- WHAT A BLOCK DOES
  pub does : (b : ℕ) (σ : ℕ → Val) (s : State) → Here b σ s → Does b σ s
  does b σ s h =
      let r = run_of b σ s h in
      left b σ s h r.count r.last r.reach r.now r.step r.leaves

  same_exit : (b : ℕ) (σ τ ρ : ℕ → Val) (d e : Exit) → Steps w x f b σ d τ → Steps w x f b σ e ρ → (d ≡ e) × (τ ≡ ρ)
  same_exit b σ τ ρ d e y z =
      let same = chooses_once w x σ (f.chain b) d e y.0 z.0 in
      (same, fun_ext (λ n. part_once w x σ (e.slots n) (τ n) (ρ n) (subst (λ (d : Exit). PartIs w x σ (d.slots n) (τ n)) same (y.1 n)) (z.1 n)))

  to_same : (m n : ℕ) → To m ≡ To n → m ≡ n
  to_same m n e = cc

  end_same : (k l : Kind) → End k ≡ End l → k ≡ l
  end_same k l e = cc

  -- THE MACHINE CARRIES THE BLOCKS
  pub carries : Carries w x f State (steps p w) Here
  carries = record { goes_on = goes_on; finishes = finishes; not_stuck = not_stuck }
    where
      goes_on : (b m : ℕ) (σ τ : ℕ → Val) (e : Exit) (s : State) → Here b σ s → Steps w x f b σ e τ → e.dest ≡ To m → (n : ℕ) × (t : State) × (after (steps p w) (suc n) s ≡ Onward t) × Here m τ t
      goes_on b m σ τ e s h st d = go (does b σ s h)
        where
          go : Does b σ s → (n : ℕ) × (t : State) × (after (steps p w) (suc n) s ≡ Onward t) × Here m τ t
          go (moves c k ρ n t y z r there) =
              let same = same_exit b σ ρ τ c e y st in
              let place : k ≡ m = to_same k m (sym z ∙ ap (λ (c : Exit). c.dest) same.0 ∙ d) in
              (n, t, r, subst (λ (m : ℕ). Here m τ t) place (subst (λ (ρ : ℕ → Val). Here k ρ t) same.1 there))
          go (stops c k ρ n o y z r out) = absurd (let same = same_exit b σ ρ τ c e y st in let q : End k ≡ To m = sym z ∙ ap (λ (c : Exit). c.dest) same.0 ∙ d in cc)
          go (idles none never) = absurd (waits_on w x σ (f.chain b) e (τ 0) none st.0 (st.1 0))

      finishes : (b : ℕ) (σ τ : ℕ → Val) (e : Exit) (k : Kind) (s : State) → Here b σ s → Steps w x f b σ e τ → e.dest ≡ End k → (n : ℕ) × (o : Outcome) × (after (steps p w) n s ≡ Stops o) × IsOutcome k τ o
      finishes b σ τ e k s h st d = go (does b σ s h)
        where
          go : Does b σ s → (n : ℕ) × (o : Outcome) × (after (steps p w) n s ≡ Stops o) × IsOutcome k τ o
          go (moves c m ρ n t y z r there) = absurd (let same = same_exit b σ ρ τ c e y st in let q : To m ≡ End k = sym z ∙ ap (λ (c : Exit). c.dest) same.0 ∙ d in cc)
          go (stops c l ρ n o y z r out) =
              let same = same_exit b σ ρ τ c e y st in
              let kind : l ≡ k = end_same l k (sym z ∙ ap (λ (c : Exit). c.dest) same.0 ∙ d) in
              (n, o, r, subst (λ (k : Kind). IsOutcome k τ o) kind (subst (λ (ρ : ℕ → Val). IsOutcome l ρ o) same.1 out))
          go (idles none never) = absurd (waits_on w x σ (f.chain b) e (τ 0) none st.0 (st.1 0))

      not_stuck : (b : ℕ) (σ : ℕ → Val) (s : State) (o : Outcome) → Here b σ s → MachineEnds (steps p w) s o → (e : Exit) × (τ : ℕ → Val) × Steps w x f b σ e τ
      not_stuck b σ s o h z = go (does b σ s h)
        where
          go : Does b σ s → (e : Exit) × (τ : ℕ → Val) × Steps w x f b σ e τ
          go (moves c m ρ n t y q r there) = (c, ρ, y)
          go (stops c l ρ n o y q r out) = (c, ρ, y)
          go (idles none never) = absurd (never o z)
