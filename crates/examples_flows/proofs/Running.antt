-- Runs of small flows, computed by the checker.
use Rattle.std.proofs.Common.{◌≡◌, ℕ, zero, suc, Bool, true, false, List, [], ◌∷◌, Option, Some, None, inl, inr, refl, sym, ap, subst, if◌then◌else◌}
use Rattle.pv_value.specs.Spelled.{bind}
use Rattle.pv_value.specs.declared.world.World.{World}
use Rattle.pv_value.specs.declared.outcome.Input.{Input}
use Rattle.pv_value.specs.declared.outcome.Val.{Val}
use Rattle.pv_value.specs.declared.outcome.Val.TheVariants as vals
use Rattle.pv_denote.specs.Denote.{strict, truth}
use Rattle.pv_equations.specs.Flow.{Part, Parts, Slot, Of, NoPart, More, Kind, Dest, To, End}
use Rattle.pv_conversion.specs.Runs.{PartIs, PartsAre, Chooses, Steps, Runs, ends, goes}
use Rattle.examples_flows.proofs.Flows.{Block, Way, Ways, Go, If, exit_of, chain_of, slots_of, block_at, flow_of, unit_part}

-- the first slots; the others are unit
abbrev pub value_at : List Val → ℕ → Val
value_at [] s = vals.Unit
value_at (v ∷ vs) zero = v
value_at (v ∷ vs) (suc s) = value_at vs s

-- how a run ends
pub record Ended : Type 0 where
  pub kind : Kind
  pub slots : List Val

some_same : {A : Type 0} (a b : A) → Some a ≡ Some b → a ≡ b
some_same a b e = cc

module _ (w : World) (x : Input) where
  abbrev mutual
    part_by : (ℕ → Val) → Part → Option Val
    part_by σ (Slot s) = Some (σ s)
    part_by σ (Of o p ps) = bind (parts_by σ ps) (strict w x o)

    parts_by : (ℕ → Val) → Parts → Option (List Val)
    parts_by σ NoPart = Some []
    parts_by σ (More p ps) = bind (part_by σ p) (λ v. bind (parts_by σ ps) (λ vs. Some (v ∷ vs)))

  mutual
    pub part_true : (σ : ℕ → Val) (p : Part) (v : Val) → part_by σ p ≡ Some v → PartIs w x σ p v
    part_true σ (Slot s) v e = some_same (σ s) v e
    part_true σ (Of o p ps) v e = go (parts_by σ ps) e (λ vs q. parts_true σ ps vs q) refl
      where
        go : (r : Option (List Val)) → bind r (strict w x o) ≡ Some v → ((vs : List Val) → parts_by σ ps ≡ Some vs → PartsAre w x σ ps vs) → parts_by σ ps ≡ r → PartIs w x σ (Of o p ps) v
        go None e rec q = absurd (cc)
        go (Some vs) e rec q = (vs, rec vs q, e)

    parts_true : (σ : ℕ → Val) (ps : Parts) (vs : List Val) → parts_by σ ps ≡ Some vs → PartsAre w x σ ps vs
    parts_true σ NoPart vs e = sym (some_same [] vs e)
    parts_true σ (More p ps) vs e = go (part_by σ p) (parts_by σ ps) e (λ v q. part_true σ p v q) (λ vs q. parts_true σ ps vs q) refl refl
      where
        go : (a : Option Val) (b : Option (List Val)) → bind a (λ v. bind b (λ vs. Some (v ∷ vs))) ≡ Some vs → ((v : Val) → part_by σ p ≡ Some v → PartIs w x σ p v) → ((vs : List Val) → parts_by σ ps ≡ Some vs → PartsAre w x σ ps vs) → part_by σ p ≡ a → parts_by σ ps ≡ b
            → PartsAre w x σ (More p ps) vs
        go None b e one rest qa qb = absurd (cc)
        go (Some v) None e one rest qa qb = absurd (cc)
        go (Some v) (Some us) e one rest qa qb = (v, us, one v qa, rest us qb, sym (some_same (v ∷ us) vs e))

  -- the way that the tests choose
  abbrev side_by : Option Val → Way → Option Way → Option Way
  side_by v u rest = bind v (λ v. bind (truth v) (λ b. if b then Some u else rest))

  abbrev choose_by : (ℕ → Val) → Ways → Option Way
  choose_by σ (Go u) = Some u
  choose_by σ (If t u us) = side_by (part_by σ t) u (choose_by σ us)

  choose_true : (σ : ℕ → Val) (us : Ways) (u : Way) → choose_by σ us ≡ Some u → Chooses w x σ (chain_of us) (exit_of u)
  choose_true σ (Go v) u e = ap exit_of (some_same v u e)
  choose_true σ (If t v us) u e = go (part_by σ t) refl e (λ e. choose_true σ us u e)
    where
      truths : (z : Val) → part_by σ t ≡ Some z → (b : Option Bool) → truth z ≡ b → bind b (λ b. if b then Some v else choose_by σ us) ≡ Some u → (choose_by σ us ≡ Some u → Chooses w x σ (chain_of us) (exit_of u)) → Chooses w x σ (chain_of (If t v us)) (exit_of u)
      truths z q None h e rec = absurd (cc)
      truths z q (Some true) h e rec = (z, part_true σ t z q, inl (h, ap exit_of (some_same v u e)))
      truths z q (Some false) h e rec = (z, part_true σ t z q, inr (h, rec e))

      go : (a : Option Val) → part_by σ t ≡ a → side_by a v (choose_by σ us) ≡ Some u → (choose_by σ us ≡ Some u → Chooses w x σ (chain_of us) (exit_of u)) → Chooses w x σ (chain_of (If t v us)) (exit_of u)
      go None q e rec = absurd (cc)
      go (Some z) q e rec = truths z q (truth z) refl e rec

  -- the slots at an exit
  abbrev slots_by : (ℕ → Val) → List Part → Option (List Val)
  slots_by σ [] = Some []
  slots_by σ (p ∷ ps) = bind (part_by σ p) (λ v. bind (slots_by σ ps) (λ vs. Some (v ∷ vs)))

  slots_true : (σ : ℕ → Val) (ps : List Part) (vs : List Val) → slots_by σ ps ≡ Some vs → (s : ℕ) → PartIs w x σ (slots_of ps s) (value_at vs s)
  unfolding strict
  slots_true σ [] vs e s = subst (λ (vs : List Val). PartIs w x σ unit_part (value_at vs s)) (some_same [] vs e) ([], refl, refl)
  slots_true σ (p ∷ ps) vs e s = go (part_by σ p) (slots_by σ ps) e (λ vs q s. slots_true σ ps vs q s) refl refl
    where
      at_slot : (v : Val) (us : List Val) → part_by σ p ≡ Some v → ((s : ℕ) → PartIs w x σ (slots_of ps s) (value_at us s)) → (s : ℕ) → PartIs w x σ (slots_of (p ∷ ps) s) (value_at (v ∷ us) s)
      at_slot v us q rest zero = part_true σ p v q
      at_slot v us q rest (suc s) = rest s

      go : (a : Option Val) (b : Option (List Val)) → bind a (λ v. bind b (λ vs. Some (v ∷ vs))) ≡ Some vs → ((vs : List Val) → slots_by σ ps ≡ Some vs → (s : ℕ) → PartIs w x σ (slots_of ps s) (value_at vs s)) → part_by σ p ≡ a → slots_by σ ps ≡ b
          → PartIs w x σ (slots_of (p ∷ ps) s) (value_at vs s)
      go None b e rest qa qb = absurd (cc)
      go (Some v) None e rest qa qb = absurd (cc)
      go (Some v) (Some us) e rest qa qb = subst (λ (vs : List Val). PartIs w x σ (slots_of (p ∷ ps) s) (value_at vs s)) (some_same (v ∷ us) vs e) (at_slot v us qa (λ s. rest us qb s) s)

  module _ (blocks : List Block) where
    -- on from an exit, with these slots there
    abbrev onward : (ℕ → List Val → Option Ended) → Dest → List Val → Option Ended
    onward rec (To m) vs = rec m vs
    onward rec (End k) vs = Some (record { kind = k; slots = vs })

    -- a run through at most n blocks
    abbrev pub run_by : ℕ → ℕ → List Val → Option Ended
    run_by zero b vs = None
    run_by (suc n) b vs = bind (choose_by (value_at vs) (block_at blocks b).ways) (λ u. bind (slots_by (value_at vs) u.parts) (λ us. onward (λ m us. run_by n m us) u.dest us))

    -- what is known of runs through fewer blocks
    abbrev Rec : ℕ → Ended → Type 0
    Rec n z = (m : ℕ) (us : List Val) → run_by n m us ≡ Some z → Runs w x (flow_of blocks) z.kind (value_at z.slots) m (value_at us)

    pub run_true : (n b : ℕ) (vs : List Val) (z : Ended) → run_by n b vs ≡ Some z → Runs w x (flow_of blocks) z.kind (value_at z.slots) b (value_at vs)
    run_true zero b vs z e = absurd (cc)
    run_true (suc n) b vs z e = go (choose_by (value_at vs) (block_at blocks b).ways) refl e (λ m us e. run_true n m us z e)
      where
        last : (u : Way) (us : List Val) → Steps w x (flow_of blocks) b (value_at vs) (exit_of u) (value_at us) → (d : Dest) → u.dest ≡ d → onward (λ m us. run_by n m us) d us ≡ Some z → Rec n z → Runs w x (flow_of blocks) z.kind (value_at z.slots) b (value_at vs)
        last u us st (To m) q e rec = goes b m (value_at vs) (value_at us) (exit_of u) st q (rec m us e)
        last u us st (End k) q e rec =
            subst (λ (z : Ended). Runs w x (flow_of blocks) z.kind (value_at z.slots) b (value_at vs)) (some_same (record { kind = k; slots = us }) z e) (ends b (value_at vs) (exit_of u) st q)

        slots : (u : Way) → Chooses w x (value_at vs) (chain_of (block_at blocks b).ways) (exit_of u) → (r : Option (List Val)) → slots_by (value_at vs) u.parts ≡ r → bind r (λ us. onward (λ m us. run_by n m us) u.dest us) ≡ Some z → Rec n z → Runs w x (flow_of blocks) z.kind (value_at z.slots) b (value_at vs)
        slots u ch None q e rec = absurd (cc)
        slots u ch (Some us) q e rec = last u us (ch, slots_true (value_at vs) u.parts us q) u.dest refl e rec

        go : (r : Option Way) → choose_by (value_at vs) (block_at blocks b).ways ≡ r → bind r (λ u. bind (slots_by (value_at vs) u.parts) (λ us. onward (λ m us. run_by n m us) u.dest us)) ≡ Some z → Rec n z → Runs w x (flow_of blocks) z.kind (value_at z.slots) b (value_at vs)
        go None q e rec = absurd (cc)
        go (Some u) q e rec = slots u (choose_true (value_at vs) (block_at blocks b).ways u q) (slots_by (value_at vs) u.parts) refl e rec
