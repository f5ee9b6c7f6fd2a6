-- What is made of a method as blocks are done and loops are left.
use Rattle.std.proofs.Common.{◌≡◌, ◌≢◌, ℕ, zero, suc, ◌+◌, ◌<◌, ◌≤◌, true, List, [], ◌∷◌, length, set, replicate, Option, Some, None, slice_get, ◌⊎◌, inl, inr, ⊎_elim, refl, sym, ap, ◌∙◌, subst, arith}
use Rattle.pv_build.proofs.Words.{Contains, length-replicate, slice_get_within, same_Some, length-set, equal_or_not, get_set, get_set_other, Block, Loop, In, Graph, IsGraph, IsWellMade, Chain, place_chain, Named, named, AreNames, depths, State, Ran, entry_of, RanFor, IsSortedRan, Method, Made, Stage, IsMethod, flow_in, loops_at, loops_around, IsDone, HasRun, AreDone, IsAt, IsStage, KeepsFirst, HeldAs, IsOuter, IsLast, IsStageBefore, IsStageFor, IsNothing}
use Rattle.pv_build.specs.declared.method.Stage.TheVariants as stage
use Rattle.pv_layout.proofs.Cited as layout
use Rattle.pv_build.proofs.Staged.{first_then}
use Rattle.pv_build.proofs.Around.{in_of, of_in, nested, own_in, once_around, loop_of}
use Rattle.pv_build.proofs.Turns.{block_low, placed}

-- ---- the same open loops

module _ (m : Method) (g : Graph) (made : Made) (R Q : List ℕ) (to : (h : ℕ) → In R h → In Q h) (from : (h : ℕ) → In Q h → In R h) where
  at_same : (h : ℕ) (st : Stage) → IsAt m g made R h st → IsAt m g made Q h st
  at_same h stage.Ahead is = is
  at_same h (stage.Open o) is = (to h is.0, is.1, is.2)
  at_same h (stage.Closed c) is = is

  pub stage_same : IsStage m g made R → IsStage m g made Q
  stage_same is = record {
    well = is.well;
    open_ = is.open_;
    low = is.low;
    left = λ n o. ⊎_elim (λ low. inl low) (λ z. inr (z.0, z.1, z.2, to z.0 z.3)) (is.left n o);
    names = is.names;
    later = is.later;
    each_name = λ h s n i. ⊎_elim (λ open_. inl (to h open_.0, open_.1)) (λ tied. inr tied) (is.each_name h s n i);
    blocks_size = is.blocks_size;
    blocks = is.blocks;
    loops_size = is.loops_size;
    loops = λ i l st at there. at_same l.header st (is.loops i l st at there);
    opens = λ i l at has. is.opens i l at (from l.header has);
    passed = λ b i l run at among. ⊎_elim (λ open_. inl (to l.header open_)) (λ closed. inr closed) (is.passed b i l run at among);
  }

-- ---- a block that has run

pub is_done : (m : Method) (is : IsMethod m) (g new : Graph) (names : List Named) (b : ℕ) (block : Block) (c : State) (ran : Ran) → slice_get m.flow.now.blocks b ≡ Some block → AreNames (depths (flow_in m)) g.nodes names → HeldAs m g names c (λ v. v.value b)
    → ((x : Chain) → place_chain m.typed.now.program m.typed.now.frames block ≡ Some x → RanFor (entry_of g c) new.nodes ran x) → IsSortedRan new m.typed.now.program m.typed.now.frames ran → IsDone m new names b ran
is_done m is g new names b block c ran at are reads stands sorted =
    let chain = layout.chains m.typed.now.program m.typed.now.frames m.flow.now.blocks m.forest.now is.routine b block at in
    record {
      block = block;
      there = at;
      chain = chain.0;
      is = chain.1;
      at = entry_of g c;
      stands = stands chain.0 chain.1;
      sorted = sorted;
      earlier = names;
      within = λ h s n i. i;
      entered = λ v eqs. record { names_ = are; slots = reads v eqs };
    }

-- where this block is done too, and all else is as it was
module _ (m : Method) (g : Graph) (made more : Made) (b : ℕ) (ran : Ran) (low : b < length made.blocks.items) (items : more.blocks.items ≡ set made.blocks.items b (Some ran)) where
  abbrev next : Made
  next = record made { blocks = more.blocks }

  read_at : (x : ℕ) → slice_get more.blocks.items x ≡ slice_get (set made.blocks.items b (Some ran)) x
  read_at x = ap (λ (xs : List (Option Ran)). slice_get xs x) items

  here : slice_get more.blocks.items b ≡ Some (Some ran)
  here = read_at b ∙ get_set made.blocks.items b (Some ran) low

  still : (x : ℕ) → x ≢ b → slice_get more.blocks.items x ≡ slice_get made.blocks.items x
  still x other = read_at x ∙ get_set_other made.blocks.items b x (Some ran) other

  ran_still : (x : ℕ) → HasRun made x → HasRun next x
  ran_still x run = ⊎_elim
      (λ (same : x ≡ b). (ran, ap (λ (k : ℕ). slice_get more.blocks.items k) same ∙ here))
      (λ (other : x ≢ b). (run.0, still x other ∙ run.1))
      (equal_or_not x b)

  ran_cases : (x : ℕ) → HasRun next x → (x ≡ b) ⊎ HasRun made x
  ran_cases x run = ⊎_elim (λ (same : x ≡ b). inl same) (λ (other : x ≢ b). inr (run.0, sym (still x other) ∙ run.1)) (equal_or_not x b)

  at_ran : (R : List ℕ) (h : ℕ) (st : Stage) → IsAt m g made R h st → IsAt m g next R h st
  at_ran R h stage.Ahead is = is
  at_ran R h (stage.Open o) is = is
  at_ran R h (stage.Closed c) is = (is.0, λ x within among. ran_still x (is.1 x within among))

  done_at : ((x : ℕ) (r : Ran) → slice_get made.blocks.items x ≡ Some (Some r) → IsDone m g made.names x r) → IsDone m g made.names b ran → (x : ℕ) (r : Ran) → slice_get more.blocks.items x ≡ Some (Some r) → IsDone m g made.names x r
  done_at each done x r at = ⊎_elim
      (λ (same : x ≡ b).
      let one : Some ran ≡ Some r = same_Some (Some ran) (Some r) (sym here ∙ ap (λ (k : ℕ). slice_get more.blocks.items k) (sym same) ∙ at) in
      let q : ran ≡ r = same_Some ran r one in
      subst (λ (y : Ran). IsDone m g made.names x y) q (subst (λ (k : ℕ). IsDone m g made.names k ran) (sym same) done))
      (λ (other : x ≢ b). each x r (sym (still x other) ∙ at))
      (equal_or_not x b)

  -- the loops around it are open
  stage_next : (R : List ℕ) → IsStage m g made R → IsDone m g made.names b ran → ((h : ℕ) → In (loops_around m b) h → In R h) → IsStage m g next R
  stage_next R is done open_ = record {
    well = is.well;
    open_ = is.open_;
    low = is.low;
    left = is.left;
    names = is.names;
    later = is.later;
    each_name = is.each_name;
    blocks_size = ap length items ∙ length-set made.blocks.items b (Some ran) ∙ is.blocks_size;
    blocks = done_at is.blocks done;
    loops_size = is.loops_size;
    loops = λ i l st at there. at_ran R l.header st (is.loops i l st at there);
    opens = is.opens;
    passed = λ x i l run at among. ⊎_elim
        (λ (same : x ≡ b). inl (open_ l.header (in_of (loops_around m b) l.header (subst (λ (k : ℕ). Contains (loops_around m k) l.header) same among))))
        (λ (old : HasRun made x). is.passed x i l old at among)
        (ran_cases x run);
  }

  done_next : (k : ℕ) → slice_get m.forest.now.order.items k ≡ Some b → AreDone m made k → AreDone m next (k + 1)
  done_next k at d = record {
    first = λ j x less to. ⊎_elim
        (λ (same : j ≡ k).
        let one : b ≡ x = same_Some b x (sym at ∙ ap (slice_get m.forest.now.order.items) (sym same) ∙ to) in
        (ran, ap (λ (n : ℕ). slice_get more.blocks.items n) (sym one) ∙ here))
        (λ (lower : j < k). ran_still x (d.first j x lower to))
        (let z : (j ≡ k) ⊎ (j < k) = grind (arith, less) in z);
    only = λ x run. ⊎_elim
        (λ (same : x ≡ b). (k, omega arith, at ∙ ap (λ (n : ℕ). Some n) (sym same)))
        (λ (old : HasRun made x). let q = d.only x old in (q.0, (let lower = q.1 in omega (arith, lower)), q.2))
        (ran_cases x run);
  }

  module _ (same : more ≡ next) where
    pub stage_ran : (R : List ℕ) → IsStage m g made R → IsDone m g made.names b ran → ((h : ℕ) → In (loops_around m b) h → In R h) → IsStage m g more R
    stage_ran R is done open_ = subst (λ (x : Made). IsStage m g x R) (sym same) (stage_next R is done open_)

    pub done_ran : (k : ℕ) → slice_get m.forest.now.order.items k ≡ Some b → AreDone m made k → AreDone m more (k + 1)
    done_ran k at d = subst (λ (x : Made). AreDone m x (k + 1)) (sym same) (done_next k at d)

-- ---- from a block to the next one

-- the loops that are open where a block is entered are those around it but its own
pub outer_in : (m : Method) (is : IsMethod m) (n : ℕ) (at : Option ℕ) → IsOuter m n at → (h : ℕ) → In (loops_at m at) h → In (loops_around m n) h × (h ≢ n)
outer_in m is n at outer h i = elim outer [
  | inl z ↦ (subst (λ (A : List ℕ). In A h) (sym z.0) i, λ same. z.1 (heads (subst (λ (A : List ℕ). In A n) (sym z.0) (subst (λ (k : ℕ). In (loops_at m at) k) same i))))
  | inr z ↦ (subst (λ (A : List ℕ). In A h) (sym z) (inr i), λ same. once_around m is n (loops_at m at) z (subst (λ (k : ℕ). In (loops_at m at) k) same i))
]
  where
    heads : In (loops_around m n) n → (B : List ℕ) × (loops_around m n ≡ n ∷ B)
    heads j = let q = nested m is n n j in (q.1, q.3)

outer_has : (m : Method) (n : ℕ) (at : Option ℕ) → IsOuter m n at → (h : ℕ) → h ≢ n → In (loops_around m n) h → In (loops_at m at) h
outer_has m n at outer h other i = elim outer [
  | inl z ↦ subst (λ (A : List ℕ). In A h) z.0 i
  | inr z ↦ rest (subst (λ (A : List ℕ). In A h) z i)
]
  where
    rest : (n ≡ h) ⊎ In (loops_at m at) h → In (loops_at m at) h
    rest (inl same) = absurd (other (sym same))
    rest (inr more) = more

-- where all open loops have both blocks, they are those around the next one but its own
module _ (m : Method) (is : IsMethod m) (g : Graph) (made : Made) (b n : ℕ) (last : IsLast m made b (Some n)) (R : List ℕ) (at_stage : IsStage m g made R) (both : (h : ℕ) → In R h → In (loops_around m b) h × In (loops_around m n) h) where
  n_low : n < length m.flow.now.blocks
  n_low = block_low m is (last.place + 1) n last.after

  -- the next block heads no open loop
  no_head : (h : ℕ) → In R h → h ≢ n
  no_head h i same =
      let among : Contains (loops_around m b) n = subst (λ (k : ℕ). Contains (loops_around m b) k) same (of_in (loops_around m b) h (both h i).0) in
      let le : last.place + 1 ≤ last.place = is.routine.arranged.headers (last.place + 1) last.place n b last.after last.at among in
      absurd (omega (arith, le))

  -- a loop around the next block that isn't its own is open
  still_open : (h : ℕ) → In (loops_around m n) h → h ≢ n → In R h
  still_open h i other =
      let q = loop_of m is n h i in
      let low : h < length m.flow.now.blocks = subst (λ (k : ℕ). k < length m.flow.now.blocks) q.3 (trees_low q.0 q.1 q.2) in
      let p = placed m is h low in
      let le : p.0 ≤ last.place + 1 = is.routine.arranged.headers p.0 (last.place + 1) h n p.1 last.after (of_in (loops_around m n) h i) in
      let away : p.0 ≢ last.place + 1 = λ e. other (same_Some h n (sym p.1 ∙ ap (slice_get m.forest.now.order.items) e ∙ last.after)) in
      let run : HasRun made h = last.done.first p.0 h (omega (arith, le, away)) p.1 in
      let own : Contains (loops_around m h) q.1.header = subst (λ (k : ℕ). Contains (loops_around m h) k) (sym q.3) (of_in (loops_around m h) h (own_in m is n h i)) in
      elim (at_stage.passed h q.0 q.1 run q.2 own) [
        | inl open_ ↦ subst (λ (k : ℕ). In R k) q.3 open_
        | inr closed ↦ absurd (not_done q.1.header (at_stage.loops q.0 q.1 (stage.Closed closed.0) q.2 closed.1).1 q.3)
      ]
    where
      trees_low : (i : ℕ) (l : Loop) → slice_get m.forest.now.loops.items i ≡ Some l → l.header < length m.flow.now.blocks
      trees_low i l there = layout.header_low m.typed.now.program m.typed.now.frames m.flow.now.blocks m.forest.now is.routine i l there

      not_done : (k : ℕ) → ((x : ℕ) → x < length m.flow.now.blocks → Contains (loops_around m x) k → HasRun made x) → k ≡ h → ⊥
      not_done k all same =
          let run = all n n_low (subst (λ (k : ℕ). Contains (loops_around m n) k) (sym same) (of_in (loops_around m n) h i)) in
          let z = last.done.only n run in
          let one : z.0 ≡ last.place + 1 = is.routine.ordered.once z.0 (last.place + 1) n z.2 last.after in
          absurd (let less = z.1 in omega (arith, less, one))

  -- THE LOOPS THAT ARE LEFT OPEN ARE THOSE AROUND THE NEXT BLOCK
  pub stage_before : IsStageBefore m g made n
  stage_before at outer = stage_same m g made R (loops_at m at) to from at_stage
    where
      to : (h : ℕ) → In R h → In (loops_at m at) h
      to h i = outer_has m n at outer h (no_head h i) (both h i).1

      from : (h : ℕ) → In (loops_at m at) h → In R h
      from h i = let q = outer_in m is n at outer h i in still_open h q.0 q.1

-- the stage for the next block, or for none, where no loop is open
pub stage_for : (m : Method) (is : IsMethod m) (g : Graph) (made : Made) (b : ℕ) (next : Option ℕ) → IsLast m made b next → (R : List ℕ) → R ≡ [] → IsStage m g made R → IsStageFor m g made next
stage_for m is g made b None last R none at_stage = subst (IsStage m g made) none at_stage
stage_for m is g made b (Some n) last R none at_stage = stage_before m is g made b n last R at_stage (λ h i. absurd (subst (λ (A : List ℕ). In A h) none i))

-- ---- where a method begins

get_replicate : {A : Type 0} → (n i : ℕ) (x y : A) → slice_get (replicate n x) i ≡ Some y → x ≡ y
get_replicate zero i x y e = absurd (cc)
get_replicate (suc n) zero x y e = same_Some x y e
get_replicate (suc n) (suc i) x y e = get_replicate n i x y e

pub nothing_same : (made : Made) (a b c x y z : ℕ) → a ≡ x → b ≡ y → c ≡ z → IsNothing made a b c → IsNothing made x y z
nothing_same made a b c x y z p q r is = subst (λ (n : ℕ). IsNothing made n y z) p (subst (λ (n : ℕ). IsNothing made a n z) q (subst (IsNothing made a b) r is))

-- nothing is made
module _ (m : Method) (g : Graph) (made : Made) (well : IsWellMade g) (open_ : g.is_open ≡ true) (none : IsNothing made (length g.nodes) (length m.flow.now.blocks) (length m.forest.now.loops.items)) where
  no_name : (h s n : ℕ) → In made.names (named h s n) → ⊥
  no_name h s n i = subst (λ (names : List Named). In names (named h s n)) none.names i

  no_run : (b : ℕ) → HasRun made b → ⊥
  no_run b run = absurd (let z : None ≡ Some run.0 = get_replicate (length m.flow.now.blocks) b None (Some run.0) (ap (λ (xs : List (Option Ran)). slice_get xs b) (sym none.blocks_) ∙ run.1) in cc)

  ahead : (i h : ℕ) (R : List ℕ) (st : Stage) → slice_get made.loops.items i ≡ Some st → IsAt m g made R h st
  ahead i h R st at =
      let e : stage.Ahead ≡ st = get_replicate (length m.forest.now.loops.items) i stage.Ahead st (ap (λ (xs : List Stage). slice_get xs i) (sym none.loops_) ∙ at) in
      subst (IsAt m g made R h) e (λ s n i. no_name h s n i)

  pub first_stage : IsStage m g made []
  first_stage = record {
    well = well;
    open_ = open_;
    low = omega (arith, none.start_);
    left = λ n o. inl (let within = slice_get_within g.nodes n _ o.1 in omega (arith, within, none.start_));
    names = record { thetas = λ h s n i. absurd (no_name h s n i); one_name = λ h s k t n i j. absurd (no_name h s n i); one_node = λ h s n k i j. absurd (no_name h s n i) };
    later = λ h s n i. absurd (no_name h s n i);
    each_name = λ h s n i. absurd (no_name h s n i);
    blocks_size = ap length none.blocks_ ∙ length-replicate (length m.flow.now.blocks) None;
    blocks = λ b ran at. absurd (no_run b (ran, at));
    loops_size = ap length none.loops_ ∙ length-replicate (length m.forest.now.loops.items) stage.Ahead;
    loops = λ i l st at there. ahead i l.header [] st there;
    opens = λ i l at has. absurd has;
    passed = λ b i l run at among. absurd (no_run b run);
  }

  pub first_done : AreDone m made 0
  first_done = record { first = λ j b less at. absurd (omega arith); only = λ b run. absurd (no_run b run) }

-- no loop is open where the first block of the order is next
first_none : (m : Method) (is : IsMethod m) (n : ℕ) → slice_get m.forest.now.order.items 0 ≡ Some n → (o : Option ℕ) → IsOuter m n o → (h : ℕ) → In (loops_at m o) h → ⊥
first_none m is n at o outer h i =
    let q = outer_in m is n o outer h i in
    let l = loop_of m is n h q.0 in
    let p = placed m is h (subst (λ (k : ℕ). k < length m.flow.now.blocks) l.3 (layout.header_low m.typed.now.program m.typed.now.frames m.flow.now.blocks m.forest.now is.routine l.0 l.1 l.2)) in
    let le : p.0 ≤ 0 = is.routine.arranged.headers p.0 0 h n p.1 at (of_in (loops_around m n) h q.0) in
    let first : p.0 ≡ 0 = omega (arith, le) in
    q.1 (same_Some h n (sym p.1 ∙ ap (slice_get m.forest.now.order.items) first ∙ at))

pub first_for : (m : Method) (is : IsMethod m) (g : Graph) (made : Made) → IsStage m g made [] → (next : Option ℕ) → slice_get m.forest.now.order.items 0 ≡ next → IsStageFor m g made next
first_for m is g made at_stage None at = at_stage
first_for m is g made at_stage (Some n) at = λ o outer. stage_same m g made [] (loops_at m o) (λ h i. absurd i) (λ h i. absurd (first_none m is n at o outer h i)) at_stage

-- there is no block past the last one
pub past_end : (xs : List ℕ) (k : ℕ) → length xs ≤ k → slice_get xs k ≡ None
past_end [] k le = refl
past_end (x ∷ xs) zero le = absurd (omega arith)
past_end (x ∷ xs) (suc k) le = past_end xs k (omega arith)

-- ---- what is from before the method

pub first_same : (start : ℕ) (g : Graph) → IsGraph g → KeepsFirst start g g
first_same start g is = record { graph = is; nodes = λ n x less at. at; sorts = λ n s at. at }

pub first_on : (start mid : ℕ) (a b c : Graph) → mid ≡ start → KeepsFirst start a b → KeepsFirst mid b c → KeepsFirst start a c
first_on start mid a b c same p q = first_then start a b c p (subst (λ (n : ℕ). KeepsFirst n b c) same q)
