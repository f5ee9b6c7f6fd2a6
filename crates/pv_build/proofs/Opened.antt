-- Where a loop is opened.
use Rattle.std.proofs.Common.{◌≡◌, ℕ, suc, ◌<◌, ◌≤◌, Bool, true, false, if◌then◌else◌, List, [], ◌∷◌, length, Option, Some, None, slice_get, slice_set, ◌⊎◌, inl, inr, ⊎_elim, refl, sym, ap, ◌∙◌, subst, arith}
use Rattle.pv_build.proofs.Words.{found, set_same, set_other, set_length, IsTrue, Contains, cases_eq, nat_tests, slice_get_within, Vec, Global, Frame, Block, IsFrameAt, some_of, Loop, OpSort, T, H, is_depth, node_of, In, Graph, Exp, Flow, first_kid, Named, named, Reads, IsOfSort, IsUnnamed, depths, IsUnfinishedName, extends_stand, sorted_within, State, slot_of, IsStateOf, op_sort, Method, Made, Theta, Opened, Closed, Stage, Head, Writes, Slot, number, HasSlot, flow_in, loops_at, IsMethod, HasRun, HasBase, StandsAs, IsThetaOf, IsOpened, IsAt, IsStage, HeldAs, carried_at, AreFirstKids, Begins, IsBegun, HasTheta, AreBegun}
use Rattle.pv_graph.specs.declared.node.Op.TheVariants as op
use Rattle.pv_build.specs.declared.method.Stage.TheVariants as stage
use Rattle.pv_build.specs.declared.slot.Slot.TheVariants as slot
use Rattle.pv_layout.proofs.Cited as layout
use Rattle.pv_layout.proofs.Cited.{one_loop, depth_is, header_low}
use Rattle.pv_build.proofs.Around.{parent_at, header_own, deep_at}
use Rattle.pv_build.proofs.Persisting.{Persists, sort_on, reads_on, tied_on, opened_on, closed_on, done_on}
use Rattle.pv_build.proofs.Staged.{as_long, old_node, theta_inside}
use Rattle.pv_build.proofs.Cells.{sorted_slot, local_slot_sort, stack_slot_sort}

depth_fits : (d : ℕ) → 1 ≤ d → d ≤ 16 → IsTrue (is_depth d)
depth_fits d low high = grind (arith, nat_tests)

-- ---- first kids

pub kid_is : (w : Writes) (c : State) (kids : List (Option ℕ)) → AreFirstKids w c kids → (s n : ℕ) → slice_get kids s ≡ Some (Some n) → (carried_at w s ≡ true) × (slot_of c s ≡ Some n)
kid_is w c kids firsts s n at = go (carried_at w s) refl
  where
    go : (b : Bool) → carried_at w s ≡ b → (carried_at w s ≡ true) × (slot_of c s ≡ Some n)
    go true e = (e, sym (firsts.each s (Some n) at ∙ ap (λ (b : Bool). if b then slot_of c s else None) e))
    go false e = absurd (let z : Some n ≡ None = firsts.each s (Some n) at ∙ ap (λ (b : Bool). if b then slot_of c s else None) e in cc)

pub kid_none : (w : Writes) (c : State) (kids : List (Option ℕ)) → AreFirstKids w c kids → (s n : ℕ) → slice_get kids s ≡ Some None → slot_of c s ≡ Some n → carried_at w s ≡ false
kid_none w c kids firsts s n at own = go (carried_at w s) refl
  where
    go : (b : Bool) → carried_at w s ≡ b → carried_at w s ≡ false
    go true e = absurd (let z : None ≡ Some n = firsts.each s None at ∙ ap (λ (b : Bool). if b then slot_of c s else None) e ∙ own in cc)
    go false e = e

-- ---- where the header begins

pub record FirstFrame (m : Method) (g : Graph) (b : ℕ) (c : State) : Type 0 where
  pub block : Block
  pub block_at : slice_get m.flow.now.blocks b ≡ Some block
  pub frame : Frame
  pub frame_at : IsFrameAt m.typed.now.frames block.first frame
  pub sorts : IsStateOf g c frame

abbrev pub head_of : Loop → Head
head_of l = record { header = l.header; depth = l.depth }

-- a loop while it is opened: what it is entered with, where `first` has unit as its token, and the thetas that were begun
pub record Opening (m : Method) (made : Made) (l : Loop) : Type 0 where
  pub old : Graph
  pub stage : IsStage m old made (loops_at m l.parent)
  pub first : State
  pub at : FirstFrame m old l.header first
  pub reads : HeldAs m old made.names first (λ v. first_kid v l.header)
  pub token : ℕ
  pub token_sort : IsOfSort old token T
  pub enters : StandsAs m old made.names token (λ v. v.entering l.header 0)
  pub writes : Writes
  pub kids : List (Option ℕ)
  pub firsts : AreFirstKids writes first kids
  pub new : Graph
  pub more : List Named
  pub thetas : List Theta
  pub nodes : List (Option ℕ)
  pub begun : AreBegun (head_of l) kids old made.names new more thetas nodes

-- ---- a loop

module _ (m : Method) (is : IsMethod m) (i : ℕ) (l : Loop) (there : slice_get m.forest.now.loops.items i ≡ Some l) where
  abbrev h : ℕ
  h = l.header

  abbrev R : List ℕ
  R = loops_at m l.parent

  abbrev f : Flow
  f = flow_in m

  around_own : f.around h ≡ h ∷ R
  around_own = header_own m is i l there

  depth_own : l.depth ≡ depths f h
  depth_own = depth_is m.typed.now.program m.typed.now.frames m.flow.now.blocks m.forest.now is.routine i l there

  pub low_own : h < length m.flow.now.blocks
  low_own = header_low m.typed.now.program m.typed.now.frames m.flow.now.blocks m.forest.now is.routine i l there

  pub depth_right : IsTrue (is_depth l.depth)
  depth_right =
      let z = depth_own ∙ ap length around_own in
      let w = (layout.ranked m.typed.now.program m.typed.now.frames m.flow.now.blocks m.forest.now is.routine).deep h in
      let d = depth_own in
      depth_fits l.depth (omega (arith, z)) (omega (arith, w, d))

  -- the loops around it have lower depths
  outer_depth : (k : ℕ) → In R k → depths f k ≤ length R
  outer_depth = deep_at m is l.parent (parent_at m is i l there)

  own_depth : depths f h ≡ suc (length R)
  own_depth = ap length around_own

  -- and it isn't one of them
  not_outer : In R h → ⊥
  not_outer among = let z = outer_depth h among in let w = own_depth in omega (arith, z, w)

  same_place : (j : ℕ) (k : Loop) → slice_get m.forest.now.loops.items j ≡ Some k → k.header ≡ h → j ≡ i
  same_place j k at e = one_loop m.typed.now.program m.typed.now.frames m.flow.now.blocks m.forest.now is.routine j i k l at there e

  -- a loop whose header hasn't run and that isn't open is ahead
  module _ (g : Graph) (made : Made) (next : HasRun made h → ⊥) (st : IsStage m g made R) where
    ahead_is : (x : Stage) → IsAt m g made R h x → x ≡ stage.Ahead
    ahead_is stage.Ahead at = refl
    ahead_is (stage.Open o) at = absurd (not_outer at.0)
    ahead_is (stage.Closed c) at = absurd (next (at.1 h low_own (subst (λ (A : List ℕ). Contains A h) (sym around_own) (0, omega arith, refl))))

    pub listed : i < length made.loops.items
    listed = let z = slice_get_within m.forest.now.loops.items i l there in let w = st.loops_size in omega (arith, z, w)

    pub is_ahead : slice_get made.loops.items i ≡ Some stage.Ahead
    is_ahead =
        let x = found made.loops.items i listed in
        x.1 ∙ ap (λ (s : Stage). Some s) (ahead_is x.0 (st.loops i l x.0 there x.1))

    pub no_names : (s : ℕ) → IsUnnamed made.names h s
    no_names s n among = st.loops i l stage.Ahead there is_ahead s n among

  -- ---- while it is opened

  module _ (made : Made) (next : HasRun made h → ⊥) (o : Opening m made l) where
    begins : Begins (head_of l) o.kids o.old made.names o.new o.more o.thetas
    begins = o.begun.begins

    persists : Persists o.old o.new
    persists = record { stand = extends_stand o.old o.new begins.extends; sorts = begins.extends.sorts }

    -- what stands for something stays
    stands : (n : ℕ) (e : Exp) → Reads o.old.nodes made.names n e → Reads o.new.nodes o.more n e
    stands n e r = reads_on o.old o.new persists made.names o.more begins.within n e r

    -- the first kid of each theta is a node of its slot where the loop is entered
    kid_at : (s n : ℕ) → slice_get o.kids s ≡ Some (Some n) → slot_of o.first s ≡ Some n
    kid_at s n at = (kid_is o.writes o.first o.kids o.firsts s n at).1

    kid_before : (s n : ℕ) → slice_get o.kids s ≡ Some (Some n) → n < length o.old.nodes
    kid_before s n at = let z = sorted_slot o.old o.first o.at.frame o.at.sorts s n (kid_at s n at) in sorted_within o.old n z.0 o.stage.well.graph z.1

    -- a node has one sort
    sort_once : (n : ℕ) (t u : OpSort) → IsOfSort o.old n u → IsOfSort o.new n t → t ≡ u
    sort_once n t u is at = some_of t u (sym at ∙ begins.extends.sorts n u is)

    -- the frame knows the sort of a slot that has a theta
    kid_slot : (s : Slot) (n : ℕ) (t : OpSort) → slot_of o.first (number s) ≡ Some n → IsOfSort o.new n t → HasSlot o.at.frame s t
    kid_slot slot.Token n t e at = sort_once n t T (subst (λ (n : ℕ). IsOfSort o.old n T) (some_of o.first.token n e) o.at.sorts.token) at
    kid_slot slot.Fault n t e at = absurd (cc)
    kid_slot slot.Result n t e at = absurd (cc)
    kid_slot slot.Heap n t e at = sort_once n t H (subst (λ (n : ℕ). IsOfSort o.old n H) (some_of o.first.heap n e) o.at.sorts.heap) at
    kid_slot (slot.Local k) n t e at =
        let x = local_slot_sort o.old o.first o.at.frame o.at.sorts k n e in
        (x.0, x.1, x.2, sort_once n t (op_sort x.0) x.3 at)
    kid_slot (slot.Place j) n t e at =
        let x = stack_slot_sort o.old o.first o.at.frame o.at.sorts j n e in
        (x.0, x.1, x.2, x.3, x.4, sort_once n t (op_sort x.1) x.5 at)

    theta_is : (x : Theta) → IsBegun (head_of l) o.kids (length o.old.nodes) o.new o.more x → IsThetaOf m o.new o.more h (length o.old.nodes) x
    theta_is x b = record {
      is = b.is;
      first = λ v eqs. stands x.first (first_kid v h (number x.slot)) (o.reads v eqs (number x.slot) x.first (kid_at (number x.slot) x.first b.meant));
      sort = (b.sort.0, b.sort.1, b.sort.2, (o.at.block, o.at.frame, o.at.block_at, o.at.frame_at, kid_slot x.slot x.first b.sort.0 (kid_at (number x.slot) x.first b.meant) b.sort.2));
      untied = b.unfinished ∙ ap (λ (d : ℕ). Some (node_of (op.Theta d) [])) depth_own;
      before = kid_before (number x.slot) x.first b.meant;
      after = b.after;
    }

    -- no old node leads to a theta that was begun
    base_own : HasBase o.new (length o.old.nodes) (depths f h)
    base_own = record {
      low = as_long o.old o.new begins.extends;
      shut = λ n k x at less among.
          let e : o.old.base ≡ length o.old.nodes = o.stage.well.graph.open_ o.stage.open_ in
          let z : k < o.old.base = o.stage.well.graph.early n k x (old_node o.old o.new begins.extends n x less at) (omega (arith, e, less)) among in
          omega (arith, e, z);
      inside = λ n x at ge. ⊎_elim
          (λ was. absurd (let z = slice_get_within o.old.nodes n x was in omega (arith, z, ge)))
          (λ is. theta_inside l.depth (depths f h) x.op (let z = depth_own in omega (arith, z)) is)
          (begins.added n x at);
    }

    base_on : (base d : ℕ) → d ≤ l.depth → HasBase o.old base d → HasBase o.new base d
    base_on base d le b = record {
      low = let z = as_long o.old o.new begins.extends in let w = b.low in omega (arith, z, w);
      shut = λ n k x at less among. b.shut n k x (old_node o.old o.new begins.extends n x (let w = b.low in omega (arith, w, less)) at) less among;
      inside = λ n x at ge. ⊎_elim (λ was. b.inside n x was ge) (λ is. theta_inside l.depth d x.op le is) (begins.added n x at);
    }

    -- each name of its header is a theta
    own_theta : (s n : ℕ) → In o.more (named h s n) → HasTheta o.thetas s n
    own_theta s n among = ⊎_elim (λ was. absurd (no_names o.old made next o.stage s n was)) (λ b. o.begun.nodes_are.some s n b.1) (o.begun.nodes_are.only h s n among)

    -- it begins with the token
    token_theta : (n : ℕ) × (slice_get o.nodes 0 ≡ Some (Some n))
    token_theta =
        let low : 0 < length o.nodes = (let z = o.firsts.above 0 o.first.token refl in let w = o.begun.size in omega (arith, z, w)) in
        let x = found o.nodes 0 low in
        go x.0 x.1
      where
        go : (k : Option ℕ) → slice_get o.nodes 0 ≡ Some k → (n : ℕ) × (slice_get o.nodes 0 ≡ Some (Some n))
        go (Some n) at = (n, at)
        go None at = absurd (let z : true ≡ false = kid_none o.writes o.first o.kids o.firsts 0 o.first.token (o.begun.nodes_are.none 0 at) refl in cc)

    -- the loop is open
    is_opened : (x : Opened) → x.token ≡ o.token → x.base ≡ length o.old.nodes → x.thetas.items ≡ o.thetas → IsOpened m o.new o.more h x
    is_opened x token base all = record {
      token = subst (λ (n : ℕ). IsOfSort o.new n T) (sym token) (sort_on o.old o.new persists o.token T o.token_sort);
      enters = λ v eqs. subst (λ (n : ℕ). Reads o.new.nodes o.more n (v.entering h 0)) (sym token) (stands o.token (v.entering h 0) (o.enters v eqs));
      has_base = subst (λ (n : ℕ). HasBase o.new n (depths f h)) (sym base) base_own;
      thetas = λ j y at. subst (λ (n : ℕ). IsThetaOf m o.new o.more h n y) (sym base) (theta_is y (begins.each j y (there_in j y at)));
      all = λ s n among. let z = own_theta s n among in (z.0, z.1, ap (λ (xs : List Theta). slice_get xs z.0) all ∙ z.2, z.3, z.4);
      once = λ j k y z at to same. begins.once j k y z (there_in j y at) (there_in k z to) same;
      some = let z = o.begun.nodes_are.some 0 token_theta.0 token_theta.1 in (z.0, z.1, ap (λ (xs : List Theta). slice_get xs z.0) all ∙ z.2);
    }
      where
        there_in : (j : ℕ) (y : Theta) → slice_get x.thetas.items j ≡ Some y → slice_get o.thetas j ≡ Some y
        there_in j y at = sym (ap (λ (xs : List Theta). slice_get xs j) all) ∙ at

    -- ---- other loops

    -- the names of another loop are as they were
    other_name : (k s n : ℕ) → (k ≡ h → ⊥) → In o.more (named k s n) → In made.names (named k s n)
    other_name k s n other among = ⊎_elim (λ was. was) (λ b. absurd (other b.0)) (o.begun.nodes_are.only k s n among)

    other_opened : (k : ℕ) (x : Opened) → (k ≡ h → ⊥) → In R k → IsOpened m o.old made.names k x → IsOpened m o.new o.more k x
    other_opened k x other among is =
        opened_on o.old o.new persists made.names o.more begins.within m k (λ s n y name at. begins.extends.nodes n y at) (λ s n name. other_name k s n other name) x
        (base_on x.base (depths f k) (let z = outer_depth k among in let w = own_depth in let d = depth_own in omega (arith, z, w, d))) is

    -- a name of its header is a theta without kids
    own_unfinished : (s n : ℕ) → HasTheta o.thetas s n → IsUnfinishedName f o.new.nodes h n × (length o.old.nodes ≤ n)
    own_unfinished s n x =
        let b = begins.each x.0 x.1 x.2 in (
          ap (slice_get o.new.nodes) (sym x.4) ∙ b.unfinished ∙ ap (λ (d : ℕ). Some (node_of (op.Theta d) [])) depth_own,
          (let z = b.after in let y = x.4 in omega (arith, z, y)),
        )

    -- ---- all that is made

    module _ (loops : Vec Stage Global) (x : Opened) (put : loops.items ≡ slice_set made.loops.items i (stage.Open x)) (token : x.token ≡ o.token) (base : x.base ≡ length o.old.nodes) (all : x.thetas.items ≡ o.thetas) where
      abbrev after : Made
      after = record { start = made.start; names = o.more; blocks = made.blocks; loops = loops }

      st : IsStage m o.old made R
      st = o.stage

      -- the stage of this loop
      stage_own : slice_get loops.items i ≡ Some (stage.Open x)
      stage_own = ap (λ (xs : List Stage). slice_get xs i) put ∙ set_same made.loops.items i (stage.Open x) (listed o.old made next st)

      -- .. of another
      stage_other : (j : ℕ) → (j ≡ i → ⊥) → slice_get loops.items j ≡ slice_get made.loops.items j
      stage_other j ne = ap (λ (xs : List Stage). slice_get xs j) put ∙ set_other made.loops.items i (stage.Open x) j ne

      at_other : (k : ℕ) (y : Stage) → (k ≡ h → ⊥) → IsAt m o.old made R k y → IsAt m o.new after (h ∷ R) k y
      at_other k stage.Ahead other is = λ s n among. is s n (other_name k s n other among)
      at_other k (stage.Open y) other is = (inr is.0, other_opened k y other is.0 is.1, is.2)
      at_other k (stage.Closed y) other is = (closed_on o.old o.new persists made.names o.more begins.within m k y is.0, is.1)

      at_own : (k : ℕ) (y : Stage) → k ≡ h → y ≡ stage.Open x → IsAt m o.new after (h ∷ R) k y
      at_own k y same open_ =
          subst (λ (y : Stage). IsAt m o.new after (h ∷ R) k y) (sym open_)
          (inl (sym same), subst (λ (k : ℕ). IsOpened m o.new o.more k x) (sym same) (is_opened x token base all), (let z = st.low in omega (arith, z, base)))

      loop_at : (j : ℕ) (k : Loop) (y : Stage) → slice_get m.forest.now.loops.items j ≡ Some k → slice_get loops.items j ≡ Some y → IsAt m o.new after (h ∷ R) k.header y
      loop_at j k y at now = ⊎_elim
          (λ e. at_own k.header y (ap (λ (k : Loop). k.header) (some_of k l (sym at ∙ ap (slice_get m.forest.now.loops.items) e ∙ there))) (some_of y (stage.Open x) (sym now ∙ ap (slice_get loops.items) e ∙ stage_own)))
          (λ ne. at_other k.header y (λ e. ne (same_place j k at e)) (st.loops j k y at (sym (stage_other j ne) ∙ now)))
          (cases_eq j i)

      opens_at : (j : ℕ) (k : Loop) → slice_get m.forest.now.loops.items j ≡ Some k → In (h ∷ R) k.header → (y : Opened) × (slice_get loops.items j ≡ Some (stage.Open y))
      opens_at j k at among = ⊎_elim
          (λ own. (x, ap (slice_get loops.items) (same_place j k at (sym own)) ∙ stage_own))
          (λ outer. let z = st.opens j k at outer in (z.0, stage_other j (λ e. absurd (let w : Some stage.Ahead ≡ Some (stage.Open z.0) = sym (is_ahead o.old made next st) ∙ ap (slice_get made.loops.items) (sym e) ∙ z.1 in cc)) ∙ z.1))
          among

      passed_at : (b j : ℕ) (k : Loop) → HasRun made b → slice_get m.forest.now.loops.items j ≡ Some k → Contains (f.around b) k.header → In (h ∷ R) k.header ⊎ ((y : Closed) × (slice_get loops.items j ≡ Some (stage.Closed y)))
      passed_at b j k r at among = ⊎_elim
          (λ outer. inl (inr outer))
          (λ z. inr (z.0, stage_other j (λ e. absurd (let w : Some stage.Ahead ≡ Some (stage.Closed z.0) = sym (is_ahead o.old made next st) ∙ ap (slice_get made.loops.items) (sym e) ∙ z.1 in cc)) ∙ z.1))
          (st.passed b j k r at among)

      -- WHERE THE LOOP IS OPEN
      pub stage_opened : IsStage m o.new after (h ∷ R)
      stage_opened = record {
        well = begins.made st.well;
        open_ = begins.open_ ∙ st.open_;
        low = let z = as_long o.old o.new begins.extends in let w = st.low in omega (arith, z, w);
        left = λ n open_. ⊎_elim
            (λ was. ⊎_elim (λ less. inl less) (λ z. inr (z.0, z.1, begins.within z.0 z.1 n z.2, inr z.3)) (st.left n was))
            (λ z. inr (h, z.0, z.1, inl refl))
            (begins.left n open_);
        names = begins.stay (depths f) (sym depth_own) st.names;
        later = λ k s n among. ⊎_elim
            (λ was. st.later k s n was)
            (λ b. let z = (own_unfinished s n (o.begun.nodes_are.some s n b.1)).1 in let w = st.low in omega (arith, z, w))
            (o.begun.nodes_are.only k s n among);
        each_name = λ k s n among. ⊎_elim
            (λ was. ⊎_elim
            (λ open_. inl (inr open_.0, begins.extends.nodes n _ open_.1))
            (λ tied. inr (λ v eqs. tied_on o.old o.new persists made.names o.more begins.within f v k s n (begins.extends.nodes n) (tied v eqs)))
            (st.each_name k s n was))
            (λ b. inl (inl (sym b.0), subst (λ (k : ℕ). IsUnfinishedName f o.new.nodes k n) (sym b.0) (own_unfinished s n (o.begun.nodes_are.some s n b.1)).0))
            (o.begun.nodes_are.only k s n among);
        blocks_size = st.blocks_size;
        blocks = λ b r at. done_on o.old o.new persists m made.names o.more begins.within b r (st.blocks b r at);
        loops_size = ap length put ∙ set_length made.loops.items i (stage.Open x) ∙ st.loops_size;
        loops = loop_at;
        opens = opens_at;
        passed = passed_at;
      }
