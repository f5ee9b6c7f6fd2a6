-- What is held at the header of a loop that is opened.
use Rattle.std.proofs.Common.{◌≡◌, ℕ, zero, suc, ◌-◌, ◌<◌, ◌≤◌, Bool, true, false, ◌||◌, List, [], ◌∷◌, length, get_or, Option, Some, None, slice_get, slice_set, unwrap_or, refl, sym, ap, ◌∙◌, subst, arith}
use Rattle.pv_build.proofs.Words.{found, extends_stand, slice_get_within, slice_get_read, get_or_from_slice_get, list_any, some_of, frame_long, Loop, OpSort, T, In, Graph, HasSort, Exp, NoExp, Flow, Values, AreEquations, first_kid, unit_exp, named, Reads, Grows, Keeps, IsOfSort, HasItsSort, ReadsOver, IsFlat, local_slot, stack_slot, always_carried, members_of, writes_in, Cell, State, op_sort, IsSortedCell, node_of_cell, slot_of, IsCellOf, IsStateOf, Sort, Method, Made, Writes, Part, number_in, IsKnown, AreCellsOf, IsCarried, flow_in, loops_at, HasRun, IsMethod, IsStage, KeepsFirst, HeldAs, CanOpen, CanBegin, carried_at, AreFirstKids, node_or, AreHeaderCells, IsHeaderState, Vec, Global, Block, Stage, Opened, IsFrameAt, IsOwnLoop, Begun, Named, Theta, H, AreBegun}
use Rattle.pv_graph.specs.declared.node.Op.TheVariants as op
use Rattle.pv_build.specs.declared.method.Stage.TheVariants as stage
use Rattle.pv_build.specs.declared.slot.Part.TheVariants as part
use Rattle.pv_layout.proofs.Cited.{zip_each, zip_first, zip_long}
use Rattle.pv_build.proofs.Slotted.{turn_local, turn_stack}
use Rattle.pv_build.proofs.Persisting.{Persists, grown, sort_on, reads_on, state_on}
use Rattle.pv_build.proofs.Staged.{flat_beyond, stage_grown}
use Rattle.pv_build.proofs.Cells.{node_known, known_node, by_slot, local_there, stack_there, sorted_slot}
use Rattle.pv_build.proofs.Around.{parent_at, header_own, deep_at}
use Rattle.pv_build.proofs.Opened as opened
use Rattle.pv_build.proofs.Opened.{FirstFrame, Opening, head_of, kid_is, kid_none}

-- the nodes from before the method stay where all nodes stay
pub keeps_first : (start : ℕ) (a b : Graph) → Keeps a b → KeepsFirst start a b
keeps_first start a b k = record { graph = k.graph; nodes = λ n x less at. k.extends.nodes n x at; sorts = k.extends.sorts }

pub keeps_grown : (a b : Graph) → Grows a b → Keeps a b
keeps_grown a b g = record { graph = g.graph; extends = g.extends }

-- unit has no kids
pub unit_has : (g : Graph) → HasSort g.sorts op.Unit [] T
unit_has g = record { sorts = []; kids_have = tt; over = refl }

-- ---- before the thetas are begun

module _ (m : Method) (is : IsMethod m) (g : Graph) (made : Made) (i : ℕ) (c : State) (can : CanOpen m g made i c) where
  abbrev l : Loop
  l = can.loop_

  abbrev header : ℕ
  header = l.header

  pub there_low : i < length m.forest.now.loops.items
  there_low = slice_get_within m.forest.now.loops.items i l can.there

  pub carried_low : i < length m.carried.items
  carried_low = let z = is.carries.size in let w = there_low in omega (arith, z, w)

  pub loop_is : (x : Loop) → x ≡ get_or m.forest.now.loops.items i x → l ≡ x
  loop_is x e = some_of l x (sym can.there ∙ slice_get_read m.forest.now.loops.items (length m.forest.now.loops.items) i x refl there_low e)

  pub listed_at : i < length made.loops.items
  listed_at = opened.listed m is i l can.there g made can.ahead can.stage

  pub writes_at : (w : Writes) → w ≡ get_or m.carried.items i w → slice_get m.carried.items i ≡ Some w
  writes_at w e = slice_get_read m.carried.items (length m.carried.items) i w refl carried_low e

  -- with one node more, which is unit
  module _ (a : Graph) (unit : ℕ) (grows : Grows g a) (over : ReadsOver g op.Unit [] a unit) (sort : HasItsSort g op.Unit [] a unit) where
    abbrev first : State
    first = record { stack = c.stack; locals = c.locals; heap = c.heap; token = unit }

    pub stage_unit : IsStage m a made (loops_at m l.parent)
    stage_unit =
        let R : List ℕ = loops_at m l.parent in
        stage_grown m g a made R (length R) (deep_at m is l.parent (parent_at m is i l can.there)) (flat_beyond (length R) g a grows) can.stage

    pub persists : Persists g a
    persists = grown IsFlat g a grows

    pub frame_is : FirstFrame m a header first
    frame_is =
        let x = found m.flow.now.blocks header (opened.low_own m is i l can.there) in
        let y = can.sorts x.0 x.1 in
        let z = state_on g a persists c y.0 y.2 in
        record { block = x.0; block_at = x.1; frame = y.0; frame_at = y.1; sorts = record { stack = z.stack; locals = z.locals; heap = z.heap; token = sort T (unit_has g) } }

    other_slot : (s : ℕ) → slot_of first (suc s) ≡ slot_of c (suc s)
    other_slot zero = refl
    other_slot (suc zero) = refl
    other_slot (suc (suc zero)) = refl
    other_slot (suc (suc (suc s))) = refl

    pub first_reads : HeldAs m a made.names first (λ v. first_kid v header)
    first_reads v eqs zero n e = subst (λ (n : ℕ). Reads a.nodes made.names n unit_exp) (some_of unit n e) (over made.names NoExp tt)
    first_reads v eqs (suc s) n e = reads_on g a persists made.names made.names (λ h s n i. i) n (v.entering header (suc s)) (can.reads v eqs (suc s) n (sym (other_slot s) ∙ e))

    -- THETAS MAY BE BEGUN
    pub can_begin : (w : Writes) (kids : List (Option ℕ)) → AreFirstKids w first kids → CanBegin (head_of l) kids a made.names
    can_begin w kids firsts = record {
      graph = grows.graph;
      open_ = stage_unit.open_;
      depth = opened.depth_right m is i l can.there;
      sorted = λ s n at. sorted_slot a first frame_is.frame frame_is.sorts s n (kid_is w first kids firsts s n at).1;
      fresh = opened.no_names m is i l can.there a made can.ahead stage_unit;
    }

    -- WHAT THE LOOP IS OPENED WITH
    abbrev pub opening : (w : Writes) (kids : List (Option ℕ)) → AreFirstKids w first kids → (new : Graph) (more : List Named) (thetas : List Theta) (nodes : List (Option ℕ)) → AreBegun (head_of l) kids a made.names new more thetas nodes → Opening m made l
    opening w kids firsts new more thetas nodes begun = record {
      old = a;
      stage = stage_unit;
      first = first;
      at = frame_is;
      reads = first_reads;
      token = c.token;
      token_sort = (let x = found m.flow.now.blocks header (opened.low_own m is i l can.there) in sort_on g a persists c.token T (can.sorts x.0 x.1).2.token);
      enters = λ v eqs. reads_on g a persists made.names made.names (λ h s n i. i) c.token (v.entering header 0) (can.reads v eqs 0 c.token refl);
      writes = w;
      kids = kids;
      firsts = firsts;
      new = new;
      more = more;
      thetas = thetas;
      nodes = nodes;
      begun = begun;
    }

-- ---- what is held at the header

some_at : (xs : List (Option ℕ)) (s n : ℕ) → get_or xs s None ≡ Some n → slice_get xs s ≡ Some (Some n)
some_at [] s n e = absurd (cc)
some_at (x ∷ xs) zero n e = ap (λ (k : Option ℕ). Some k) e
some_at (x ∷ xs) (suc s) n e = some_at xs s n e

module _ (m : Method) (is : IsMethod m) (i : ℕ) (l : Loop) (there : slice_get m.forest.now.loops.items i ≡ Some l) (made : Made) (o : Opening m made l) (writes : slice_get m.carried.items i ≡ Some o.writes) where
  abbrev f : Flow
  f = flow_in m

  abbrev h : ℕ
  h = l.header

  carried_is : IsCarried m.typed.now.program m.typed.now.frames m.flow.now.blocks m.forest.now h o.writes
  carried_is = is.carries.each i l o.writes there writes

  -- there is a flag for each local
  carried_long : length o.first.locals ≤ length o.writes.locals.items
  carried_long =
      let z = zip_long (IsCellOf o.old) o.first.locals o.at.frame.locals o.at.sorts.locals in
      let x = frame_long m.typed.now.program m.typed.now.frames is.routine.shaped.well_typed o.at.block.first o.at.frame o.at.frame_at in
      let y = carried_is.size in
      omega (arith, z, x, y)

  -- the loop carries the operand stack
  stack_carried : (j : ℕ) → f.carried h (stack_slot j) ≡ true
  stack_carried j =
      let p = m.typed.now.program in
      let any : Bool = list_any (writes_in p m.typed.now.frames m.flow.now.blocks (stack_slot j)) (members_of m.forest.now.loops.items h) in
      ap (λ (b : Bool). b || any) (always j)
    where
      always : (j : ℕ) → always_carried m.typed.now.program (stack_slot j) ≡ true
      always j = turn_stack _ (λ k. true) j

  local_carried : (k : ℕ) → k < length o.writes.locals.items → f.carried h (local_slot k) ≡ get_or o.writes.locals.items k false
  local_carried k less =
      let b = found o.writes.locals.items k less in
      sym (carried_is.locals k b.0 b.1) ∙ sym (get_or_from_slice_get o.writes.locals.items k b.0 false b.1)

  slot_carried : (s n : ℕ) → slot_of o.first s ≡ Some n → f.carried h s ≡ carried_at o.writes s
  slot_carried = by_slot o.first (λ s n. f.carried h s ≡ carried_at o.writes s) refl (sym carried_is.heap)
      (λ k d at known. let low = slice_get_within o.first.locals k d at in let z = carried_long in local_carried k (omega (arith, low, z)) ∙ sym (turn_local (λ (k : ℕ). get_or o.writes.locals.items k false) (λ j. true) k))
      (λ k d at known. stack_carried (length o.first.stack - 1 - k) ∙ sym (turn_stack (λ (k : ℕ). get_or o.writes.locals.items k false) (λ j. true) (length o.first.stack - 1 - k)))

  stands : (n : ℕ) (e : Exp) → Reads o.old.nodes made.names n e → Reads o.new.nodes o.more n e
  stands n e r =
      let x = o.begun.begins.extends in
      reads_on o.old o.new (record { stand = extends_stand o.old o.new x; sorts = x.sorts }) made.names o.more o.begun.begins.within n e r

  node_is : (s own : ℕ) (k : Option ℕ) → slice_get o.nodes s ≡ Some k → node_or o.nodes s own ≡ unwrap_or k own
  node_is s own k at = ap (λ (k : Option ℕ). unwrap_or k own) (get_or_from_slice_get o.nodes s k None at)

  -- a slot that the loop carries is named, and others are what they are where it is entered
  node_reads : (v : Values) → AreEquations f v → (s own : ℕ) → slot_of o.first s ≡ Some own → Reads o.new.nodes o.more (node_or o.nodes s own) (v.value h s)
  node_reads v eqs s own at =
      let low : s < length o.nodes = (let z = o.firsts.above s own at in let w = o.begun.size in omega (arith, z, w)) in
      let x = found o.nodes s low in
      subst (λ (n : ℕ). Reads o.new.nodes o.more n (v.value h s)) (sym (node_is s own x.0 x.1)) (go x.0 x.1)
    where
      around : f.around h ≡ h ∷ loops_at m l.parent
      around = header_own m is i l there

      other : (k : ℕ) → carried_at o.writes k ≡ false → Reads o.new.nodes o.more own (first_kid v h k) → Reads o.new.nodes o.more own (v.entering h k)
      other zero e r = absurd (cc)
      other (suc k) e r = r

      go : (k : Option ℕ) → slice_get o.nodes s ≡ Some k → Reads o.new.nodes o.more (unwrap_or k own) (v.value h s)
      go (Some n) here =
          let x = o.begun.nodes_are.some s n here in
          let b = o.begun.begins.each x.0 x.1 x.2 in
          let kid : slice_get o.kids s ≡ Some (Some x.1.first) = ap (slice_get o.kids) (sym x.3) ∙ b.meant in
          let among : In o.more (named h s n) = subst (λ (n : ℕ). In o.more (named h s n)) x.4 (subst (λ (s : ℕ). In o.more (named h s x.1.node)) x.3 b.is) in
          subst (λ (e : Exp). Reads o.new.nodes o.more n e) (sym (eqs.names h s (loops_at m l.parent) around (slot_carried s own at ∙ (kid_is o.writes o.first o.kids o.firsts s x.1.first kid).0))) among
      go None here =
          let stays : carried_at o.writes s ≡ false = kid_none o.writes o.first o.kids o.firsts s own (o.begun.nodes_are.none s here) at in
          subst (λ (e : Exp). Reads o.new.nodes o.more own e) (sym (eqs.others h s (loops_at m l.parent) around (slot_carried s own at ∙ stays))) (other s stays (stands own (first_kid v h s) (o.reads v eqs s own at)))

  -- the theta of a slot has the sort of its first kid
  node_sort : (s own : ℕ) (t : OpSort) → IsOfSort o.old own t → ((first : ℕ) → slot_of o.first s ≡ Some first → own ≡ first) → IsOfSort o.new (node_or o.nodes s own) t
  node_sort s own t is_ same = go (get_or o.nodes s None) refl
    where
      own_at : IsOfSort o.new own t
      own_at = o.begun.begins.extends.sorts own t is_

      go : (k : Option ℕ) → get_or o.nodes s None ≡ k → IsOfSort o.new (node_or o.nodes s own) t
      go None e = subst (λ (k : Option ℕ). IsOfSort o.new (unwrap_or k own) t) (sym e) own_at
      go (Some n) e =
          let x = o.begun.nodes_are.some s n (some_at o.nodes s n e) in
          let b = o.begun.begins.each x.0 x.1 x.2 in
          let q : own ≡ x.1.first = same x.1.first (kid_is o.writes o.first o.kids o.firsts s x.1.first (ap (slice_get o.kids) (sym x.3) ∙ b.meant)).1 in
          let u : b.sort.0 ≡ t = some_of b.sort.0 t (sym b.sort.2 ∙ subst (λ (n : ℕ). IsOfSort o.new n t) q own_at) in
          subst (λ (k : Option ℕ). IsOfSort o.new (unwrap_or k own) t) (sym e) (subst (λ (n : ℕ). IsOfSort o.new n t) x.4 (subst (λ (t : OpSort). IsOfSort o.new x.1.node t) u b.sort.1))

  module _ (which : Part) (cells made_ : List Cell) (at_slot : (i : ℕ) (c : Cell) → slice_get cells i ≡ Some c → slot_of o.first (number_in which (length cells) i) ≡ node_of_cell c) (are : AreHeaderCells o.nodes which cells made_) where
    cells_read : (v : Values) → AreEquations f v → (i : ℕ) (d : Cell) → slice_get made_ i ≡ Some d → IsKnown d.sort → Reads o.new.nodes o.more d.node (v.value h (number_in which (length made_) i))
    cells_read v eqs i d at known =
        let x = are.each i d at in
        let s : ℕ = number_in which (length cells) i in
        let sorted : IsKnown x.0.sort = (λ un. known (ap (λ (z : Cell). z.sort) x.2 ∙ un)) in
        subst (λ (n : ℕ). Reads o.new.nodes o.more d.node (v.value h (number_in which n i))) (sym are.size)
        (subst (λ (n : ℕ). Reads o.new.nodes o.more n (v.value h s)) (sym (ap (λ (z : Cell). z.node) x.2)) (node_reads v eqs s x.0.node (at_slot i x.0 x.1 ∙ node_known x.0 sorted)))

    cells_sorted : (sorts : List Sort) → AreCellsOf o.old cells sorts → AreCellsOf o.new made_ sorts
    cells_sorted sorts all = zip_each (IsCellOf o.new) made_ sorts (are.size ∙ zip_long (IsCellOf o.old) cells sorts all) each
      where
        each : (i : ℕ) (d : Cell) → slice_get made_ i ≡ Some d → (t : Sort) × (slice_get sorts i ≡ Some t) × IsCellOf o.new d t
        each i d at =
            let x = are.each i d at in
            let z = zip_first (IsCellOf o.old) cells sorts i x.0 all x.1 in
            let s : ℕ = number_in which (length cells) i in (
              z.0,
              z.1,
              (
                ap (λ (y : Cell). y.sort) x.2 ∙ z.2.0,
                subst (IsSortedCell o.new) (sym x.2) (node_sort s x.0.node (op_sort x.0.sort) z.2.1 (λ first e. (known_node x.0 first (sym (at_slot i x.0 x.1) ∙ e)).1)),
              ),
            )

  module _ (d : State) (are : IsHeaderState o.nodes o.first d) where
    -- WHAT IS HELD AT THE HEADER STANDS FOR ITS SLOTS
    pub header_reads : HeldAs m o.new o.more d (λ v. v.value h)
    header_reads v eqs = by_slot d (λ s n. Reads o.new.nodes o.more n (v.value h s))
        (subst (λ (n : ℕ). Reads o.new.nodes o.more n (v.value h 0)) (sym are.token) (node_reads v eqs 0 o.first.token refl))
        (subst (λ (n : ℕ). Reads o.new.nodes o.more n (v.value h 3)) (sym are.heap) (node_reads v eqs 3 o.first.heap refl))
        (cells_read part.Locals o.first.locals d.locals (local_there o.first) are.locals v eqs)
        (cells_read part.Stack o.first.stack d.stack (stack_there o.first) are.stack v eqs)

    -- .. and has the sorts of the header's frame
    pub header_sorts : IsStateOf o.new d o.at.frame
    header_sorts = record {
      stack = cells_sorted part.Stack o.first.stack d.stack (stack_there o.first) are.stack o.at.frame.stack o.at.sorts.stack;
      locals = cells_sorted part.Locals o.first.locals d.locals (local_there o.first) are.locals o.at.frame.locals o.at.sorts.locals;
      heap = subst (λ (n : ℕ). IsOfSort o.new n H) (sym are.heap) (node_sort 3 o.first.heap H o.at.sorts.heap (λ first e. some_of o.first.heap first e));
      token = subst (λ (n : ℕ). IsOfSort o.new n T) (sym are.token) (node_sort 0 o.first.token T o.at.sorts.token (λ first e. some_of o.first.token first e));
    }

-- ---- the loop is open

module _ (m : Method) (is : IsMethod m) (i : ℕ) (l : Loop) (there : slice_get m.forest.now.loops.items i ≡ Some l) (made : Made) (ahead : HasRun made l.header → ⊥) (o : Opening m made l) (writes : slice_get m.carried.items i ≡ Some o.writes) (loops : Vec Stage Global) (x : Opened)
    (put : loops.items ≡ slice_set made.loops.items i (stage.Open x)) (token : x.token ≡ o.token) (base : x.base ≡ length o.old.nodes) (all : x.thetas.items ≡ o.thetas) (d : State) (are : IsHeaderState o.nodes o.first d) where
  abbrev after : Made
  after = record { start = made.start; names = o.more; blocks = made.blocks; loops = loops }

  pub begun_open : (b : ℕ) → IsOwnLoop m b (Some i) → Begun m o.new after b d
  begun_open b own =
      let same : l.header ≡ b = ap (λ (k : Loop). k.header) (some_of l own.0 (sym there ∙ own.1)) ∙ own.2 in
      subst (λ (h : ℕ). Begun m o.new after h d) same (record {
        stage = subst (IsStage m o.new after) (sym (header_own m is i l there)) (opened.stage_opened m is i l there made ahead o loops x put token base all);
        sorts = λ block at. (
          o.at.frame,
          subst (λ (block : Block). IsFrameAt m.typed.now.frames block.first o.at.frame) (some_of o.at.block block (sym o.at.block_at ∙ at)) o.at.frame_at,
          header_sorts m is i l there made o writes d are,
        );
        reads = header_reads m is i l there made o writes d are;
      })
