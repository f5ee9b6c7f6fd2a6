-- The thetas of a loop are tied, one after another.
use Rattle.std.proofs.Common.{◌≡◌, ◌≢◌, ℕ, ◌+◌, ◌<◌, ◌≤◌, List, [], ◌∷◌, length, Some, slice_get, slice_set, ◌⊎◌, inl, inr, ⊎_elim, refl, sym, ap, ◌∙◌, subst, arith}
use Rattle.pv_build.proofs.Words.{cases_eq, slice_get_within, same_Some, Frame, OpSort, T, H, R, Node, found, set_same, set_other, set_length, tie_keeps_rule, node_of, In, Graph, IsWellMade, StaysIn, To, Values, AreEquations, never_exp, tree_of, Back, dest_of, dead_of, Reads, AreNames, Stand, IsMaybeOf, ReadsMaybe, IsFlat, IsOfSort, depths, IsTiedName, same_node, same_op, names_stand, extends_stand, tied_stand, stand_then, reads_stand, numbered_dest, op_sort, slot_of, slot_at, dest_at, FitsFrame, IsSortedExit, Leaving, State, Slot, Given, Source, Method, Theta, number, HasNodeOf, Gives, FoldsTo, FoldsToOne, HasSlot, flow_in, loops_at, IsInside, HasBase, HasSlotAt, IsThetaOf, KeepsFirst, IsExitFor, IsGivenFor, dead_at, MayTie, TiesOne, Closing, depth_of, MayTieAll, IsTiedTheta, AreTied}
use Rattle.pv_graph.specs.declared.node.Op.TheVariants as op
use Rattle.pv_decide.specs.declared.aim.Scope.TheVariants as scope
use Rattle.pv_decide.specs.declared.tree.Target.TheVariants as target
use Rattle.pv_build.specs.declared.slot.Slot.TheVariants as slot
use Rattle.pv_build.specs.declared.slot.Part.TheVariants as part
use Rattle.pv_build.proofs.Persisting.{Persists, sort_on, reads_on}
use Rattle.pv_build.proofs.Staged.{as_long, flat_inside, theta_inside, flat_beyond, base_grown}
use Rattle.pv_build.proofs.Cells.{no_root}
use Rattle.pv_build.proofs.Leading.{GoesInto, goes_into, cell_given}
use Rattle.pv_build.proofs.GivenFor.{given_on, gives_slot, folds_slot}
use Rattle.pv_layout.proofs.Cited.{again_tree}
use Rattle.pv_build.proofs.Looped.{loops_same}
use Rattle.pv_build.proofs.Around.{solution, header_own, loops_own, scope_is}
use Rattle.pv_build.proofs.Cycles.{apart, stays}

-- ---- what exits to the header have for the slot of a theta

slot_sort : (f : Frame) (s : Slot) (t : OpSort) → HasSlot f s t → t ≢ R
slot_sort f slot.Token t e r = absurd (let z : T ≡ R = sym e ∙ r in cc)
slot_sort f slot.Heap t e r = absurd (let z : H ≡ R = sym e ∙ r in cc)
slot_sort f (slot.Local k) t (u, at, known, e) r = no_root u (sym e ∙ r)
slot_sort f (slot.Place j) t (i, u, at, known, place, e) r = no_root u (sym e ∙ r)
slot_sort f slot.Fault t h r = absurd h
slot_sort f slot.Result t h r = absurd h

slot_given : (g : Graph) (c : State) (f : Frame) (fits : FitsFrame g c f) (s : Slot) (t : OpSort) → HasSlot f s t → HasNodeOf g (slot_of c (number s)) t
slot_given g c f fits slot.Token t e = (c.token, refl, subst (IsOfSort g c.token) (sym e) fits.token)
slot_given g c f fits slot.Heap t e = (c.heap, refl, subst (IsOfSort g c.heap) (sym e) fits.heap)
slot_given g c f fits (slot.Local k) t (u, at, known, e) =
    subst (HasNodeOf g (slot_of c (number (slot.Local k)))) (sym e) (cell_given g c f fits part.Locals f.locals k u (inl (refl, refl)) at known)
slot_given g c f fits (slot.Place j) t (i, u, at, known, place, e) =
    subst (HasNodeOf g (slot_of c (number (slot.Place j)))) (sym e)
    (subst (λ (j : ℕ). HasNodeOf g (slot_of c (number (slot.Place j))) (op_sort u)) (sym place) (cell_given g c f fits part.Stack f.stack i u (inr (refl, refl)) at known))
slot_given g c f fits slot.Fault t h = absurd h
slot_given g c f fits slot.Result t h = absurd h

-- an exit to the block
header_given : (m : Method) (g : Graph) (h : ℕ) (s : Slot) (t : OpSort) → HasSlotAt m h s t → (x : Leaving) → numbered_dest m.flow.now.blocks (dest_at x) ≡ To h → IsSortedExit g m.typed.now.program m.typed.now.frames x
    → HasNodeOf g (slot_at x (number s)) t
header_given m g h s t (block, f, at, frame, has) x leads sorted = from (goes_into g m.typed.now.program m.typed.now.frames m.flow.now.blocks h block f x at frame leads sorted)
  where
    from : GoesInto g x f → HasNodeOf g (slot_at x (number s)) t
    from into = subst (λ (z : Leaving). HasNodeOf g (slot_at z (number s)) t) (sym into.is) (slot_given g into.state f into.fits s t has)

dead_reads : (g : Graph) (c : Closing) (never : ℕ) → Reads g.nodes c.names never never_exp → (s : Slot) → ReadsMaybe g.nodes c.names (dead_at s never) (dead_of Back (number s))
dead_reads g c never reads slot.Token = (never_exp, reads, refl)
dead_reads g c never reads slot.Fault = refl
dead_reads g c never reads slot.Result = refl
dead_reads g c never reads slot.Heap = refl
dead_reads g c never reads (slot.Local k) = refl
dead_reads g c never reads (slot.Place j) = refl

dead_sort : (g : Graph) (never : ℕ) → IsOfSort g never T → (f : Frame) (s : Slot) (t : OpSort) → HasSlot f s t → IsMaybeOf g t (dead_at s never)
dead_sort g never is f slot.Token t e = subst (IsOfSort g never) (sym e) is
dead_sort g never is f slot.Fault t h = tt
dead_sort g never is f slot.Result t h = tt
dead_sort g never is f slot.Heap t h = tt
dead_sort g never is f (slot.Local k) t h = tt
dead_sort g never is f (slot.Place j) t h = tt

below_or_at : (j k : ℕ) → j < k + 1 → (j < k) ⊎ (j ≡ k)
below_or_at j k lt = grind arith

module _ (c : Closing) (old : Graph) (again : Given) (never : ℕ) (thetas : List Theta) (may : MayTieAll c old again never thetas) where
  abbrev m : Method
  m = c.method

  abbrev d : ℕ
  d = depth_of c

  pub none_tied : AreTied c old thetas 0 old
  none_tied = record {
    well = may.well;
    open_ = refl;
    stand = extends_stand old old (record { nodes = λ n x at. at; sorts = λ n s at. at });
    sorts = λ n t at. at;
    long = omega arith;
    same = λ n x at other. at;
    each = λ n x at. inl at;
    tied = λ j y less at v eqs. absurd (omega (arith, less));
  }

  module _ (k : ℕ) (g : Graph) (so_far : AreTied c old thetas k g) where
    pub persists : Persists old g
    persists = record { stand = so_far.stand; sorts = so_far.sorts }

    -- a base stays one
    pub base_tied : (b e : ℕ) → b ≤ c.base → e ≤ d → HasBase old b e → HasBase g b e
    base_tied b e low inner hb = record {
      low = let l = so_far.long in let w = hb.low in omega (arith, l, w);
      shut = λ n j x at less i.
          let y = found old.nodes n (let w = hb.low in omega (arith, w, less)) in
          let there = so_far.same n y.0 y.1 (λ i z before at_z is. let high = (may.each i z at_z).after in absurd (omega (arith, high, is, less, low))) in
          let one : x ≡ y.0 = same_node g.nodes n x y.0 at there in
          hb.shut n j y.0 y.1 less (subst (λ (z : Node). In z.kids j) one i);
      inside = λ n x at ge. ⊎_elim
          (λ o. hb.inside n x o ge)
          (λ q. ⊎_elim
          (λ flat. flat_inside e x.op flat)
          (λ (t : IsTiedTheta c x). subst (λ (y : Node). IsInside e y.op) (sym t.2) (theta_inside d e (op.Theta d) inner refl))
          q)
          (so_far.each n x at);
    }

    module _ (x : Theta) (at : slice_get thetas k ≡ Some x) where
      theta_is : IsThetaOf m old c.names c.header c.base x
      theta_is = may.each k x at

      abbrev t : OpSort
      t = theta_is.sort.0

      untied : slice_get g.nodes x.node ≡ Some (node_of (op.Theta d) [])
      untied = so_far.same x.node _ theta_is.untied (λ j y less at_j e. let same = may.once j k y x at_j at e in absurd (omega (arith, same, less)))

      given_now : IsGivenFor m g c.names (Some c.place) target.Back again
      given_now = given_on m old g persists c.names c.names (λ h s n i. i) (Some c.place) target.Back again may.gives

      exits : (b e : ℕ) (k : Source) (y : IsExitFor m g c.names (Some c.place) target.Back b e k) → HasNodeOf g (slot_at y.exit (number x.slot)) t
      exits b e k y =
          let scope_e : scope.Loop may.loop_.header ≡ scope.Loop y.aims.0 = sym (scope_is m may.is c.place may.loop_ may.there) ∙ y.aims.1 in
          let same : y.aims.0 ≡ c.header = (let z : may.loop_.header ≡ y.aims.0 = cc in sym z ∙ may.header) in
          let leads : numbered_dest m.flow.now.blocks (dest_at y.exit) ≡ To c.header = y.leads ∙ ap dest_of y.aims.2 ∙ ap To same in
          header_given m g c.header x.slot t theta_is.sort.3 y.exit leads y.sorted

      gives_it : Gives g again (number x.slot) (dead_at x.slot never) t
      gives_it =
          let has = theta_is.sort.3 in
          gives_slot m g c.names (Some c.place) target.Back again given_now tt (number x.slot) (dead_at x.slot never) t (slot_sort has.1 x.slot t has.4)
          (dead_sort g never (sort_on old g persists never T may.never_sort) has.1 x.slot t has.4) exits

      folds_it : (v : Values) → AreEquations (flow_in m) v → FoldsTo g.nodes c.names again (number x.slot) (dead_at x.slot never) (Some (v.again c.header (number x.slot)))
      folds_it v eqs =
          let are : AreNames (depths (flow_in m)) g.nodes c.names = names_stand (depths (flow_in m)) old.nodes g.nodes c.names so_far.stand may.names in
          let loops = loops_same m may.is c.place may.loop_ may.there in
          let never_now = reads_on old g persists c.names c.names (λ h s n i. i) never never_exp may.never_reads in
          let folds = folds_slot m g c.names (Some c.place) target.Back again given_now loops v eqs are tt (number x.slot) (dead_at x.slot never) t exits (dead_reads g c never never_now x.slot) in
          let tree : tree_of (flow_in m) v (may.loop_.header ∷ loops_at m may.loop_.parent) Back (number x.slot) ≡ Some (v.again may.loop_.header (number x.slot)) =
          again_tree m.typed.now.program m.typed.now.frames m.flow.now.blocks m.forest.now may.is.routine v eqs may.loop_.header (number x.slot) (loops_at m may.loop_.parent) (header_own m may.is c.place may.loop_ may.there) in
          let whole : tree_of (flow_in m) v (loops_at m (Some c.place)) Back (number x.slot) ≡ Some (v.again c.header (number x.slot)) =
          ap (λ (A : List ℕ). tree_of (flow_in m) v A Back (number x.slot)) (loops_own m may.is c.place may.loop_ may.there) ∙ tree ∙ ap (λ (h : ℕ). Some (v.again h (number x.slot))) may.header in
          subst (FoldsTo g.nodes c.names again (number x.slot) (dead_at x.slot never)) whole folds

      -- ---- what a tie asks for

      pub may_tie : MayTie g again never x
      may_tie = record {
        open_ = (d, untied);
        sort_ = t;
        node = sort_on old g persists x.node t theta_is.sort.1;
        first = sort_on old g persists x.first t theta_is.sort.2;
        gives = gives_it;
      }

      pub folds_one : FoldsToOne g.nodes again (number x.slot) (dead_at x.slot never)
      folds_one = let v = solution m may.is in (c.names, v.0.again c.header (number x.slot), folds_it v.0 v.1)

      -- ---- what it gives

      module _ (new : Graph) (one : TiesOne g again never x new) where
        abbrev mid : Graph
        mid = one.mid

        abbrev second : ℕ
        second = one.second

        there_mid : slice_get mid.nodes x.node ≡ Some (node_of (op.Theta d) [])
        there_mid = one.grows.extends.nodes x.node _ untied

        depth_same : d ≡ one.tied.theta_.0
        depth_same = let z = same_op mid.nodes x.node (op.Theta d) (op.Theta one.tied.theta_.0) [] [] there_mid one.tied.theta_.1 in cc

        abbrev tied_node : ℕ → Node
        tied_node e = node_of (op.Theta e) (x.first ∷ second ∷ [])

        nodes_new : new.nodes ≡ slice_set mid.nodes x.node (tied_node d)
        nodes_new = ap (λ (h : Graph). h.nodes) one.tied.tied ∙ ap (λ (e : ℕ). slice_set mid.nodes x.node (tied_node e)) (sym depth_same)

        at_theta : slice_get new.nodes x.node ≡ Some (tied_node d)
        at_theta = ap (λ (xs : List Node). slice_get xs x.node) nodes_new ∙ set_same mid.nodes x.node (tied_node d) (slice_get_within mid.nodes x.node _ there_mid)

        at_other : (n : ℕ) → n ≢ x.node → slice_get new.nodes n ≡ slice_get mid.nodes n
        at_other n ne = ap (λ (xs : List Node). slice_get xs n) nodes_new ∙ set_other mid.nodes x.node (tied_node d) n ne

        long_new : length new.nodes ≡ length mid.nodes
        long_new = ap length nodes_new ∙ set_length mid.nodes x.node (tied_node d)

        sorts_new : (n : ℕ) (s : OpSort) → slice_get g.sorts n ≡ Some s → slice_get new.sorts n ≡ Some s
        sorts_new n s e = ap (λ (h : Graph). slice_get h.sorts n) one.tied.tied ∙ one.grows.extends.sorts n s e

        stand_new : Stand g.nodes new.nodes
        stand_new = stand_then g.nodes mid.nodes new.nodes (extends_stand g mid one.grows.extends) (tied_stand mid new x.node x.first second one.tied)

        base_mid : HasBase mid c.base d
        base_mid = base_grown d d c.base g mid (omega arith) (flat_beyond d g mid one.grows) (base_tied c.base d (omega arith) (omega arith) may.has_base)

        well_new : IsWellMade new
        well_new = tie_keeps_rule mid new x.node x.first second (one.grows.made so_far.well) one.tied
            (λ ms w. apart mid c.base d base_mid x.first x.node theta_is.before theta_is.after ms w)
            (λ ms w. subst (λ (e : ℕ). StaysIn e ms) depth_same (stays mid c.base d base_mid second x.node ms theta_is.after w))

        each_new : (n : ℕ) (y : Node) → slice_get new.nodes n ≡ Some y → (slice_get old.nodes n ≡ Some y) ⊎ (IsFlat y.op ⊎ IsTiedTheta c y)
        each_new n y at_n = elim (cases_eq n x.node) [
          | inl same ↦ inr (inr (x.first, second, same_node new.nodes n y (tied_node d) at_n (ap (slice_get new.nodes) same ∙ at_theta)))
          | inr ne ↦ elim (one.grows.added n y (sym (at_other n ne) ∙ at_n)) [
            | inl before ↦ so_far.each n y before
            | inr flat ↦ inr (inl flat)
          ]
        ]

        -- a theta that was tied before
        earlier : (j : ℕ) (y : Theta) → j < k → slice_get thetas j ≡ Some y → (v : Values) → AreEquations (flow_in m) v → IsTiedName (flow_in m) v new.nodes c.names c.header (number y.slot) y.node
        earlier j y less at_j v eqs =
            let z = so_far.tied j y less at_j v eqs in
            let other : y.node ≢ x.node = (λ e. let same = may.once j k y x at_j at e in absurd (omega (arith, same, less))) in
            record {
              first = z.first;
              second = z.second;
              theta_ = at_other y.node other ∙ one.grows.extends.nodes y.node _ z.theta_;
              enters = reads_stand g.nodes new.nodes c.names c.names stand_new (λ h s n i. i) z.first _ z.enters;
              begins = reads_stand g.nodes new.nodes c.names c.names stand_new (λ h s n i. i) z.second _ z.begins;
            }

        here : (v : Values) → AreEquations (flow_in m) v → IsTiedName (flow_in m) v new.nodes c.names c.header (number x.slot) x.node
        here v eqs = record {
          first = x.first;
          second = second;
          theta_ = at_theta;
          enters = reads_stand old.nodes new.nodes c.names c.names (stand_then old.nodes g.nodes new.nodes so_far.stand stand_new) (λ h s n i. i) x.first _ (theta_is.first v eqs);
          begins = reads_stand mid.nodes new.nodes c.names c.names (tied_stand mid new x.node x.first second one.tied) (λ h s n i. i) second _ (one.reads c.names (v.again c.header (number x.slot)) (folds_it v eqs));
        }

        -- ONE MORE IS TIED
        pub one_more : AreTied c old thetas (k + 1) new
        one_more = record {
          well = well_new;
          open_ = ap (λ (h : Graph). h.is_open) one.tied.tied ∙ one.grows.open_ ∙ so_far.open_;
          stand = stand_then old.nodes g.nodes new.nodes so_far.stand stand_new;
          sorts = λ n s e. sorts_new n s (so_far.sorts n s e);
          long = let a = so_far.long in let b = as_long g mid one.grows.extends in let l = long_new in omega (arith, a, b, l);
          same = λ n y at_n others.
              let before = so_far.same n y at_n (λ j z less at_j. others j z (omega (arith, less)) at_j) in
              at_other n (λ e. others k x (omega arith) at (sym e)) ∙ one.grows.extends.nodes n y before;
          each = each_new;
          tied = λ j y less at_j v eqs. ⊎_elim
              (λ low. earlier j y low at_j v eqs)
              (λ e.
              let same : x ≡ y = same_Some x y (sym at ∙ ap (slice_get thetas) (sym e) ∙ at_j) in
              subst (λ (z : Theta). IsTiedName (flow_in m) v new.nodes c.names c.header (number z.slot) z.node) same (here v eqs))
              (below_or_at j k less);
        }

    -- the nodes before the base are as they were
    pub tied_first : KeepsFirst c.base old g
    tied_first = record {
      graph = so_far.well.graph;
      nodes = λ n x less at. so_far.same n x at (λ j y before at_j e. let high = (may.each j y at_j).after in absurd (omega (arith, high, less, e)));
      sorts = so_far.sorts;
    }
