-- What is given for the leaves and the tests of a tree of a region.
use Rattle.std.proofs.Common.{◌≡◌, ◌≢◌, ℕ, zero, suc, ◌-◌, ◌<◌, List, [], ◌∷◌, ◌++◌, length, get_or, Option, Some, None, option_map, slice_get, refl, sym, ap, ◌∙◌, subst, arith}
use Rattle.pv_build.proofs.Words.{found, slice_get_within, slice_get-get_or, same_Some, some_of, Block, Loop, Op, I, Node, Graph, Exp, put, Dest, To, End, Exit, Chain, Leave, Flow, Values, AreEquations, outs, token_outs, leaf, tree_of, Site, Target, Tree, TreeNode, dest_of, GoTo, exit_at, test_at, Inside, loops_of, IsExitOf, IsTestOf, IsAimedAt, NodeFits, AreSound, target_of, inner, leaving, exit_gives, leaves_of, tests_of, scope_by, scope_of, IsTreeOf, under, numbered_dest, numbered_exit, numbered, chain_at, Named, Reads, Stand, GrowsBy, IsOfSort, depths, standing_reads, Leaving, Ran, Entry, StandsFor, slot_at, dest_at, ExitStands, RunsAlong, IsSortedExit, IsTest, Method, Made, Closed, Source, Given, IsMethod, flow_in, region_at, loops_at, loops_around, IsLoopAt, StandsAs, IsDone, HasRun, IsStage, scope_at, AreReadyFor, IsTargetIn, AreClosedFrom, IsIntFor, IsExitFor, IsLeafFor, IsSourceFor, IsGivenFor, header_at, header_list, HasExitAt, IsExitAt, HasLeft, Left, HasTested, Tested, AreSourcesFor, out_slots, outs_slots, ReadsOutOfAll, ReadsValueOut}
use Rattle.pv_flow.specs.declared.block.Exit as kinds
use Rattle.pv_equations.specs.Flow as flow
use Rattle.pv_equations.specs.Flow.{Part}
use Rattle.pv_decide.specs.declared.tree.Target.TheVariants as target
use Rattle.pv_decide.specs.declared.tree.TreeNode.TheVariants as node
use Rattle.pv_decide.specs.Walks as walks
use Rattle.pv_build.specs.declared.source.Source.TheVariants as source
use Rattle.pv_layout.proofs.Cited.{each_push}
use Rattle.pv_build.proofs.Persisting.{Persists, grown, sort_on, reads_on, stands_on, exit_on}
use Rattle.pv_build.proofs.Flowing as flowing
use Rattle.pv_build.proofs.Flowing.{exit_numbered, test_numbered}
use Rattle.pv_build.proofs.Outgoing.{all_get}
use Rattle.pv_build.proofs.Regions.{loop_there, none_at, own_at, loops_same, are_left}

-- ---- a block that is done, exit by exit and test by test

module _ (blocks : List Block) (at : Entry) (nodes : List Node) where
  runs_exit : (ts : List ℕ) (es : List Leaving) (c : Chain) (ds : List kinds.Exit) (e : ℕ) (d : kinds.Exit) → RunsAlong at nodes ts es c → GoTo (numbered blocks c) ds → slice_get ds e ≡ Some d
      → (x : Leaving) × (slice_get es e ≡ Some x) × ExitStands at nodes x (exit_at c e) × (numbered_dest blocks (exit_at c e).dest ≡ dest_of d)
  runs_exit [] [] c ds e d r g i = absurd r
  runs_exit [] (y ∷ []) (flow.Test p x c) ds e d r g i = absurd r
  runs_exit [] (y ∷ z ∷ es) c ds e d r g i = absurd r
  runs_exit (t ∷ ts) [] c ds e d r g i = absurd r
  runs_exit (t ∷ ts) (y ∷ es) (Leave x) ds e d r g i = absurd r
  runs_exit [] (y ∷ []) (Leave x) [] e d r g i = absurd g
  runs_exit [] (y ∷ []) (Leave x) (k ∷ []) zero d r g i = (y, refl, r, g ∙ ap dest_of (some_of k d i))
  runs_exit [] (y ∷ []) (Leave x) (k ∷ []) (suc e) d r g i = absurd (cc)
  runs_exit [] (y ∷ []) (Leave x) (k ∷ l ∷ ds) e d r g i = absurd g
  runs_exit (t ∷ ts) (y ∷ es) (flow.Test p x c) [] e d r g i = absurd g
  runs_exit (t ∷ ts) (y ∷ es) (flow.Test p x c) (k ∷ ds) zero d r g i = (y, refl, r.1, g.0 ∙ ap dest_of (some_of k d i))
  runs_exit (t ∷ ts) (y ∷ es) (flow.Test p x c) (k ∷ ds) (suc e) d r g i = runs_exit ts es c ds e d r.2 g.1 i

  runs_test : (ts : List ℕ) (es : List Leaving) (c : Chain) (ds : List kinds.Exit) (e : ℕ) → RunsAlong at nodes ts es c → GoTo (numbered blocks c) ds → suc e < length ds
      → (n : ℕ) × (slice_get ts e ≡ Some n) × StandsFor at nodes n (test_at c e)
  runs_test [] [] c ds e r g i = absurd r
  runs_test [] (y ∷ []) (flow.Test p x c) ds e r g i = absurd r
  runs_test [] (y ∷ z ∷ es) c ds e r g i = absurd r
  runs_test (t ∷ ts) [] c ds e r g i = absurd r
  runs_test (t ∷ ts) (y ∷ es) (Leave x) ds e r g i = absurd r
  runs_test [] (y ∷ []) (Leave x) [] e r g i = absurd g
  runs_test [] (y ∷ []) (Leave x) (k ∷ []) e r g i = absurd (omega arith)
  runs_test [] (y ∷ []) (Leave x) (k ∷ l ∷ ds) e r g i = absurd g
  runs_test (t ∷ ts) (y ∷ es) (flow.Test p x c) [] e r g i = absurd g
  runs_test (t ∷ ts) (y ∷ es) (flow.Test p x c) (k ∷ ds) zero r g i = (t, refl, r.0)
  runs_test (t ∷ ts) (y ∷ es) (flow.Test p x c) (k ∷ ds) (suc e) r g i = runs_test ts es c ds e r.2 g.1 (omega arith)

-- where an exit of a chain goes
goes_to : (c : Chain) (ds : List kinds.Exit) (e : ℕ) (d : kinds.Exit) → GoTo c ds → slice_get ds e ≡ Some d → (exit_at c e).dest ≡ dest_of d
goes_to (Leave x) [] e d g i = absurd g
goes_to (Leave x) (k ∷ []) zero d g i = g ∙ ap dest_of (some_of k d i)
goes_to (Leave x) (k ∷ []) (suc e) d g i = absurd (cc)
goes_to (Leave x) (k ∷ l ∷ ds) e d g i = absurd g
goes_to (flow.Test t x c) [] e d g i = absurd g
goes_to (flow.Test t x c) (k ∷ ds) zero d g i = g.0 ∙ ap dest_of (some_of k d i)
goes_to (flow.Test t x c) (k ∷ ds) (suc e) d g i = goes_to c ds e d g.1 i

-- ---- leaves in the equations

module _ (v : Values) (f : Flow) where
  outs_token : (F : List ℕ) (slots : ℕ → Exp) → outs_slots v f F slots 0 ≡ token_outs v f F (slots 0)
  outs_token [] slots = refl
  outs_token (h ∷ F) slots = outs_token F (out_slots v f h slots)

  outs_other : (F : List ℕ) (slots : ℕ → Exp) (s : ℕ) → outs_slots v f F slots (suc s) ≡ outs v F (slots (suc s))
  outs_other [] slots s = refl
  outs_other (h ∷ F) slots s = outs_other F (out_slots v f h slots) s

  -- the slots at an exit, taken out of loops, are its leaf
  outs_leaf : (F : List ℕ) (b : ℕ) (x : Exit) (s : ℕ) → outs_slots v f F (λ s. put (v.value b) (x.slots s)) s ≡ leaf v f F b x s
  outs_leaf F b x zero = outs_token F (λ s. put (v.value b) (x.slots s))
  outs_leaf F b x (suc s) = outs_other F (λ s. put (v.value b) (x.slots s)) s

  leaf_numbered : (blocks : List Block) (F : List ℕ) (b : ℕ) (x : Exit) (s : ℕ) → leaf v f F b (numbered_exit blocks x) s ≡ leaf v f F b x s
  leaf_numbered blocks F b x zero = refl
  leaf_numbered blocks F b x (suc s) = refl

  gives_leaf : (R F : List ℕ) (t : Target) (s b : ℕ) (x : Exit) → t ≢ target.Leave → exit_gives f v R (target_of t) s F b x ≡ leaf v f F b x s
  gives_leaf R F (target.Node n) s b x ne = refl
  gives_leaf R F target.Back s b x ne = refl
  gives_leaf R F target.Exit s b x ne = refl
  gives_leaf R F target.Return s b x ne = refl
  gives_leaf R F target.Leave s b x ne = absurd (ne refl)

leaving_head : (d : Dest) (h : ℕ) (B : List ℕ) → leaving d (h ∷ []) ≡ leaving d (h ∷ B)
leaving_head (To m) h B = refl
leaving_head (End k) h B = refl

stand_same : (nodes : List Node) → Stand nodes nodes
stand_same nodes = record { others = λ n o ks other at. at; thetas = λ n d at. at }

-- ---- a method

module _ (m : Method) (is : IsMethod m) where
  abbrev f : Flow
  f = flow_in m

  abbrev sites : List Site
  sites = m.trees.sites.items

  -- the block under a site
  site_block : (b : ℕ) (k : Site) → slice_get sites b ≡ Some k → (block : Block) × (slice_get m.flow.now.blocks b ≡ Some block) × (k.exits.items ≡ block.exits)
  site_block b k here = let u = under m.flow.now m.forest.now sites is.trees.sites b k here in (u.0, u.1, u.2.exits)

  pub has_exit : (at : Option ℕ) (b e : ℕ) → IsExitOf sites (scope_at m at) b e → HasExitAt m.flow.now.blocks b e
  has_exit at b e (inside, k, here, low) = let u = site_block b k here in (u.0, u.1, subst (λ (xs : List kinds.Exit). e < length xs) u.2 low)

  -- ---- whether the loop is left

  header_same : (at : Option ℕ) → IsLoopAt m at → (d : Dest) → leaving d (header_list (header_at m.forest.now.loops.items at)) ≡ leaving d (loops_at m at)
  header_same None low d = ap (leaving d) (sym (none_at m is))
  header_same (Some i) low d =
      let l = loop_there m.forest.now.loops.items i low in
      ap (λ (o : Option Loop). leaving d (header_list (option_map (λ l. l.header) o))) l.1 ∙ leaving_head d l.0.header (loops_at m l.0.parent) ∙ ap (leaving d) (sym (own_at m is i l.0 l.1))

  pub leave_for : (at : Option ℕ) → IsLoopAt m at → (g : Graph) (b e : ℕ) (x : kinds.Exit) (n : ℕ) → IsExitAt m.flow.now.blocks b e x → IsOfSort g n I
      → ((names : List Named) → Reads g.nodes names n (leaving (dest_of x) (header_list (header_at m.forest.now.loops.items at)))) → (names : List Named) → IsLeafFor m g names at target.Leave b e (source.Value n)
  leave_for at low g b e x n (block, there, exit) sort reads names =
      let d : Dest = (exit_at (f.chain b) e).dest in
      let goes : d ≡ dest_of x = goes_to (f.chain b) block.exits e x (flowing.block_goes m.typed.now.program m.typed.now.frames m.flow.now.blocks m.forest.now is.routine b block there) exit in
      let same : leaving (dest_of x) (header_list (header_at m.forest.now.loops.items at)) ≡ leaving d (loops_at m at) = header_same at low (dest_of x) ∙ ap (λ (d : Dest). leaving d (loops_at m at)) (sym goes) in
      (n, refl, sort, (λ v eqs. subst (Reads g.nodes names n) same (reads names)))

  -- ---- blocks that are done

  module _ (g : Graph) (made : Made) (at : Option ℕ) (stage : IsStage m g made (loops_at m at)) where
    -- what a block left at an exit
    pub record LeftFor (b e : ℕ) (x : Leaving) : Type 0 where
      pub ran : Ran
      pub done : IsDone m g made.names b ran
      pub stands : ExitStands done.at g.nodes x (exit_at done.chain e)
      pub sorted : IsSortedExit g m.typed.now.program m.typed.now.frames x
      pub site : Site
      pub here : slice_get sites b ≡ Some site
      pub of : kinds.Exit
      pub of_is : slice_get site.exits.items e ≡ Some of
      pub leads : numbered_dest m.flow.now.blocks (dest_at x) ≡ dest_of of

    pub record TestedFor (b t n : ℕ) : Type 0 where
      pub ran : Ran
      pub done : IsDone m g made.names b ran
      pub stands : StandsFor done.at g.nodes n (test_at done.chain t)
      pub sorted : IsOfSort g n I

    goes : (b : ℕ) (ran : Ran) (d : IsDone m g made.names b ran) → GoTo (numbered m.flow.now.blocks d.chain) d.block.exits
    goes b ran d = flowing.chain_goes m.typed.now.program m.typed.now.frames m.flow.now.blocks m.forest.now is.routine b d.block d.chain d.there d.is

    chain_is : (b : ℕ) (ran : Ran) (d : IsDone m g made.names b ran) → f.chain b ≡ numbered m.flow.now.blocks d.chain
    chain_is b ran d = chain_at m.typed.now.program m.typed.now.frames m.flow.now.blocks b d.block d.chain d.there d.is

    same_exits : (b : ℕ) (ran : Ran) (d : IsDone m g made.names b ran) (k : Site) → slice_get sites b ≡ Some k → k.exits.items ≡ d.block.exits
    same_exits b ran d k here = let u = site_block b k here in u.2 ∙ ap (λ (b : Block). b.exits) (some_of u.0 d.block (sym u.1 ∙ d.there))

    exit_done : (b e : ℕ) (ran : Ran) → slice_get made.blocks.items b ≡ Some (Some ran) → IsExitOf sites (scope_at m at) b e → (x : Leaving) × (slice_get ran.exits.items e ≡ Some x) × LeftFor b e x
    exit_done b e ran there (inside, k, here, low) =
        let done = stage.blocks b ran there in
        let d = found k.exits.items e low in
        let exit : slice_get done.block.exits e ≡ Some d.0 = subst (λ (xs : List kinds.Exit). slice_get xs e ≡ Some d.0) (same_exits b ran done k here) d.1 in
        let x = runs_exit m.flow.now.blocks done.at g.nodes ran.tests.items ran.exits.items done.chain done.block.exits e d.0 done.stands (goes b ran done) exit in (
          x.0,
          x.1,
          record {
            ran = ran;
            done = done;
            stands = x.2;
            sorted = all_get (IsSortedExit g m.typed.now.program m.typed.now.frames) ran.exits.items e x.0 done.sorted.exits x.1;
            site = k;
            here = here;
            of = d.0;
            of_is = d.1;
            leads = ap (numbered_dest m.flow.now.blocks) x.2.dest ∙ x.3;
          },
        )

    test_done : (b t : ℕ) (ran : Ran) → slice_get made.blocks.items b ≡ Some (Some ran) → IsTestOf sites (scope_at m at) b t → (n : ℕ) × (slice_get ran.tests.items t ≡ Some n) × TestedFor b t n
    test_done b t ran there (inside, k, here, low) =
        let done = stage.blocks b ran there in
        let more : suc t < length done.block.exits = subst (λ (xs : List kinds.Exit). suc t < length xs) (same_exits b ran done k here) low in
        let x = runs_test m.flow.now.blocks done.at g.nodes ran.tests.items ran.exits.items done.chain done.block.exits t done.stands (goes b ran done) more in
        (x.0, x.1, record { ran = ran; done = done; stands = x.2; sorted = all_get (IsTest g) ran.tests.items t x.0 done.sorted.tests x.1 })

    pub has_left : (b e : ℕ) → HasRun made b → IsExitOf sites (scope_at m at) b e → HasLeft made b e
    has_left b e (ran, there) exit = let x = exit_done b e ran there exit in (ran, there, slice_get_within ran.exits.items e x.0 x.1)

    pub left_for : (b e : ℕ) (x : Leaving) → Left made b e x → IsExitOf sites (scope_at m at) b e → LeftFor b e x
    left_for b e x (ran, there, is_x) exit = let y = exit_done b e ran there exit in subst (LeftFor b e) (same_Some y.0 x (sym y.1 ∙ is_x)) y.2

    pub has_tested : (b t : ℕ) → HasRun made b → IsTestOf sites (scope_at m at) b t → HasTested made b t
    has_tested b t (ran, there) test = let x = test_done b t ran there test in (ran, there, slice_get_within ran.tests.items t x.0 x.1)

    pub tested_for : (b t n : ℕ) → Tested made b t n → IsTestOf sites (scope_at m at) b t → TestedFor b t n
    tested_for b t n (ran, there, is_n) test = let y = test_done b t ran there test in subst (TestedFor b t) (same_Some y.0 n (sym y.1 ∙ is_n)) y.2

    -- a part of the block's slots, with all names so far
    part_reads : (b : ℕ) (ran : Ran) (d : IsDone m g made.names b ran) (n : ℕ) (q : Part) → StandsFor d.at g.nodes n q → (v : Values) → AreEquations f v → Reads g.nodes made.names n (put (v.value b) q)
    part_reads b ran d n q stands v eqs =
        standing_reads.reads g.nodes g.nodes d.earlier made.names n (put (v.value b) q) (stand_same g.nodes) d.within (stands (depths f) d.earlier (v.value b) (d.entered v eqs))

    -- ---- out of the loops inside the region

    module _ (low : IsLoopAt m at) (b : ℕ) (inside : Inside sites (scope_at m at) b) (left : List Closed) (closed : AreClosedFrom m g made at b left) (new : Graph) where
      abbrev F : List ℕ
      F = inner (loops_at m at) (loops_around m b)

      exit_reads : (e : ℕ) (x y : Leaving) (l : LeftFor b e x) → ReadsOutOfAll g left x new y → (t : Target) → t ≢ target.Leave → (v : Values) → AreEquations f v → (s n : ℕ) → slot_at y s ≡ Some n
          → Reads new.nodes made.names n (leaves_of f v (loops_at m at) (target_of t) s b e)
      exit_reads e x y l reads t ne v eqs s n is_n =
          let z : Exit = exit_at l.done.chain e in
          let out : Reads new.nodes made.names n (outs_slots v f F (λ s. put (v.value b) (z.slots s)) s) =
          reads f v made.names F (λ s. put (v.value b) (z.slots s)) (are_left m is g made at stage low b inside left closed v eqs) (λ s n h. part_reads b l.ran l.done n (z.slots s) (l.stands.slots_ s n h) v eqs) s n is_n in
          let exit_is : exit_at (f.chain b) e ≡ numbered_exit m.flow.now.blocks z = ap (λ (c : Chain). exit_at c e) (chain_is b l.ran l.done) ∙ exit_numbered m.flow.now.blocks l.done.chain e in
          let same : outs_slots v f F (λ s. put (v.value b) (z.slots s)) s ≡ leaves_of f v (loops_at m at) (target_of t) s b e =
          outs_leaf v f F b z s ∙ sym (leaf_numbered v f m.flow.now.blocks F b z s) ∙ ap (λ (x : Exit). leaf v f F b x s) (sym exit_is) ∙ sym (gives_leaf v f (loops_at m at) F t s b (exit_at (f.chain b) e) ne) in
          subst (Reads new.nodes made.names n) same out

      exit_for : (e : ℕ) (x y : Leaving) (l : LeftFor b e x) → ReadsOutOfAll g left x new y → IsSortedExit new m.typed.now.program m.typed.now.frames y → dest_at y ≡ dest_at x → (t : Target) → IsAimedAt sites (scope_at m at) t b e → t ≢ target.Leave
          → IsExitFor m new made.names at t b e (source.Exit y)
      exit_for e x y l reads sorted dest t aimed ne = record {
        exit = y;
        is = refl;
        of = l.of;
        aims = aimed l.site l.of l.here l.of_is;
        leads = ap (numbered_dest m.flow.now.blocks) dest ∙ l.leads;
        sorted = sorted;
        reads = λ v eqs s n is_n. exit_reads e x y l reads t ne v eqs s n is_n;
      }

      for_leaf : (t : Target) (e : ℕ) (k : Source) → t ≢ target.Leave → IsExitFor m new made.names at t b e k → IsLeafFor m new made.names at t b e k
      for_leaf (target.Node n) e k ne x = x
      for_leaf target.Back e k ne x = x
      for_leaf target.Exit e k ne x = x
      for_leaf target.Return e k ne x = x
      for_leaf target.Leave e k ne x = absurd (ne refl)

      -- WHAT HOLDS AT AN EXIT IS THE LEAF OF THE EQUATIONS
      pub leaf_for : (e : ℕ) (x y : Leaving) (l : LeftFor b e x) → ReadsOutOfAll g left x new y → IsSortedExit new m.typed.now.program m.typed.now.frames y → dest_at y ≡ dest_at x → (t : Target) → IsAimedAt sites (scope_at m at) t b e → t ≢ target.Leave
          → IsLeafFor m new made.names at t b e (source.Exit y)
      leaf_for e x y l reads sorted dest t aimed ne = for_leaf t e (source.Exit y) ne (exit_for e x y l reads sorted dest t aimed ne)

      -- .. and a test that of the equations
      pub int_for : (t n r : ℕ) (k : TestedFor b t n) → ReadsValueOut g left n new r → IsOfSort new r I → IsIntFor m new made.names (source.Value r) (λ v. tests_of f v (loops_at m at) b t)
      int_for t n r k reads sort = (r, refl, sort, stands)
        where
          stands : StandsAs m new made.names r (λ v. tests_of f v (loops_at m at) b t)
          stands v eqs =
              let q : Part = test_at k.done.chain t in
              let out : Reads new.nodes made.names r (outs v F (put (v.value b) q)) =
              reads f v made.names F (put (v.value b) q) (are_left m is g made at stage low b inside left closed v eqs) (part_reads b k.ran k.done n q k.stands v eqs) in
              let test_is : test_at (f.chain b) t ≡ q = ap (λ (c : Chain). test_at c t) (chain_is b k.ran k.done) ∙ test_numbered m.flow.now.blocks k.done.chain t in
              subst (λ (q : Part). Reads new.nodes made.names r (outs v F (put (v.value b) q))) (sym test_is) out

  -- ---- blocks before the target

  -- the block of a leaf or a test is done
  module _ (made : Made) (at : Option ℕ) (t : Target) (ready : AreReadyFor m made at t) where
    pub leaf_run : (n b e : ℕ) → NodeFits sites (scope_at m at) t n (node.Leaf b e) → HasRun made b
    leaf_run n b e (exit, early, aimed) = ready b (slice_get_within sites b exit.1 exit.2) exit.0 early

    pub test_run : (n b e y z : ℕ) → NodeFits sites (scope_at m at) t n (node.Test b e y z) → HasRun made b
    test_run n b e y z (test, early, low, high) = ready b (slice_get_within sites b test.1 test.2) test.0 early

  -- ---- what is given stays

  module _ (P : Op → Type 0) (old new : Graph) (grows : GrowsBy P old new) (names : List Named) (at : Option ℕ) (t : Target) where
    p : Persists old new
    p = grown P old new grows

    int_grown : (k : Source) (e : Values → Exp) → IsIntFor m old names k e → IsIntFor m new names k e
    int_grown k e (n, is_n, sort, stands) = (n, is_n, sort_on old new p n I sort, stands_on old new p names names (λ h s n i. i) m n e stands)

    exit_grown : (t : Target) (b e : ℕ) (k : Source) → IsExitFor m old names at t b e k → IsExitFor m new names at t b e k
    exit_grown t b e k x = record {
      exit = x.exit;
      is = x.is;
      of = x.of;
      aims = x.aims;
      leads = x.leads;
      sorted = exit_on old new p m.typed.now.program m.typed.now.frames x.exit x.sorted;
      reads = λ v eqs s n h. reads_on old new p names names (λ h s n i. i) n _ (x.reads v eqs s n h);
    }

    leaf_grown : (t : Target) (b e : ℕ) (k : Source) → IsLeafFor m old names at t b e k → IsLeafFor m new names at t b e k
    leaf_grown (target.Node n) b e k x = exit_grown (target.Node n) b e k x
    leaf_grown target.Back b e k x = exit_grown target.Back b e k x
    leaf_grown target.Exit b e k x = exit_grown target.Exit b e k x
    leaf_grown target.Return b e k x = exit_grown target.Return b e k x
    leaf_grown target.Leave b e k x = int_grown k _ x

    source_grown : (y : TreeNode) (k : Source) → IsSourceFor m old names at t y k → IsSourceFor m new names at t y k
    source_grown (node.Leaf b e) k x = leaf_grown t b e k x
    source_grown (node.Test b e y z) k x = int_grown k _ x
    source_grown node.Nothing k x = x
    source_grown node.Dead k x = x

    -- one more
    pub sources_push : (nodes : List TreeNode) (ks : List Source) (i : ℕ) (d : TreeNode) (k : Source) → length ks ≡ i → i < length nodes → IsSourceFor m new names at t (get_or nodes i d) k
        → ((n : ℕ) (y : TreeNode) (k : Source) → slice_get nodes n ≡ Some y → slice_get ks n ≡ Some k → IsSourceFor m old names at t y k)
        → (n : ℕ) (y : TreeNode) (l : Source) → slice_get nodes n ≡ Some y → slice_get (ks ++ k ∷ []) n ≡ Some l → IsSourceFor m new names at t y l
    sources_push nodes ks i d k count low one each n y l at_y at_l =
        each_push (λ (n : ℕ) (l : Source). (y : TreeNode) → slice_get nodes n ≡ Some y → IsSourceFor m old names at t y l) (λ (n : ℕ) (l : Source). (y : TreeNode) → slice_get nodes n ≡ Some y → IsSourceFor m new names at t y l) ks k i count
        (λ n l all y at_y. source_grown y l (all y at_y))
        (λ n l at_l y at_y. each n y l at_y at_l)
        (λ y at_y. subst (λ (y : TreeNode). IsSourceFor m new names at t y k) (same_Some (get_or nodes i d) y (sym (slice_get-get_or nodes i d low) ∙ at_y)) one)
        n l at_l y at_y

  -- ---- the tree

  module _ (at : Option ℕ) (low : IsLoopAt m at) (t : Target) where
    pub sound_in : (nodes : List TreeNode) → AreSound sites (scope_of m.trees (region_at at)) t nodes → AreSound sites (scope_at m at) t nodes
    sound_in nodes sound = subst (λ (headers : List ℕ). AreSound sites (scope_by headers (region_at at)) t nodes) is.trees.headers sound

    -- the tree gives that of the equations
    pub tree_gives : (tree : Tree) → IsTreeOf m.trees (region_at at) t tree → IsTargetIn m at t → (v : Values) → AreEquations f v → (s : ℕ)
        → walks.Gives f v (scope_at m at) t s tree.nodes.items (length tree.nodes.items - 1) (tree_of f v (loops_at m at) (target_of t) s)
    tree_gives tree gives asked v eqs s =
        subst (λ (R : List ℕ). walks.Gives f v (scope_at m at) t s tree.nodes.items (length tree.nodes.items - 1) (tree_of f v R (target_of t) s)) (loops_same m is at low)
        (gives m.flow.now m.forest.now is.trees f (flowing.ranked m.typed.now.program m.typed.now.frames m.flow.now.blocks m.forest.now is.routine).rank
        (flowing.is_over m.typed.now.program m.typed.now.frames m.flow.now.blocks m.forest.now is.routine m.flow.now refl) asked v s
        (λ F b e. eqs.trees (loops_of f (scope_at m at)) (target_of t) s F b e))

    pub given_for : (g : Graph) (names : List Named) (x : Given) → 0 < length x.nodes.items → AreSound sites (scope_at m at) t x.nodes.items → AreSourcesFor m g names at t x.nodes.items x.sources.items
        → ((v : Values) → AreEquations f v → (s : ℕ) → walks.Gives f v (scope_at m at) t s x.nodes.items (length x.nodes.items - 1) (tree_of f v (loops_at m at) (target_of t) s)) → IsGivenFor m g names at t x
    given_for g names x root sound sources gives = record {
      tree = record { root = root; ordered = λ n b e y z here. (let fits = sound n (node.Test b e y z) here in (fits.2, fits.3)) };
      size = sources.size;
      each = sources.each;
      folds = gives;
    }
