-- From a block that is done outwards, loop by loop, to the region: all of these loops are closed.
use Rattle.std.proofs.Common.{◌≡◌, ◌≢◌, true, false, nat_eq, true≢false, eqb-true, eq-eqb, ℕ, suc, ◌+◌, ◌<◌, ◌≤◌, List, [], ◌∷◌, ◌++◌, length, length-append, append_assoc, get_or, take, drop, map, Option, Some, None, slice_get, ⊎_elim, sym, ap, ◌∙◌, subst, arith}
use Rattle.std.specs.List.{All, AllZip, Contains}
use Rattle.std.specs.Option.{option_eq}
use Rattle.std.proofs.lemmas.Bool.{cases_lt}
use Rattle.std.proofs.lemmas.List.{length-map, length-drop, take-append-drop, take_all, take_more, get_or_append_left}
use Rattle.std.proofs.lemmas.Option.{slice_get_within, same_Some}
use Rattle.std.proofs.Math.Seq.{drop-cons, drop-append_seam}
use Rattle.pv_flow.specs.declared.block.Block.{Block}
use Rattle.pv_flow.specs.Edges.{targets_of}
use Rattle.pv_loops.specs.Outwards.{header_at}
use Rattle.pv_graph.proofs.Cited.{found}
use Rattle.pv_graph.specs.Graphs.{Graph}
use Rattle.pv_decide.specs.Sites.{Inside}
use Rattle.pv_decide.proofs.Cited.{inner_is}
use Rattle.pv_build.specs.declared.method.Method.{Method}
use Rattle.pv_build.specs.declared.method.Made.{Made}
use Rattle.pv_build.specs.declared.method.Closed.{Closed}
use Rattle.pv_build.specs.declared.method.Stage.TheVariants as stage
use Rattle.pv_build.specs.Stages.{IsMethod, loops_at, loops_around, IsLoopAt, HasRun, IsClosed, IsStage}
use Rattle.pv_build.specs.Giving.{scope_at, AreClosedFrom}
use Rattle.pv_build.proofs.Outwards.{row_long, IsIn, loop_in}
use Rattle.pv_build.proofs.Regions.{region_split, none_at, own_at, same_loop, not_outer, contains_mid}

-- the loops around the block up to the region, of which the first k are closed
pub record Climbed (m : Method) (made : Made) (at : Option ℕ) (b k : ℕ) (left : List Closed) : Type 0 where
  pub inside : List ℕ
  pub split : loops_around m b ≡ inside ++ loops_at m at
  pub few : k ≤ length inside
  pub closed : (g : Graph) → IsStage m g made (loops_at m at) → AllZip (λ (h : ℕ) (c : Closed). IsClosed m g made.names h c) (take k inside) left

-- ---- tests of places

pub same_at : (a : Option ℕ) (i : ℕ) → option_eq nat_eq a (Some i) ≡ true → a ≡ Some i
same_at None i e = absurd (true≢false (sym e))
same_at (Some j) i e = ap (λ (n : ℕ). Some n) (eqb-true j i e)

pub other_at : (a : Option ℕ) (i : ℕ) → option_eq nat_eq a (Some i) ≡ false → a ≢ Some i
other_at None i e q = absurd (cc)
other_at (Some j) i e q = true≢false (sym (eq-eqb j i (same_Some j i q)) ∙ e)

-- ---- lists

zip_last : {A B : Type 0} → (Q : A → B → Type 0) (xs : List A) (ys : List B) (x : A) (y : B) → AllZip Q xs ys → Q x y → AllZip Q (xs ++ x ∷ []) (ys ++ y ∷ [])
zip_last Q [] [] x y all one = (one, tt)
zip_last Q [] (b ∷ ys) x y all one = absurd all
zip_last Q (a ∷ xs) [] x y all one = absurd all
zip_last Q (a ∷ xs) (b ∷ ys) x y all one = (all.0, zip_last Q xs ys x y all.1 one)

module _ (m : Method) (is : IsMethod m) (made : Made) (at : Option ℕ) (low : IsLoopAt m at) (b : ℕ) where
  home_size : length m.forest.now.home.items ≡ length m.flow.now.blocks
  home_size = is.routine.shaped.loops.homes ∙ length-map m.flow.now.blocks (λ (k : Block). targets_of k.exits)

  -- a block that is done has a home
  pub home_done : (g : Graph) → IsStage m g made (loops_at m at) → HasRun made b → b < length m.forest.now.home.items
  home_done g stage (ran, there) =
      let z = slice_get_within made.blocks.items b (Some ran) there in
      let y = stage.blocks_size in
      let x = home_size in
      omega (arith, x, y, z)

  pub begins : Inside m.trees.sites.items (scope_at m at) b → Climbed m made at b 0 []
  begins inside = let s = region_split m is at low b inside in record { inside = s.0; split = s.1; few = omega arith; closed = λ g stage. tt }

  module _ (row : List ℕ) (heads : map (header_at m.forest.now.loops.items) row ≡ loops_around m b) (within : All (λ i. i < length m.forest.now.loops.items) row) (k : ℕ) (left : List Closed) (c : Climbed m made at b k left) where
    long : length row ≡ length c.inside + length (loops_at m at)
    long = row_long m is b row heads within ∙ ap length c.split ∙ length-append c.inside (loops_at m at)

    whole : length c.inside ≤ k → (g : Graph) → IsStage m g made (loops_at m at) → AreClosedFrom m g made at b left
    whole all g stage =
        let e : take k c.inside ≡ c.inside = take_all k c.inside all in
        subst (λ (X : List ℕ). AllZip (λ (h : ℕ) (c : Closed). IsClosed m g made.names h c) X left) (e ∙ sym (inner_is (loops_at m at) c.inside (loops_around m b) c.split)) (c.closed g stage)

    -- no more loops are around the block
    pub at_end : length row ≤ k → (g : Graph) → IsStage m g made (loops_at m at) → AreClosedFrom m g made at b left
    at_end all = whole (let l = long in omega (arith, all, l))

    module _ (i : ℕ) (at_k : slice_get row k ≡ Some i) where
      q : IsIn m is b row heads within k i
      q = loop_in m is b row heads within k i at_k

      less : k < length row
      less = slice_get_within row k i at_k

      -- the next loop is the region's
      pub at_region : at ≡ Some i → (g : Graph) → IsStage m g made (loops_at m at) → AreClosedFrom m g made at b left
      at_region same = whole
          (let e : length (loops_at m at) ≡ length (drop k (loops_around m b)) = ap length (ap (loops_at m) same ∙ q.rest) in
          let d = length-drop k (loops_around m b) in
          let l = long in
          let r = row_long m is b row heads within in
          let lt = less in
          omega (arith, e, d, l, r, lt))

      not_region : (a : Option ℕ) → a ≢ Some i → IsLoopAt m a → loops_at m a ≡ loops_at m (Some i) → ⊥
      not_region None ne low e = absurd (let z : q.listed.header ∷ loops_at m q.listed.parent ≡ [] = sym (own_at m is i q.listed q.there) ∙ sym e ∙ none_at m is in cc)
      not_region (Some j) ne low e =
          let l = found m.forest.now.loops.items j low in
          let same : l.0.header ≡ q.listed.header = (let z : l.0.header ∷ loops_at m l.0.parent ≡ q.listed.header ∷ loops_at m q.listed.parent = sym (own_at m is j l.0 l.1) ∙ e ∙ own_at m is i q.listed q.there in cc) in
          ne (ap (λ (n : ℕ). Some n) (same_loop m is j i l.0 q.listed l.1 q.there same))

      module _ (other : at ≢ Some i) where
        -- it is inside the region
        further : k < length c.inside
        further = ⊎_elim
            (λ (lt : k < length c.inside). lt)
            (λ (ge : length c.inside ≤ k).
            let e : k ≡ length c.inside = (let few = c.few in omega (arith, few, ge)) in
            absurd (not_region at other low (sym (drop-append_seam c.inside (loops_at m at)) ∙ ap (drop (length c.inside)) (sym c.split) ∙ ap (λ (n : ℕ). drop n (loops_around m b)) (sym e) ∙ sym q.rest)))
            (cases_lt k (length c.inside))

        here : get_or c.inside k 0 ≡ q.listed.header
        here = sym (get_or_append_left c.inside (loops_at m at) 0 k further) ∙ ap (λ (X : List ℕ). get_or X k 0) (sym c.split) ∙ q.header

        around_it : loops_around m b ≡ take k c.inside ++ (q.listed.header ∷ (drop (suc k) c.inside ++ loops_at m at))
        around_it = c.split ∙ ap (λ (X : List ℕ). X ++ loops_at m at) (sym (take-append-drop k c.inside) ∙ ap (λ (X : List ℕ). take k c.inside ++ X) (drop-cons c.inside k 0 further ∙ ap (λ (h : ℕ). h ∷ drop (suc k) c.inside) here))
            ∙ append_assoc (take k c.inside) (q.listed.header ∷ drop (suc k) c.inside) (loops_at m at)

        -- it is closed
        pub closed_there : (g : Graph) → IsStage m g made (loops_at m at) → HasRun made b → (x : Closed) × (slice_get made.loops.items i ≡ Some (stage.Closed x))
        closed_there g st run = ⊎_elim
            (λ open_. absurd (not_outer m is b q.listed.header (take k c.inside) (drop (suc k) c.inside) (loops_at m at) around_it open_))
            (λ closed. closed)
            (st.passed b i q.listed run q.there (subst (λ (A : List ℕ). Contains A q.listed.header) (sym around_it) (contains_mid (take k c.inside) q.listed.header (drop (suc k) c.inside ++ loops_at m at))))

        -- one more loop
        pub climbs : (x : Closed) → slice_get made.loops.items i ≡ Some (stage.Closed x) → Climbed m made at b (k + 1) (left ++ x ∷ [])
        climbs x at_x = record {
          inside = c.inside;
          split = c.split;
          few = (let lt = further in omega (arith, lt));
          closed = λ g st.
              subst (λ (X : List ℕ). AllZip (λ (h : ℕ) (c : Closed). IsClosed m g made.names h c) X (left ++ x ∷ [])) (sym (take_more c.inside k 0 further ∙ ap (λ (h : ℕ). take k c.inside ++ h ∷ []) here))
              (zip_last (λ (h : ℕ) (c : Closed). IsClosed m g made.names h c) (take k c.inside) left q.listed.header x (c.closed g st) (st.loops i q.listed (stage.Closed x) q.there at_x).0);
        }
