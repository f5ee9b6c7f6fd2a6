-- The loops of a region, and those between a block and the region.
use Rattle.std.proofs.Common.{◌≡◌, ℕ, suc, ◌+◌, ◌<◌, ◌≤◌, true, List, [], ◌∷◌, ◌++◌, length, length-append, append_assoc, append-nil, map, Option, Some, None, slice_get, inl, inr, ⊎_elim, sym, ap, ◌∙◌, subst, arith}
use Rattle.pv_build.proofs.Words.{slice_index, AllZip, Contains, nat_tests, contains_first, Contains-append_right, Loop, MAX_DEPTH, In, is_depth, Graph, Flow, Values, AreEquations, Inside, inner, split_at, under, inner_is, depths, Method, Made, Closed, IsMethod, flow_in, loops_at, loops_around, IsLoopAt, IsClosed, IsStage, scope_at, AreClosedFrom, IsLeft, AreLeft, IsSortedLoop, AreSortedLoops, AreDeeper}
use Rattle.pv_decide.specs.declared.aim.Scope.TheVariants as scope
pub use Rattle.pv_graph.proofs.Cited.{found as loop_there}
use Rattle.pv_build.proofs.Around as around
use Rattle.pv_build.proofs.Around.{split_in, scope_is}
pub use Rattle.pv_build.proofs.Around.{ranks, loops_same, no_loops as none_at, loops_own as own_at, deep_at as region_deep}
use Rattle.pv_layout.proofs.Cited.{one_loop}

pub contains_mid : (G : List ℕ) (h : ℕ) (B : List ℕ) → Contains (G ++ h ∷ B) h
contains_mid G h B = Contains-append_right G (h ∷ B) h (contains_first h B)

depth_is_one : (d : ℕ) → 0 < d → d ≤ 16 → is_depth d ≡ true
depth_is_one d low high = grind (arith, nat_tests)

-- ---- the loops of a method

module _ (m : Method) (is : IsMethod m) where
  abbrev f : Flow
  f = flow_in m

  -- the loops around a header of a loop around a block
  pub header_around : (b h : ℕ) (G B : List ℕ) → loops_around m b ≡ G ++ h ∷ B → loops_around m h ≡ h ∷ B
  header_around b h G B e = ((ranks m is).shape.headers b h G B e).0

  pub same_loop : (i j : ℕ) (k l : Loop) → slice_get m.forest.now.loops.items i ≡ Some k → slice_get m.forest.now.loops.items j ≡ Some l → k.header ≡ l.header → i ≡ j
  same_loop = one_loop m.typed.now.program m.typed.now.frames m.flow.now.blocks m.forest.now is.routine

  -- a block of the region is in its loops
  pub region_split : (at : Option ℕ) → IsLoopAt m at → (b : ℕ) → Inside m.trees.sites.items (scope_at m at) b → (X : List ℕ) × (loops_around m b ≡ X ++ loops_at m at)
  region_split None low b inside = (loops_around m b, sym (append-nil (loops_around m b)) ∙ ap (λ (R : List ℕ). loops_around m b ++ R) (sym (none_at m is)))
  region_split (Some i) low b (k, here, has) =
      let l = loop_there m.forest.now.loops.items i low in
      let h : ℕ = slice_index (map (λ (l : Loop). l.header) m.forest.now.loops.items) i in
      let same : h ≡ l.0.header = (let z : scope.Loop h ≡ scope.Loop l.0.header = scope_is m is i l.0 l.1 in cc) in
      let u = under m.flow.now m.forest.now m.trees.sites.items is.trees.sites b k here in
      let s = split_at (loops_around m b) h (subst (λ (xs : List ℕ). Contains xs h) u.2.around has) in
      let own : h ∷ s.1 ≡ loops_at m (Some i) = sym (header_around b h s.0 s.1 s.2) ∙ ap (loops_around m) same ∙ around.header_around m is i l.0 l.1 in
      (s.0, s.2 ∙ ap (λ (R : List ℕ). s.0 ++ R) own)

  pub inner_split : (at : Option ℕ) → IsLoopAt m at → (b : ℕ) → Inside m.trees.sites.items (scope_at m at) b → loops_around m b ≡ inner (loops_at m at) (loops_around m b) ++ loops_at m at
  inner_split at low b inside =
      let s = region_split at low b inside in
      s.1 ∙ ap (λ (X : List ℕ). X ++ loops_at m at) (sym (inner_is (loops_at m at) s.0 (loops_around m b) s.1))

  -- ---- depths

  -- a loop that a block of the region is in with all its loops is no deeper than the region
  pub depth_low : (b : ℕ) (X R : List ℕ) → loops_around m b ≡ X ++ R → (k : ℕ) → In R k → depths f k ≤ length R
  depth_low b X R e k i =
      let s = split_in R k i in
      let own : loops_around m k ≡ k ∷ s.1 = header_around b k (X ++ s.0) s.1 (e ∙ ap (λ (R : List ℕ). X ++ R) s.2 ∙ sym (append_assoc X s.0 (k ∷ s.1))) in
      let long : length R ≡ length s.0 + suc (length s.1) = ap length s.2 ∙ length-append s.0 (k ∷ s.1) in
      let deep : length (loops_around m k) ≡ suc (length s.1) = ap length own in
      omega (arith, long, deep)

  -- the depth of a loop inside the region
  inner_depth : (b h : ℕ) (G F R : List ℕ) → loops_around m b ≡ G ++ (h ∷ (F ++ R)) → length R < depths f h
  inner_depth b h G F R e =
      let deep : length (loops_around m h) ≡ suc (length (F ++ R)) = ap length (header_around b h G (F ++ R) e) in
      let long : length (F ++ R) ≡ length F + length R = length-append F R in
      omega (arith, deep, long)

  -- such a loop is none of the region's
  pub not_outer : (b h : ℕ) (G F R : List ℕ) → loops_around m b ≡ G ++ (h ∷ (F ++ R)) → In R h → ⊥
  not_outer b h G F R e i =
      let deep = inner_depth b h G F R e in
      let split : loops_around m b ≡ (G ++ h ∷ F) ++ R = e ∙ sym (append_assoc G (h ∷ F) R) in
      let low = depth_low b (G ++ h ∷ F) R split h i in
      absurd (omega (arith, deep, low))

  -- ---- closed loops

  module _ (g : Graph) (made : Made) (R : List ℕ) (stage : IsStage m g made R) where
    left_of : (b h : ℕ) (G F : List ℕ) (c : Closed) → loops_around m b ≡ G ++ (h ∷ (F ++ R)) → IsClosed m g made.names h c → (v : Values) → AreEquations f v → IsLeft f v g.nodes made.names h c
    left_of b h G F c e closed v eqs = record {
      outer = F ++ R;
      around_ = header_around b h G (F ++ R) e;
      depth = sym closed.depth;
      making = record {
        rank = (ranks m is).rank;
        top = (ranks m is).top;
        shape = (ranks m is).shape;
        ranks = (ranks m is).below;
        equations = eqs;
        are_names = stage.names;
        tied = record {
          each = λ k s n i. ⊎_elim (λ open_. inl open_.1) (λ tied. inr (tied v eqs)) (stage.each_name k s n i);
          deeper = λ k s n i deep. ⊎_elim
              (λ open_.
              let low : depths f k ≤ length R = depth_low b (G ++ h ∷ F) R (e ∙ sym (append_assoc G (h ∷ F) R)) k open_.0 in
              let high : length R < depths f h = inner_depth b h G F R e in
              let same : c.depth ≡ depths f h = closed.depth in
              absurd (omega (arith, low, high, same, deep)))
              (λ tied. tied v eqs)
              (stage.each_name k s n i);
        };
      };
      enters = closed.enters v eqs;
      ends = closed.ends v eqs;
    }

    abbrev Close : ℕ → Closed → Type 0
    Close h c = IsClosed m g made.names h c

    lefts_of : (b : ℕ) (G F : List ℕ) (left : List Closed) → loops_around m b ≡ G ++ (F ++ R) → AllZip Close F left → (v : Values) → AreEquations f v → AreLeft f v g.nodes made.names F left
    lefts_of b G [] [] e all v eqs = tt
    lefts_of b G [] (c ∷ left) e all v eqs = absurd all
    lefts_of b G (h ∷ F) [] e all v eqs = absurd all
    lefts_of b G (h ∷ F) (c ∷ left) e all v eqs = (left_of b h G F c e all.0 v eqs, lefts_of b (G ++ h ∷ []) F left (e ∙ sym (append_assoc G (h ∷ []) (F ++ R))) all.1 v eqs)

    sorted_of : (h : ℕ) (c : Closed) → 0 < depths f h → IsClosed m g made.names h c → IsSortedLoop g c
    sorted_of h c low closed =
        let same : c.depth ≡ depths f h = closed.depth in
        let high : depths f h ≤ MAX_DEPTH = (ranks m is).deep h in
        record { depth = depth_is_one c.depth (omega (arith, same, low)) (omega (arith, same, high)); token = closed.token; ending = closed.ending_sort }

    sorteds_of : (b : ℕ) (G F : List ℕ) (left : List Closed) → loops_around m b ≡ G ++ (F ++ R) → AllZip Close F left → AreSortedLoops g left
    sorteds_of b G [] [] e all = tt
    sorteds_of b G [] (c ∷ left) e all = absurd all
    sorteds_of b G (h ∷ F) [] e all = absurd all
    sorteds_of b G (h ∷ F) (c ∷ left) e all =
        let high : length R < depths f h = inner_depth b h G F R e in
        (sorted_of h c (omega (arith, high)) all.0, sorteds_of b (G ++ h ∷ []) F left (e ∙ sym (append_assoc G (h ∷ []) (F ++ R))) all.1)

    deepers_of : (b : ℕ) (G F : List ℕ) (left : List Closed) → loops_around m b ≡ G ++ (F ++ R) → AllZip Close F left → AreDeeper (length R) left
    deepers_of b G [] [] e all = tt
    deepers_of b G [] (c ∷ left) e all = absurd all
    deepers_of b G (h ∷ F) [] e all = absurd all
    deepers_of b G (h ∷ F) (c ∷ left) e all =
        let high : length R < depths f h = inner_depth b h G F R e in
        let same : c.depth ≡ depths f h = all.0.depth in
        (omega (arith, high, same), deepers_of b (G ++ h ∷ []) F left (e ∙ sym (append_assoc G (h ∷ []) (F ++ R))) all.1)

  -- THE CLOSED LOOPS BETWEEN A BLOCK AND THE REGION MAY BE LEFT
  module _ (g : Graph) (made : Made) (at : Option ℕ) (stage : IsStage m g made (loops_at m at)) (low : IsLoopAt m at) (b : ℕ) (inside : Inside m.trees.sites.items (scope_at m at) b) (left : List Closed) (closed : AreClosedFrom m g made at b left) where
    pub are_left : (v : Values) → AreEquations f v → AreLeft f v g.nodes made.names (inner (loops_at m at) (loops_around m b)) left
    are_left v eqs = lefts_of g made (loops_at m at) stage b [] (inner (loops_at m at) (loops_around m b)) left (inner_split at low b inside) closed v eqs

    pub are_sorted : AreSortedLoops g left
    are_sorted = sorteds_of g made (loops_at m at) stage b [] (inner (loops_at m at) (loops_around m b)) left (inner_split at low b inside) closed

    pub are_deeper : AreDeeper (length (loops_at m at)) left
    are_deeper = deepers_of g made (loops_at m at) stage b [] (inner (loops_at m at) (loops_around m b)) left (inner_split at low b inside) closed
