-- The loops around blocks, and the regions of loops.
use Rattle.std.proofs.Common.{◌≡◌, ◌≢◌, ℕ, zero, suc, ◌<◌, ◌≤◌, List, [], ◌∷◌, ◌++◌, length, map, get_or, drop, Option, Some, None, slice_get, inl, inr, ⊎_elim, refl, sym, ap, ◌∙◌, subst, arith}
use Rattle.std.specs.List.{Contains}
use Rattle.std.proofs.lemmas.List.{length-map}
use Rattle.std.proofs.lemmas.Option.{slice_get_within, slice_get_read, same_Some}
use Rattle.pv_frame.proofs.Cited.{contains_first, contains_more, contains_cases, contains_none}
use Rattle.pv_flow.specs.declared.block.Block.{Block}
use Rattle.pv_flow.specs.Edges.{targets_of, edges_of}
use Rattle.pv_loops.specs.declared.forest.Loop.{Loop}
use Rattle.pv_graph.proofs.Cited.{found}
use Rattle.pv_graph.specs.Walks.{In}
use Rattle.pv_loops.specs.Ranks.{Heads}
use Rattle.pv_loops.specs.Forests as forests
use Rattle.pv_loops.specs.Forests.{AreAround}
use Rattle.pv_equations.specs.Equations.{Values, AreEquations}
use Rattle.pv_equations.proofs.Cited.{solvable}
use Rattle.pv_decide.specs.declared.aim.Scope.TheVariants as scope
use Rattle.pv_decide.specs.declared.tree.Target.TheVariants as target
use Rattle.pv_decide.specs.Sites.{loops_of}
use Rattle.pv_terms.specs.Laws.{depths}
use Rattle.pv_runs.specs.Laws.{IsRanked}
use Rattle.pv_build.specs.declared.method.Method.{Method}
use Rattle.pv_build.specs.Stages.{IsMethod, IsLoopAt, flow_in, loops_at, loops_around}
use Rattle.pv_build.specs.Giving.{scope_at, IsTargetIn}
use Rattle.pv_build.specs.Opening.{IsOuter}
use Rattle.pv_build.specs.Building.{IsOwnLoop}
use Rattle.pv_layout.proofs.Cited.{ranked}
use Rattle.pv_layout.proofs.Cited as layout

-- ---- lists

pub in_of : (xs : List ℕ) (x : ℕ) → Contains xs x → In xs x
in_of [] x c = absurd (contains_none x c)
in_of (y ∷ xs) x c = ⊎_elim (λ e. inl e) (λ more. inr (in_of xs x more)) (contains_cases y x xs c)

pub of_in : (xs : List ℕ) (x : ℕ) → In xs x → Contains xs x
of_in [] x i = absurd i
of_in (y ∷ xs) x (inl e) = subst (λ (z : ℕ). Contains (y ∷ xs) z) e (contains_first y xs)
of_in (y ∷ xs) x (inr i) = contains_more y x xs (of_in xs x i)

pub split_in : (xs : List ℕ) (x : ℕ) → In xs x → (G : List ℕ) × (B : List ℕ) × (xs ≡ G ++ x ∷ B)
split_in [] x i = absurd i
split_in (y ∷ xs) x (inl e) = ([], xs, ap (λ (z : ℕ). z ∷ xs) e)
split_in (y ∷ xs) x (inr i) = let r = split_in xs x i in (y ∷ r.0, r.1, ap (λ (zs : List ℕ). y ∷ zs) r.2)

pub in_right : (G A : List ℕ) (x : ℕ) → In A x → In (G ++ A) x
in_right [] A x i = i
in_right (g ∷ G) A x i = inr (in_right G A x i)

tail_short : (G : List ℕ) (x : ℕ) (B : List ℕ) → length (x ∷ B) ≤ length (G ++ x ∷ B)
tail_short [] x B = omega arith
tail_short (g ∷ G) x B = let z = tail_short G x B in omega (arith, z)

pub header_is : (loops : List Loop) (i : ℕ) (l : Loop) → slice_get loops i ≡ Some l → get_or (map (λ (l : Loop). l.header) loops) i 0 ≡ l.header
header_is [] i l e = absurd (cc)
header_is (k ∷ loops) zero l e = ap (λ (l : Loop). l.header) (same_Some k l e)
header_is (k ∷ loops) (suc i) l e = header_is loops i l e

module _ (m : Method) (is : IsMethod m) where
  pub ranks : IsRanked (flow_in m) (length m.flow.now.blocks)
  ranks = ranked m.typed.now.program m.typed.now.frames m.flow.now.blocks m.forest.now is.routine

  -- the equations have a solution
  pub solution : (v : Values) × AreEquations (flow_in m) v
  solution = solvable (flow_in m) ranks.rank ranks.top _ (length m.flow.now.blocks) ranks.slots ranks.shape ranks.compact ranks.finite ranks.below ranks.deep

  pub edges_long : length (edges_of m.flow.now.blocks) ≡ length m.flow.now.blocks
  edges_long = length-map m.flow.now.blocks (λ (b : Block). targets_of b.exits)

  -- ---- places

  pub home_low : (b : ℕ) → b < length m.flow.now.blocks → b < length m.forest.now.home.items
  home_low b low = let z = is.routine.shaped.loops.homes in let e = edges_long in omega (arith, low, z, e)

  -- a loop as it is read
  pub loop_read : (i : ℕ) → i < length m.forest.now.loops.items → (l : Loop) → l ≡ get_or m.forest.now.loops.items i l → slice_get m.forest.now.loops.items i ≡ Some l
  loop_read i low l e = slice_get_read m.forest.now.loops.items (length m.forest.now.loops.items) i l refl low e

  parent_low : (p : ℕ) (l : Loop) (A : List ℕ) → AreAround m.forest.now.loops.items l A → l.parent ≡ Some p → p < length m.forest.now.loops.items
  parent_low p _ _ (forests.outermost l e) q = absurd (cc)
  parent_low p _ _ (forests.inner l o r a e at A) q =
      let same : r ≡ p = same_Some r p (sym e ∙ q) in
      slice_get_within m.forest.now.loops.items p o (subst (λ (k : ℕ). slice_get m.forest.now.loops.items k ≡ Some o) same at)

  pub parent_at : (i : ℕ) (l : Loop) → slice_get m.forest.now.loops.items i ≡ Some l → IsLoopAt m l.parent
  parent_at i l there = go l.parent refl
    where
      go : (at : Option ℕ) → l.parent ≡ at → IsLoopAt m at
      go None e = tt
      go (Some p) e = let x = is.routine.shaped.loops.loops i l there in parent_low p l x.around x.outer e

  pub no_loops : loops_at m None ≡ []
  no_loops = layout.up_none m.typed.now.program m.typed.now.frames m.flow.now.blocks m.forest.now is.routine

  -- ---- loops around blocks

  pub nested : (b h : ℕ) → In (loops_around m b) h → (G : List ℕ) × (B : List ℕ) × (loops_around m b ≡ G ++ h ∷ B) × (loops_around m h ≡ h ∷ B)
  nested b h i = let s = split_in (loops_around m b) h i in (s.0, s.1, s.2, (ranks.shape.headers b h s.0 s.1 s.2).0)

  -- the loops around a header are around the blocks of its loop
  pub outward : (b h k : ℕ) → In (loops_around m b) h → In (loops_around m h) k → In (loops_around m b) k
  outward b h k i j =
      let n = nested b h i in
      subst (λ (A : List ℕ). In A k) (sym n.2) (in_right n.0 (h ∷ n.1) k (subst (λ (A : List ℕ). In A k) n.3 j))

  -- a header is in its own loop
  pub own_in : (b h : ℕ) → In (loops_around m b) h → In (loops_around m h) h
  own_in b h i = let n = nested b h i in subst (λ (A : List ℕ). In A h) (sym n.3) (inl refl)

  pub deep_around : (b k : ℕ) → In (loops_around m b) k → depths (flow_in m) k ≤ length (loops_around m b)
  deep_around b k i =
      let n = nested b k i in
      let own : depths (flow_in m) k ≡ length (k ∷ n.1) = ap length n.3 in
      let whole : length (loops_around m b) ≡ length (n.0 ++ k ∷ n.1) = ap length n.2 in
      let le = tail_short n.0 k n.1 in
      omega (arith, own, whole, le)

  -- no header is listed twice
  pub once_around : (b : ℕ) (B : List ℕ) → loops_around m b ≡ b ∷ B → In B b → ⊥
  once_around b B own i =
      let s = split_in B b i in
      let whole : loops_around m b ≡ (b ∷ s.0) ++ b ∷ s.1 = own ∙ ap (λ (A : List ℕ). b ∷ A) s.2 in
      let short : loops_around m b ≡ b ∷ s.1 = (ranks.shape.headers b b (b ∷ s.0) s.1 whole).0 in
      let e : length ((b ∷ s.0) ++ b ∷ s.1) ≡ length (b ∷ s.1) = ap length (sym whole ∙ short) in
      let le = tail_short s.0 b s.1 in
      absurd (omega (arith, e, le))

  pub loop_of : (b h : ℕ) → In (loops_around m b) h → (i : ℕ) × (l : Loop) × (slice_get m.forest.now.loops.items i ≡ Some l) × (l.header ≡ h)
  loop_of b h i =
      let q = layout.around_listed m.typed.now.program m.typed.now.frames m.flow.now.blocks m.forest.now is.routine b h (of_in (loops_around m b) h i) in
      (q.0, q.1, q.2, q.3)

  -- ---- regions

  module _ (i : ℕ) (l : Loop) (there : slice_get m.forest.now.loops.items i ≡ Some l) where
    -- its own header, and those of the loops around it
    pub loops_own : loops_at m (Some i) ≡ l.header ∷ loops_at m l.parent
    loops_own = layout.up_own m.typed.now.program m.typed.now.frames m.flow.now.blocks m.forest.now is.routine i l there

    pub header_own : loops_around m l.header ≡ l.header ∷ loops_at m l.parent
    header_own = layout.around_header m.typed.now.program m.typed.now.frames m.flow.now.blocks m.forest.now is.routine i l there

    pub header_around : loops_around m l.header ≡ loops_at m (Some i)
    header_around = header_own ∙ sym loops_own

    pub scope_is : scope_at m (Some i) ≡ scope.Loop l.header
    scope_is = ap scope.Loop (header_is m.forest.now.loops.items i l there)

  -- the loops of a region are those around a header, or none
  region_in : (at : Option ℕ) → IsLoopAt m at → (k : ℕ) → In (loops_at m at) k → (h : ℕ) × (loops_around m h ≡ loops_at m at)
  region_in None low k i = absurd (subst (λ (A : List ℕ). In A k) no_loops i)
  region_in (Some i) low k j = let q = found m.forest.now.loops.items i low in (q.0.header, header_around i q.0 q.1)

  pub deep_at : (at : Option ℕ) → IsLoopAt m at → (k : ℕ) → In (loops_at m at) k → depths (flow_in m) k ≤ length (loops_at m at)
  deep_at at low k i =
      let r = region_in at low k i in
      subst (λ (A : List ℕ). depths (flow_in m) k ≤ length A) r.1 (deep_around r.0 k (subst (λ (A : List ℕ). In A k) (sym r.1) i))

  pub loops_same : (at : Option ℕ) → IsLoopAt m at → loops_of (flow_in m) (scope_at m at) ≡ loops_at m at
  loops_same None low = sym no_loops
  loops_same (Some i) low = let q = found m.forest.now.loops.items i low in ap (loops_of (flow_in m)) (scope_is i q.0 q.1) ∙ header_around i q.0 q.1

  pub heads_at : (at : Option ℕ) → IsLoopAt m at → (h : ℕ) → scope_at m at ≡ scope.Loop h → Heads (loops_around m h) h
  heads_at None low h e = absurd (let z : scope.Whole ≡ scope.Loop h = e in cc)
  heads_at (Some i) low h e =
      let q = found m.forest.now.loops.items i low in
      let same : q.0.header ≡ h = (let z : scope.Loop q.0.header ≡ scope.Loop h = sym (scope_is i q.0 q.1) ∙ e in cc) in
      subst (λ (k : ℕ). Heads (loops_around m k) k) same (loops_at m q.0.parent, header_own i q.0 q.1)

  -- a block whose outer loops are those of the region is a target of it, and so are the ends of the method
  pub asked_node : (at : Option ℕ) → IsLoopAt m at → (b : ℕ) → IsOuter m b at → IsTargetIn m at (target.Node b)
  asked_node at low b outer = record {
    heads = heads_at at low;
    aimed = ⊎_elim (λ same. inl (loops_same at low ∙ sym same.0)) (λ own. inr (own ∙ ap (λ (A : List ℕ). b ∷ A) (sym (loops_same at low)))) outer;
  }

  pub asked_exit : IsTargetIn m None target.Exit
  asked_exit = record { heads = heads_at None tt; aimed = tt }

  pub asked_return : IsTargetIn m None target.Return
  asked_return = record { heads = heads_at None tt; aimed = tt }

  -- ---- a block's own loop

  pub own_other : (b i : ℕ) (l : Loop) → slice_get m.forest.now.loops.items i ≡ Some l → loops_at m (Some i) ≡ loops_around m b → l.header ≢ b → IsOwnLoop m b None
  own_other b i l there whole other heads =
      let z : l.header ∷ loops_at m l.parent ≡ b ∷ heads.0 = sym (loops_own i l there) ∙ whole ∙ heads.1 in
      other (let q : l.header ≡ b = cc in q)

  pub own_none : (b : ℕ) → loops_at m None ≡ loops_around m b → IsOwnLoop m b None
  own_none b whole heads = absurd (let z : [] ≡ b ∷ heads.0 = sym no_loops ∙ whole ∙ heads.1 in cc)

  -- the loops outside its own
  pub outer_header : (b i : ℕ) (at : Option ℕ) → IsOwnLoop m b (Some i) → loops_at m at ≡ drop 1 (loops_around m b) → IsOuter m b at
  outer_header b i at (l, there, same) rest =
      let own : loops_around m b ≡ b ∷ loops_at m l.parent = subst (λ (k : ℕ). loops_around m k ≡ k ∷ loops_at m l.parent) same (header_own i l there) in
      inr (own ∙ ap (λ (A : List ℕ). b ∷ A) (sym (rest ∙ ap (drop 1) own)))

  -- the loops that are open where a header is entered
  pub outer_own : (b i : ℕ) (l : Loop) (at : Option ℕ) → slice_get m.forest.now.loops.items i ≡ Some l → l.header ≡ b → IsOuter m b at → loops_at m at ≡ loops_at m l.parent
  outer_own b i l at there same outer =
      let own : loops_around m b ≡ b ∷ loops_at m l.parent = subst (λ (k : ℕ). loops_around m k ≡ k ∷ loops_at m l.parent) same (header_own i l there) in
      elim outer [
        | inl z ↦ absurd (z.1 (loops_at m l.parent, own))
        | inr z ↦ (let y : b ∷ loops_at m at ≡ b ∷ loops_at m l.parent = sym z ∙ own in cc)
      ]

  pub outer_plain : (b : ℕ) (at : Option ℕ) → IsOwnLoop m b None → IsOuter m b at → loops_around m b ≡ loops_at m at
  outer_plain b at none outer = elim outer [
    | inl z ↦ z.0
    | inr z ↦ absurd (none (loops_at m at, z))
  ]
