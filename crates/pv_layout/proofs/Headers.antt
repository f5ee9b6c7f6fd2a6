-- The headers of a method's loops, by the places of the loops in their forest.
use Rattle.std.proofs.Common.{◌≡◌, ℕ, zero, suc, ◌<◌, ◌≤◌, true, false, if◌then◌else◌, List, [], ◌∷◌, length, get_or, Option, Some, None, inl, inr, refl, sym, ap, ◌∙◌, subst, arith}
use Rattle.std.specs.Prelude.{◌==◌, slice_get}
use Rattle.std.specs.List.{Contains}
use Rattle.std.proofs.lemmas.Bool.{cases_eq, cases_lt, eqb-true}
use Rattle.std.proofs.lemmas.List.{length-map}
use Rattle.std.proofs.lemmas.Option.{slice_get-get_or, get_or_from_slice_get}
use Rattle.pv_frame.specs.declared.program.Program.{Program}
use Rattle.pv_frame.specs.declared.frame.Frame.{Frame}
use Rattle.pv_frame.proofs.Cited.{contains_none}
use Rattle.pv_flow.specs.declared.block.Block.{Block}
use Rattle.pv_flow.specs.Edges.{targets_of, edges_of}
use Rattle.pv_flow.proofs.Cited.{edges_within}
use Rattle.pv_loops.specs.declared.forest.Loop.{Loop}
use Rattle.pv_loops.specs.declared.forest.Forest.{Forest}
use Rattle.pv_loops.specs.declared.forest.TheConstants.{MAX_DEPTH}
use Rattle.pv_loops.specs.Shapes.{Edge}
use Rattle.pv_loops.specs.Loops.{Region, Whole, Inside, Way, edge, more, IsLargest, IsHeader, IsLoop}
use Rattle.pv_loops.specs.Loops as loop
use Rattle.pv_loops.specs.Forests.{AreAround, outermost, inner}
use Rattle.pv_loops.specs.Ranks.{header_and, headers_from, around, Heads}
use Rattle.pv_equations.specs.Flow.{To, Exit, InChain, Flow}
use Rattle.pv_equations.specs.Flow as flow
use Rattle.pv_decide.proofs.Cited.{split_at, header_within}
use Rattle.pv_runs.specs.Carrying.{members_of}
use Rattle.pv_runs.proofs.Cited.{exit_edge, edge_exit, member_of, in_shape}
use Rattle.pv_layout.specs.Homes.{up}
use Rattle.pv_layout.specs.Routine.{IsRoutine}
use Rattle.pv_layout.proofs.Trees as trees
use Rattle.pv_layout.proofs.Trees.{Comes, before}

-- ---- headers read from the list of loops

none_from : (n : ℕ) (loops : List Loop) → headers_from n loops None ≡ []
unfolding headers_from
none_from zero loops = refl
none_from (suc n) loops = refl

loop_from : (loops : List Loop) (n : ℕ) (l : Loop) (A : List ℕ) → AreAround loops l A → length A < n → (i : ℕ) → slice_get loops i ≡ Some l → headers_from n loops (Some i) ≡ l.header ∷ A
unfolding headers_from
loop_from loops zero l A around low i at = absurd (omega arith)
loop_from loops (suc n) _ _ (outermost l e) low i at =
    ap (λ (o : Option Loop). header_and (λ parent. headers_from n loops parent) o) at ∙ ap (λ (p : Option ℕ). l.header ∷ headers_from n loops p) e ∙ ap (λ (A : List ℕ). l.header ∷ A) (none_from n loops)
loop_from loops (suc n) _ _ (inner l outer p A e at_p around) low i at =
    ap (λ (o : Option Loop). header_and (λ parent. headers_from n loops parent) o) at ∙ ap (λ (p : Option ℕ). l.header ∷ headers_from n loops p) e ∙ ap (λ (A : List ℕ). l.header ∷ A) (loop_from loops n outer A around (omega arith) p at_p)

-- the headers around a loop are those of its parent outwards
parent_from : (loops : List Loop) (n : ℕ) (l : Loop) (A : List ℕ) → AreAround loops l A → length A ≤ n → headers_from n loops l.parent ≡ A
parent_from loops n _ _ (outermost l e) few = ap (λ (p : Option ℕ). headers_from n loops p) e ∙ none_from n loops
parent_from loops n _ _ (inner l outer p A e at around) few = ap (λ (p : Option ℕ). headers_from n loops p) e ∙ loop_from loops n outer A around (omega arith) p at

-- the loop with a header
with_header : (loops : List Loop) (h x : ℕ) → Contains (members_of loops h) x → (i : ℕ) × (l : Loop) × (slice_get loops i ≡ Some l) × (l.header ≡ h) × Contains l.members.items x
with_header [] h x among = absurd (contains_none x among)
with_header (k ∷ loops) h x among = elim (k.header == h) as (λ t. (k.header == h) ≡ t → Contains (if t then k.members.items else members_of loops h) x → (i : ℕ) × (l : Loop) × (slice_get (k ∷ loops) i ≡ Some l) × (l.header ≡ h) × Contains l.members.items x) [
  | true ↦ λ t among. (0, k, refl, eqb-true k.header h t, among)
  | false ↦ λ t among. let q = with_header loops h x among in (suc q.0, q.1, q.2, q.3, q.4)
] refl among

-- ---- ways in a loop

-- the last edge of a way
last_edge : (s : List (List ℕ)) (r : Region) (set : List ℕ) (a b : ℕ) → Way s r set a b → (w : ℕ) × Edge s w b × Contains set w
last_edge s Whole set _ _ (edge a b e x y) = (a, e, x)
last_edge s (Inside nodes header) set _ _ (edge a b e x y) = (a, e.0, x)
last_edge s r set _ _ (more a b c e x way) = last_edge s r set b c way

-- the header of a loop is where it is entered, and an edge from its loop leads to it
record HasTurn (s : List (List ℕ)) (set : List ℕ) (h : ℕ) : Type 0 where
  header : IsHeader s set h
  source : ℕ
  turns : Edge s source h
  member : Contains set source

turn_of : (s : List (List ℕ)) (r : Region) (set : List ℕ) (h : ℕ) → IsLargest s r set → IsHeader s set h → HasTurn s set h
turn_of s r set h large header =
    let w = last_edge s r set h h (large.connected h h header.member header.member) in
    record { header = header; source = w.0; turns = w.1; member = w.2 }

turn : (s : List (List ℕ)) (headers set : List ℕ) (h : ℕ) (B : List ℕ) → headers ≡ h ∷ B → IsLoop s headers set → HasTurn s set h
turn s _ _ h B e (loop.outermost k set large header) = let same : k ≡ h = cc in subst (HasTurn s set) same (turn_of s Whole set k large header)
turn s _ _ h B e (loop.inner k outer A set nodes l large header) = let same : k ≡ h = cc in subst (HasTurn s set) same (turn_of s (Inside nodes outer) set k large header)

-- ---- the loops of a method

module _ (p : Program) (frames : List (Option Frame)) (blocks : List Block) (forest : Forest) (is : IsRoutine p frames blocks forest) where
  abbrev f : Flow
  f = trees.f p frames blocks forest is

  abbrev s : List (List ℕ)
  s = edges_of blocks

  abbrev rank : ℕ → ℕ
  rank = (trees.ranked p frames blocks forest is).rank

  shape : flow.Shape f rank
  shape = (trees.ranked p frames blocks forest is).shape

  few : (i : ℕ) (l : Loop) (at : slice_get forest.loops.items i ≡ Some l) → length (l.header ∷ (is.shaped.loops.loops i l at).around) ≤ MAX_DEPTH
  few i l at = is.shaped.shallow (l.header ∷ (is.shaped.loops.loops i l at).around) l.members.items (is.shaped.loops.loops i l at).is

  listed_up : (i : ℕ) (l : Loop) (at : slice_get forest.loops.items i ≡ Some l) → up forest (Some i) ≡ l.header ∷ (is.shaped.loops.loops i l at).around
  listed_up i l at =
      let x = is.shaped.loops.loops i l at in
      let low = few i l at in
      loop_from forest.loops.items MAX_DEPTH l x.around x.outer (omega (arith, low)) i at

  -- the headers around a block are those of its home outwards
  pub around_home : (b : ℕ) (h : Option ℕ) → slice_get forest.home.items b ≡ Some h → around forest b ≡ up forest h
  around_home b h at = ap (up forest) (get_or_from_slice_get forest.home.items b h None at)

  pub up_none : up forest None ≡ []
  up_none = none_from MAX_DEPTH forest.loops.items

  -- its own header, and then those of its parent outwards
  pub up_own : (i : ℕ) (l : Loop) → slice_get forest.loops.items i ≡ Some l → up forest (Some i) ≡ l.header ∷ up forest l.parent
  up_own i l at =
      let x = is.shaped.loops.loops i l at in
      let low = few i l at in
      listed_up i l at ∙ ap (λ (A : List ℕ). l.header ∷ A) (sym (parent_from forest.loops.items MAX_DEPTH l x.around x.outer (omega (arith, low))))

  -- each header has one loop
  pub one_loop : (i j : ℕ) (k l : Loop) → slice_get forest.loops.items i ≡ Some k → slice_get forest.loops.items j ≡ Some l → k.header ≡ l.header → i ≡ j
  one_loop i j k l at to same = elim (cases_lt i j) [
    | inl less ↦ absurd (let lt = is.shaped.loops.ascend i j k l less at to in omega (arith, lt, same))
    | inr ge ↦ elim (cases_lt j i) [
      | inl less ↦ absurd (let lt = is.shaped.loops.ascend j i l k less to at in omega (arith, lt, same))
      | inr le ↦ omega (arith, ge, le)
    ]
  ]

  -- no block of a loop has a lower rank than the block where it is entered
  least : (N : ℕ) (set : List ℕ) (h : ℕ) → IsHeader s set h → (y : ℕ) → Comes f y → rank y < N → Contains set y → rank y < rank h → ⊥
  least zero set h header y comes low among less = omega arith
  least (suc N) set h header y comes low among less = elim (cases_eq y 0) [
    | inl first ↦ other (header.only y among (inl first))
    | inr later ↦
        let q = before f rank shape y comes later in
        let lt = q.lower in
        let e : Edge s q.block y = exit_edge p frames blocks is.shaped.flow q.block y q.exit q.within q.goes in
        other (header.only y among (inr (q.block, e, λ c. least N set h header q.block q.comes (omega (arith, lt, low)) c (omega (arith, lt, less)))))
  ]
    where
      other : y ≡ h → ⊥
      other e = let same = ap rank e in omega (arith, same, less)

  -- so the edge from its loop to a header goes back
  heads : (i : ℕ) (l : Loop) → slice_get forest.loops.items i ≡ Some l → Heads (around forest l.header) l.header
  heads i l at = kind (shape.edges t.source l.header x.0 x.1 x.2)
    where
      t : HasTurn s l.members.items l.header
      t = let q = is.shaped.loops.loops i l at in turn s (l.header ∷ q.around) l.members.items l.header q.around refl q.is

      x : (e : Exit) × InChain (f.chain t.source) e × (e.dest ≡ To l.header)
      x = edge_exit p frames blocks is.shaped.flow (trees.chains p frames blocks forest is) t.source l.header t.turns

      low : rank t.source < rank l.header → ⊥
      low = least (suc (rank t.source)) l.members.items l.header t.header t.source (trees.comes p frames blocks forest is t.source (edges_within p blocks is.shaped.flow t.source l.header t.turns).0) (omega arith) t.member

      kind : flow.Edge f rank t.source l.header → Heads (around forest l.header) l.header
      kind (C, D, z, inl q) = (q.1.0, q.0 ∙ q.1.1)
      kind (C, D, z, inr q) = absurd (low q.0)

  -- the home of a header is its loop
  pub header_home : (i : ℕ) (l : Loop) → slice_get forest.loops.items i ≡ Some l → slice_get forest.home.items l.header ≡ Some (Some i)
  header_home i l at = home (get_or forest.home.items l.header None) (slice_get-get_or forest.home.items l.header None (in_shape forest l.header l.header head.0 head.1))
    where
      head : Heads (around forest l.header) l.header
      head = heads i l at

      home : (o : Option ℕ) → slice_get forest.home.items l.header ≡ Some o → slice_get forest.home.items l.header ≡ Some (Some i)
      home None e = absurd (let z : [] ≡ l.header ∷ head.0 = sym up_none ∙ sym (around_home l.header None e) ∙ head.1 in cc)
      home (Some j) e =
          let m = is.shaped.loops.home l.header (Some j) e in
          let z : m.0.header ∷ up forest m.0.parent ≡ l.header ∷ head.0 = sym (up_own j m.0 m.1) ∙ sym (around_home l.header (Some j) e) ∙ head.1 in
          let same : m.0.header ≡ l.header = ap (λ (A : List ℕ). get_or A 0 0) z in
          e ∙ ap (λ (k : ℕ). Some (Some k)) (one_loop j i m.0 l m.1 at same)

  pub around_header : (i : ℕ) (l : Loop) → slice_get forest.loops.items i ≡ Some l → around forest l.header ≡ l.header ∷ up forest l.parent
  around_header i l at = around_home l.header (Some i) (header_home i l at) ∙ up_own i l at

  -- each header around a block is that of a loop that has the block
  pub around_listed : (b h : ℕ) → Contains (around forest b) h → (i : ℕ) × (l : Loop) × (slice_get forest.loops.items i ≡ Some l) × (l.header ≡ h) × Contains l.members.items b
  around_listed b h among =
      let z = split_at (around forest b) h among in
      with_header forest.loops.items h b (member_of s forest is.shaped.loops b h z.0 z.1 z.2)

  -- the depth of a loop is the number of the headers around its own
  pub depth_is : (i : ℕ) (l : Loop) → slice_get forest.loops.items i ≡ Some l → l.depth ≡ length (around forest l.header)
  depth_is i l at = (is.shaped.loops.loops i l at).depth ∙ ap length (sym (listed_up i l at) ∙ sym (around_home l.header (Some i) (header_home i l at)))

  pub header_low : (i : ℕ) (l : Loop) → slice_get forest.loops.items i ≡ Some l → l.header < length blocks
  header_low i l at = subst (λ (n : ℕ). l.header < n) (length-map blocks (λ (b : Block). targets_of b.exits)) (header_within s forest is.shaped.loops i l at)
