-- What walks need is made of a flow and its forest.
use Rattle.std.proofs.Common.{◌≡◌, ℕ, zero, suc, ◌<◌, ◌^◌, List, [], ◌∷◌, length, map, get_or, Option, Some, None, slice_get, ◌⊎◌, inl, inr, ⊎_elim, refl, sym, ap, ◌∙◌, subst, arith}
use Rattle.pv_decide.proofs.Words.{All, Contains, slice_get_within, slice_get-get_or, slice_get-map, get_or_from_slice_get, length-map, Block, Forest, around, Site, IsInRange, IsAround, GoesTo, AreInRange, AreOrdered, AreForWalks, IsSite, AreSites}
use Rattle.pv_frame.proofs.Cited.{contains_more, contains_cases, contains_none}
use Rattle.pv_flow.specs.declared.block.Exit.{Exit}
use Rattle.pv_flow.specs.declared.block.Exit.TheVariants as exit
use Rattle.pv_flow.specs.declared.block.Flow as code
use Rattle.pv_flow.specs.Edges.{targets_of, edges_of}
use Rattle.pv_loops.specs.declared.forest.Loop.{Loop}
use Rattle.pv_loops.specs.Shapes.{Edge}
use Rattle.pv_loops.specs.Loops.{Region, Whole, Inside, Way, edge, more, IsLargest, IsLoop, outermost, inner}
use Rattle.pv_loops.specs.Forests.{IsForest}

module _ (s : List (List ℕ)) (forest : Forest) (is : IsForest s forest) where
  -- a header is a node
  way_out : (r : Region) (set : List ℕ) (a b : ℕ) → Way s r set a b → (x : ℕ) × Edge s a x
  way_out Whole set a _ (edge x b e p q) = (b, e)
  way_out Whole set a _ (more x b c e p w) = (b, e)
  way_out (Inside m h) set a _ (edge x b e p q) = (b, e.0)
  way_out (Inside m h) set a _ (more x b c e p w) = (b, e.0)

  source_within : (xs : List (List ℕ)) (a b : ℕ) → Contains (get_or xs a []) b → a < length xs
  source_within [] a b c = absurd (contains_none b c)
  source_within (x ∷ xs) zero b c = omega arith
  source_within (x ∷ xs) (suc a) b c = let z = source_within xs a b c in omega arith

  connected_within : (r : Region) (set : List ℕ) (h : ℕ) → IsLargest s r set → Contains set h → h < length s
  connected_within r set h largest has = let w = way_out r set h h (largest.connected h h has has) in source_within s h w.0 w.1

  loop_within : (A members : List ℕ) (h : ℕ) (B : List ℕ) → A ≡ h ∷ B → IsLoop s A members → h < length s
  loop_within _ _ h B e (outermost k members largest header) = let same : k ≡ h = cc in subst (λ (k : ℕ). k < length s) same (connected_within Whole members k largest header.member)
  loop_within _ _ h B e (inner k o around members set l largest header) = let same : k ≡ h = cc in subst (λ (k : ℕ). k < length s) same (connected_within (Inside set o) members k largest header.member)

  pub header_within : (i : ℕ) (l : Loop) → slice_get forest.loops.items i ≡ Some l → l.header < length s
  header_within i l e = let x = is.loops i l e in loop_within (l.header ∷ x.around) l.members.items l.header x.around refl x.is

  pub headers_within : (headers : List ℕ) → headers ≡ map (λ (l : Loop). l.header) forest.loops.items → (i h : ℕ) → slice_get headers i ≡ Some h → h < length s
  headers_within headers e i h at =
      let at' : slice_get (map (λ (l : Loop). l.header) forest.loops.items) i ≡ Some h = subst (λ (xs : List ℕ). slice_get xs i ≡ Some h) e at in
      let low : i < length (map (λ (l : Loop). l.header) forest.loops.items) = slice_get_within (map (λ (l : Loop). l.header) forest.loops.items) i h at' in
      let l = loop_at forest.loops.items i (let z = length-map forest.loops.items (λ (l : Loop). l.header) in omega arith) in
      let same : l.0.header ≡ h = (let z : Some l.0.header ≡ Some h = ap (λ (o : Option Loop). opt_header o) (sym l.1) ∙ sym (slice_get-map (λ (l : Loop). l.header) forest.loops.items i) ∙ at' in cc) in
      subst (λ (h : ℕ). h < length s) same (header_within i l.0 l.1)
    where
      loop_at : (xs : List Loop) (i : ℕ) → i < length xs → (l : Loop) × (slice_get xs i ≡ Some l)
      loop_at [] i low = absurd (omega arith)
      loop_at (x ∷ xs) zero low = (x, refl)
      loop_at (x ∷ xs) (suc i) low = loop_at xs i (omega arith)

      opt_header : Option Loop → Option ℕ
      opt_header None = None
      opt_header (Some l) = Some l.header

-- ---- edges and exits

among_targets : (exits : List Exit) (n : ℕ) → Contains exits (exit.To n) → Contains (targets_of exits) n
among_targets [] n among = absurd (contains_none (exit.To n) among)
among_targets (exit.To m ∷ exits) n among = ⊎_elim
    (λ e. let same : m ≡ n = cc in (0, omega arith, same))
    (λ more. contains_more m n (targets_of exits) (among_targets exits n more))
    (contains_cases (exit.To m) (exit.To n) exits among)
among_targets (exit.Return ∷ exits) n among = ⊎_elim (λ e. absurd (cc)) (λ more. among_targets exits n more) (contains_cases exit.Return (exit.To n) exits among)
among_targets (exit.Throw ∷ exits) n among = ⊎_elim (λ e. absurd (cc)) (λ more. among_targets exits n more) (contains_cases exit.Throw (exit.To n) exits among)

-- an exit to m is an edge
pub edge_of : (blocks : List Block) (b m : ℕ) (k : Block) → slice_get blocks b ≡ Some k → Contains k.exits (exit.To m) → Edge (edges_of blocks) b m
edge_of [] b m k is among = absurd (cc)
edge_of (c ∷ blocks) zero m k is among = among_targets c.exits m (let z : k ≡ c = cc in subst (λ (k : Block). Contains k.exits (exit.To m)) z among)
edge_of (c ∷ blocks) (suc b) m k is among = edge_of blocks b m k is among

block_at : (blocks : List Block) (b : ℕ) → b < length blocks → (k : Block) × (slice_get blocks b ≡ Some k)
block_at [] b low = absurd (omega arith)
block_at (k ∷ blocks) zero low = (k, refl)
block_at (k ∷ blocks) (suc b) low = block_at blocks b (omega arith)

-- the block under a site
pub under : (flow : code.Flow) (forest : Forest) (sites : List Site) → AreSites flow forest sites → (b : ℕ) (site : Site) → slice_get sites b ≡ Some site → (k : Block) × (slice_get flow.blocks b ≡ Some k) × IsSite k forest b site
under flow forest sites are b site e =
    let low : b < length flow.blocks = subst (λ (n : ℕ). b < n) are.size (slice_get_within sites b site e) in
    let k = block_at flow.blocks b low in
    (k.0, k.1, are.each b k.0 site k.1 e)

module _ (flow : code.Flow) (forest : Forest) (for_walks : AreForWalks flow forest) (sites : List Site) (are : AreSites flow forest sites) where
  shape_size : length (edges_of flow.blocks) ≡ length sites
  shape_size = length-map flow.blocks (λ (k : Block). targets_of k.exits) ∙ sym are.size

  edge_from : (b m : ℕ) (site : Site) → slice_get sites b ≡ Some site → Contains site.exits.items (exit.To m) → Edge (edges_of flow.blocks) b m
  edge_from b m site e has = let u = under flow forest sites are b site e in edge_of flow.blocks b m u.0 u.1 (subst (λ (xs : List Exit). Contains xs (exit.To m)) u.2.exits has)

  in_range : (b : ℕ) (site : Site) → slice_get sites b ≡ Some site → All (IsInRange sites) site.exits.items
  in_range b site e i d low = go (get_or site.exits.items i d) (i, low, again)
    where
      again : get_or site.exits.items i (get_or site.exits.items i d) ≡ get_or site.exits.items i d
      again = get_or_from_slice_get site.exits.items i (get_or site.exits.items i d) (get_or site.exits.items i d) (slice_get-get_or site.exits.items i d low)

      go : (x : Exit) → Contains site.exits.items x → IsInRange sites x
      go (exit.To m) has = subst (λ (n : ℕ). m < n) shape_size (for_walks.shape.within b m (edge_from b m site e has))
      go exit.Return has = tt
      go exit.Throw has = tt

  pub are_in_range : AreInRange sites
  are_in_range = record {
    some = subst (λ (n : ℕ). 0 < n) shape_size for_walks.shape.entry;
    few = subst (λ (n : ℕ). n < 2 ^ 32) (sym are.size) for_walks.few;
    exits = λ b site e. (let u = under flow forest sites are b site e in (subst (λ (xs : List Exit). 0 < length xs) (sym u.2.exits) (subst (λ (k : Block). 0 < length k.exits) (get_or_from_slice_get flow.blocks b u.0 u.0 u.1) (for_walks.exits b u.0 (slice_get_within flow.blocks b u.0 u.1))), u.2.few, in_range b site e));
  }

  pub are_ordered : (order : List ℕ) → order ≡ forest.order.items → AreOrdered sites order
  are_ordered order e = subst (AreOrdered sites) (sym e) record {
    blocks = λ k b at. subst (λ (n : ℕ). b < n) shape_size (for_walks.ordered.nodes k b at);
    each = λ b low. for_walks.ordered.each b (subst (λ (n : ℕ). b < n) (sym shape_size) low);
    once = λ j k b p q. for_walks.ordered.once j k b p q;
    forward = λ j k b m p q goes. forward j k b m p q goes;
  }
    where
      forward : (j k b m : ℕ) → slice_get forest.order.items j ≡ Some b → slice_get forest.order.items k ≡ Some m → GoesTo sites b m → (j < k) ⊎ IsAround sites b m
      forward j k b m p q (site, e, has) = ⊎_elim
          (λ z. inl z)
          (λ z. inr (site, e, (let u = under flow forest sites are b site e in subst (λ (xs : List ℕ). Contains xs m) (sym u.2.around) z)))
          (for_walks.ordered.forward j k b m p q (edge_from b m site e has))

  pub headers_low : (headers : List ℕ) → headers ≡ map (λ (l : Loop). l.header) forest.loops.items → (i h : ℕ) → slice_get headers i ≡ Some h → h < length sites
  headers_low headers e i h at = subst (λ (n : ℕ). h < n) shape_size (headers_within (edges_of flow.blocks) forest for_walks.loops headers e i h at)
