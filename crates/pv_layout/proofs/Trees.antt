-- The trees of a method give something, where it has loops too.
use Rattle.std.proofs.Common.{◌≡◌, ◌≢◌, ℕ, zero, suc, ◌<◌, List, [], ◌∷◌, ◌++◌, length, Option, Some, None, inl, inr, ⊎_elim, refl, sym, ap, ◌∙◌, subst, subst₂, append-nil, append_assoc, arith}
use Rattle.pv_layout.proofs.Words.{cases_eq, append_cancel_right, slice_get, Program, Frame, Block, edges_of, FromEntry, entry, along, edges_reach, Forest, Exp, Heads, put, Dest, To, Exit, Chain, Leave, Test, InChain, Flow, Shape, Back, Finish, Returning, Place, On, Again, Header, Gone, Ended, Seen, Joins, IsChain, Values, outs, AtPlace, IsTree, first_of_region, first_loops, tree_of, or_else, never_exp, AreEquations, seen_once, seen_to, move, go, walk_then, IsNode, Walks, walk_around, header_back, place_chain, flow_of, IsRanked, program_clean, edge_exit, method_ranked, typed_chain, IsRoutine}
use Rattle.pv_equations.specs.Flow.{Part, Edge}
use Rattle.pv_equations.specs.Equations.{Target, Node, Leaving, IsExit, Given}
use Rattle.pv_equations.proofs.Cited.{Goes, Walk, stop}

-- ---- a tree gives something where an exit on its walks does

abbrev pub Gives : Option Exp → Type 0
Gives r = (z : Exp) × (r ≡ Some z)

joins_first : (c : Exp) (a b r : Option Exp) → Gives a → Joins c a b r → Gives r
joins_first c None b r z j = absurd (let o = z.1 in cc)
joins_first c (Some a) None r z j = (a, j)
joins_first c (Some a) (Some b) r z (inl j) = (a, j.1)
joins_first c (Some a) (Some b) r z (inr j) = (_, j.1)

joins_second : (c : Exp) (a b r : Option Exp) → Gives b → Joins c a b r → Gives r
joins_second c None b r z j = (z.0, j ∙ z.1)
joins_second c (Some a) None r z j = (a, j)
joins_second c (Some a) (Some b) r z (inl j) = (a, j.1)
joins_second c (Some a) (Some b) r z (inr j) = (_, j.1)

chain_gives : (X : Exit → Option Exp → Type 0) (c : Part → Exp) (ch : Chain) (r : Option Exp) (e : Exit) → IsChain X c ch r → InChain ch e → ((q : Option Exp) → X e q → Gives q) → Gives r
chain_gives X c (Leave d) r e k i gives = gives r (subst (λ (d : Exit). X d r) i k)
chain_gives X c (Test t d rest) r e k (inl i) gives = joins_first (c t) k.0 k.1 r (gives k.0 (subst (λ (d : Exit). X d k.0) i k.2)) k.4
chain_gives X c (Test t d rest) r e k (inr i) gives = joins_second (c t) k.0 k.1 r (chain_gives X c rest k.1 e k.3 i gives) k.4

module _ (f : Flow) (v : Values) (eqs : AreEquations f v) where
  pub exit_gives : (R : List ℕ) (t : Target) (s : ℕ) (F : List ℕ) (b : ℕ) (e : Exit) (p : Place) → f.around b ≡ F ++ R → InChain (f.chain b) e → Seen f R F e.dest p
      → ((r : Option Exp) → AtPlace f v R t s F b e p r → Gives r) → Gives (v.tree R t s F b)
  exit_gives R t s F b e p a i seen gives = pick (eqs.trees R t s F b a)
    where
      pick : IsTree f v R t s F b (v.tree R t s F b) → Gives (v.tree R t s F b)
      pick (inl z) = (never_exp, z.2)
      pick (inr z) = chain_gives (IsExit f v R t s F b) (λ c. outs v F (put (v.value b) c)) (f.chain b) (v.tree R t s F b) e z.1 i
          (λ r o. gives r (subst (λ (p : Place). AtPlace f v R t s F b e p r) (seen_once f R F e.dest o.0 p o.1 seen) o.2))

  on_gives : (R : List ℕ) (t : Target) (s : ℕ) (F : List ℕ) (b : ℕ) (e : Exit) (G : List ℕ) (m : ℕ) → Gives (v.tree R t s G m) → (r : Option Exp) → AtPlace f v R t s F b e (On G m) r → Gives r
  on_gives R (Node k) s F b e G m o r (inl h) = (_, h.2)
  on_gives R (Node k) s F b e G m o r (inr h) = (o.0, h.1 ∙ o.1)
  on_gives R Back s F b e G m o r h = (o.0, h ∙ o.1)
  on_gives R Finish s F b e G m o r h = (o.0, h ∙ o.1)
  on_gives R Returning s F b e G m o r h = (o.0, h ∙ o.1)
  on_gives R Leaving s F b e G m o r h = (o.0, h ∙ o.1)

  -- at the beginning of a walk where there is something at its end
  pub walk_gives : (R : List ℕ) (t : Target) (s : ℕ) (F : List ℕ) (b : ℕ) (H : List ℕ) (n : ℕ) → Walk f R F b H n → f.around b ≡ F ++ R → Gives (v.tree R t s H n) → Gives (v.tree R t s F b)
  walk_gives R t s F b H n (stop K o) a z = z
  walk_gives R t s F b H n (go K o e G m L q i seen rest) a z =
      exit_gives R t s K o e (On G m) a i seen (on_gives R t s K o e G m (walk_gives R t s G m L q rest (seen_to f R K e.dest G m seen).1 z))

  at_node : (R : List ℕ) (s : ℕ) (F : List ℕ) (b : ℕ) (e : Exit) (G : List ℕ) (m : ℕ) → IsNode G m → (r : Option Exp) → AtPlace f v R (Node m) s F b e (On G m) r → Gives r
  at_node R s F b e G m node r (inl h) = (_, h.2)
  at_node R s F b e G m (inl g) r (inr h) = absurd (⊎_elim (λ z. z refl) (λ z. z.0 g) h.0)
  at_node R s F b e G m (inr g) r (inr h) = absurd (⊎_elim (λ z. z refl) (λ z. z.1 g) h.0)

  -- .. and where it comes to the node of the tree
  pub node_gives : (R : List ℕ) (s : ℕ) (F : List ℕ) (b : ℕ) (H : List ℕ) (n : ℕ) → Walks f R F b H n → IsNode H n → f.around b ≡ F ++ R → Gives (v.tree R (Node n) s F b)
  node_gives R s F b H n (e, G, m, i, seen, rest) node a = from G m H n rest node F b e a i seen
    where
      from : (G : List ℕ) (m : ℕ) (H : List ℕ) (n : ℕ) → Walk f R G m H n → IsNode H n → (F : List ℕ) (b : ℕ) (e : Exit) → f.around b ≡ F ++ R → InChain (f.chain b) e → Seen f R F e.dest (On G m) → Gives (v.tree R (Node n) s F b)
      from G m H n (stop K o) node F b e a i seen = exit_gives R (Node o) s F b e (On K o) a i seen (at_node R s F b e K o node)
      from G m H n (go K o d L q M p j next rest) node F b e a i seen =
          exit_gives R (Node p) s F b e (On K o) a i seen (on_gives R (Node p) s F b e K o (from L q M p rest node K o d (seen_to f R F e.dest K o seen).1 j next))

-- ---- blocks that runs come to

-- from the entry exits lead to the block
pub data Comes (f : Flow) : ℕ → Type 0 where
  begins : (b : ℕ) → b ≡ f.entry → Comes f b
  onward : (a b : ℕ) (e : Exit) → Comes f a → InChain (f.chain a) e → e.dest ≡ To b → Comes f b

-- an exit to b from a block of lower rank
pub record Before (f : Flow) (rank : ℕ → ℕ) (b : ℕ) : Type 0 where
  pub block : ℕ
  pub exit : Exit
  pub comes : Comes f block
  pub within : InChain (f.chain block) exit
  pub goes : exit.dest ≡ To b
  pub lower : rank block < rank b

-- a list of headers is empty, or those around a header
abbrev pub IsRegion : Flow → List ℕ → Type 0
IsRegion f [] = Unit {0}
IsRegion f (h ∷ B) = f.around h ≡ h ∷ B

nothing : {P : Type 0} (G : List ℕ) (h : ℕ) (B : List ℕ) → [] ≡ G ++ h ∷ B → P
nothing [] h B e = absurd (cc)
nothing (g ∷ G) h B e = absurd (cc)

walks_on : (f : Flow) (R F : List ℕ) (b : ℕ) (G : List ℕ) (m : ℕ) (H : List ℕ) (n : ℕ) (e : Exit) → Walks f R F b G m → InChain (f.chain m) e → Seen f R G e.dest (On H n) → Walks f R F b H n
walks_on f R F b G m H n e (d, K, o, i, seen, rest) j next = (d, K, o, i, seen, walk_then f R K o G m H n rest (go G m e H n H n j next (stop H n)))

module _ (f : Flow) (rank : ℕ → ℕ) (shape : Shape f rank) where
  pub region_of : (R H : List ℕ) (n : ℕ) → f.around n ≡ H ++ R → IsRegion f R
  region_of [] H n is = tt
  region_of (h ∷ B) H n is = (shape.headers n h H B is).0

  first_around : (R : List ℕ) → IsRegion f R → f.around (first_of_region f R) ≡ first_loops f R ++ R
  first_around [] region = sym (append-nil (f.around f.entry))
  first_around (h ∷ B) region = region

  -- the entry is in no loop but its own
  entry_first : (C : List ℕ) (h : ℕ) (B : List ℕ) → f.around f.entry ≡ C ++ h ∷ B → h ≡ f.entry
  entry_first C h B is = elim shape.first [
    | inl none ↦ nothing C h B (sym none ∙ is)
    | inr own ↦ one C (sym own ∙ is)
  ]
    where
      one : (C : List ℕ) → f.entry ∷ [] ≡ C ++ h ∷ B → h ≡ f.entry
      one [] e = cc
      one (c ∷ C) e = nothing C h B (let q : [] ≡ C ++ h ∷ B = cc in q)

  -- a way into a loop enters it at its header
  enters : (h : ℕ) (B : List ℕ) → h ≢ f.entry → (a : ℕ) → Comes f a → (C : List ℕ) → f.around a ≡ C ++ h ∷ B → Before f rank h
  enters h B other _ (begins a e) C is = absurd (other (entry_first C h B (ap f.around (sym e) ∙ is)))
  enters h B other _ (onward a b e comes i t) C is = step (λ D within. enters h B other a comes D within) (shape.edges a b e i t)
    where
      longer : (K D X : List ℕ) → f.around a ≡ K ++ D → D ≡ X ++ h ∷ B → f.around a ≡ (K ++ X) ++ h ∷ B
      longer K D X z y = z ∙ ap (λ (A : List ℕ). K ++ A) y ∙ sym (append_assoc K X (h ∷ B))

      into : ((D : List ℕ) → f.around a ≡ D ++ h ∷ B → Before f rank h) → (K D : List ℕ) → f.around a ≡ K ++ D → rank a < rank b → (C : List ℕ) → b ∷ D ≡ C ++ h ∷ B → Before f rank h
      into rec K D z less [] y =
          let same : b ≡ h = cc in
          record { block = a; exit = e; comes = comes; within = i; goes = t ∙ ap To same; lower = subst (λ (n : ℕ). rank a < rank n) same less }
      into rec K D z less (c ∷ C) y = rec (K ++ C) (longer K D C z (let q : D ≡ C ++ h ∷ B = cc in q))

      step : ((D : List ℕ) → f.around a ≡ D ++ h ∷ B → Before f rank h) → Edge f rank a b → Before f rank h
      step rec (K, D, z, inl q) = rec (K ++ C) (longer K D C z (sym q.0 ∙ is))
      step rec (K, D, z, inr (less, ne, inl q)) = rec (K ++ C) (longer K D C z (sym q.0 ∙ is))
      step rec (K, D, z, inr (less, ne, inr q)) = into rec K D z less C (sym q ∙ is)

  -- each block but the entry is come to from one of lower rank
  pub before : (b : ℕ) → Comes f b → b ≢ f.entry → Before f rank b
  before _ (begins b e) other = absurd (other e)
  before _ (onward a b e comes i t) other = step (shape.edges a b e i t)
    where
      step : Edge f rank a b → Before f rank b
      step (K, D, z, inl q) = enters b q.1.0 other a comes K (z ∙ ap (λ (A : List ℕ). K ++ A) q.1.1)
      step (K, D, z, inr q) = record { block = a; exit = e; comes = comes; within = i; goes = t; lower = q.0 }

  -- ---- .. inside a region

  not_entry : (R H : List ℕ) (n : ℕ) → n ≢ first_of_region f R → f.around n ≡ H ++ R → n ≢ f.entry
  not_entry [] H n other is = other
  not_entry (h ∷ B) H n other is = λ e. other (e ∙ sym (entry_first H h B (ap f.around (sym e) ∙ is)))

  -- an edge to a block of the region but the first comes from the region
  from_region : (R H : List ℕ) (a b : ℕ) → b ≢ first_of_region f R → f.around b ≡ H ++ R → Edge f rank a b → (F : List ℕ) × (f.around a ≡ F ++ R)
  from_region R H a b other is (K, D, z, inl q) = (K ++ H, z ∙ ap (λ (A : List ℕ). K ++ A) (sym q.0 ∙ is) ∙ sym (append_assoc K H R))
  from_region R H a b other is (K, D, z, inr (less, ne, inl q)) = (K ++ H, z ∙ ap (λ (A : List ℕ). K ++ A) (sym q.0 ∙ is) ∙ sym (append_assoc K H R))
  from_region R H a b other is (K, D, z, inr (less, ne, inr q)) = inner R H other (sym q ∙ is)
    where
      inner : (R H : List ℕ) → b ≢ first_of_region f R → b ∷ D ≡ H ++ R → (F : List ℕ) × (f.around a ≡ F ++ R)
      inner [] [] other y = absurd (cc)
      inner (r ∷ R) [] other y = absurd (other (let q : b ≡ r = cc in q))
      inner R (c ∷ H) other y = (K ++ H, z ∙ ap (λ (A : List ℕ). K ++ A) (let q : D ≡ H ++ R = cc in q) ∙ sym (append_assoc K H R))

  seen_on : (R F H : List ℕ) (a b : ℕ) (e : Exit) → f.around a ≡ F ++ R → InChain (f.chain a) e → e.dest ≡ To b → rank a < rank b → b ≢ first_of_region f R → f.around b ≡ H ++ R → Seen f R F e.dest (On H b)
  seen_on R F H a b e within i t less other is = subst (λ (d : Dest). Seen f R F d (On H b)) (sym t) (kind (move f rank shape R F a b e within i t))
    where
      kind : Goes f rank R F a b → Seen f R F (To b) (On H b)
      kind (On G k, s, q) =
          let z = seen_to f R F (To b) G k s in
          let same : G ≡ H = append_cancel_right G H R (sym z.1 ∙ ap f.around q.0 ∙ is) in
          subst₂ (λ (G : List ℕ) (k : ℕ). Seen f R F (To b) (On G k)) same q.0 s
      kind (Again, s, q) =
          let z : f.around a ≡ q.0 ++ b ∷ (q.1 ++ R) = within ∙ ap (λ (K : List ℕ). K ++ R) q.2 ∙ append_assoc q.0 (b ∷ q.1) R in
          let le = (shape.headers a b q.0 (q.1 ++ R) z).1 in
          absurd (omega (arith, le, less))
      kind (Header, s, q) = absurd (other (sym (ap (first_of_region f) q.0.1)))
      kind (Gone, s, q) = absurd (q H is)
      kind (Ended k, s, q) = absurd q

  -- a walk from the first block of the region comes to each other one
  walks_from : (N : ℕ) (R H : List ℕ) (n : ℕ) → rank n < N → Comes f n → n ≢ first_of_region f R → f.around n ≡ H ++ R → Walks f R (first_loops f R) (first_of_region f R) H n
  walks_from zero R H n low comes other is = absurd (omega arith)
  walks_from (suc N) R H n low comes other is = elim (cases_eq q.block (first_of_region f R)) [
    | inl e ↦ (q.exit, H, n, subst (λ (a : ℕ). InChain (f.chain a) q.exit) e q.within, subst (λ (F : List ℕ). Seen f R F q.exit.dest (On H n)) (loops e) next, stop H n)
    | inr away ↦ walks_on f R (first_loops f R) (first_of_region f R) r.0 q.block H n q.exit (walks_from N R r.0 q.block (let lt = q.lower in omega arith) q.comes away r.1) q.within next
  ]
    where
      q : Before f rank n
      q = before n comes (not_entry R H n other is)

      r : (F : List ℕ) × (f.around q.block ≡ F ++ R)
      r = from_region R H q.block n other is (shape.edges q.block n q.exit q.within q.goes)

      next : Seen f R r.0 q.exit.dest (On H n)
      next = seen_on R r.0 H q.block n q.exit r.1 q.within q.goes q.lower other is

      loops : q.block ≡ first_of_region f R → r.0 ≡ first_loops f R
      loops e = append_cancel_right r.0 (first_loops f R) R (sym r.1 ∙ ap f.around e ∙ first_around R (region_of R H n is))

  module _ (v : Values) (eqs : AreEquations f v) where
    -- the tree for a node of a region but its first block
    region_gives : (R H : List ℕ) (n s : ℕ) → Comes f n → n ≢ first_of_region f R → f.around n ≡ H ++ R → IsNode H n → Gives (tree_of f v R (Node n) s)
    region_gives R H n s comes other is node =
        node_gives f v eqs R s (first_loops f R) (first_of_region f R) H n (walks_from (suc (rank n)) R H n (omega arith) comes other is) node (first_around R (region_of R H n is))

    -- a walk from a header comes back to it
    loop_gives : (t : Target) (s h : ℕ) (B : List ℕ) → f.around h ≡ h ∷ B
        → ((H : List ℕ) (n : ℕ) (e : Exit) (r : Option Exp) → AtPlace f v (h ∷ B) t s H n e Header r → Gives r) → Gives (tree_of f v (h ∷ B) t s)
    loop_gives t s h B is gives =
        let w = header_back f rank shape h B is in
        walk_gives f v eqs (h ∷ B) t s [] h w.0 w.1 w.3 is
        (exit_gives f v eqs (h ∷ B) t s w.0 w.1 w.2 Header (walk_around f rank shape (h ∷ B) [] h w.0 w.1 w.3 is) w.4 w.5 (gives w.0 w.1 w.2))

-- what a tree gives is the expression that is given by it
given_is : (r : Option Exp) (a : Exp) → Gives r → Given r a → r ≡ Some a
given_is r a some given = some.1 ∙ ap Some (sym (given ∙ ap (λ (q : Option Exp). or_else q never_exp) some.1))

-- ---- methods

module _ (p : Program) (frames : List (Option Frame)) (blocks : List Block) (forest : Forest) (is : IsRoutine p frames blocks forest) where
  abbrev pub f : Flow
  f = flow_of p frames blocks forest

  pub ranked : IsRanked f (length blocks)
  ranked = method_ranked is.file is.method p frames blocks forest is.shaped

  pub chains : (n : ℕ) (b : Block) → slice_get blocks n ≡ Some b → (c : Chain) × (place_chain p frames b ≡ Some c)
  chains = typed_chain p frames is.shaped.well_typed (program_clean is.file is.method p is.shaped.program) blocks is.shaped.flow

  comes_from : (n : ℕ) → FromEntry (edges_of blocks) n → Comes f n
  comes_from _ entry = begins 0 refl
  comes_from _ (along m n from edge) = let x = edge_exit p frames blocks is.shaped.flow chains m n edge in onward m n x.0 (comes_from m from) x.1 x.2

  -- runs come to each block
  pub comes : (n : ℕ) → n < length blocks → Comes f n
  comes n low = comes_from n (edges_reach p blocks is.shaped.flow n low)

  module _ (v : Values) (eqs : AreEquations f v) where
    -- THE TREE FOR A BLOCK GIVES ITS SLOT
    pub value_tree : (b s : ℕ) (R : List ℕ) → b < length blocks → b ≢ 0 → f.around b ≡ R → (Heads R b → ⊥) → tree_of f v R (Node b) s ≡ Some (v.value b s)
    value_tree b s R low other around none =
        given_is (tree_of f v R (Node b) s) (v.value b s) (region_gives f ranked.rank ranked.shape v eqs R [] b s (comes b low) (away R none) around (inl refl))
        (subst (λ (A : List ℕ). Given (tree_of f v A (Node b) s) (v.value b s)) around (eqs.blocks b s (λ heads. none (subst (λ (A : List ℕ). Heads A b) around heads)) other))
      where
        away : (R : List ℕ) → (Heads R b → ⊥) → b ≢ first_of_region f R
        away [] none = other
        away (h ∷ B) none = λ e. none (B, ap (λ (k : ℕ). k ∷ B) (sym e))

    -- .. that for a header the slot where its loop is entered
    pub entering_tree : (h s : ℕ) (B : List ℕ) → h < length blocks → h ≢ 0 → f.around h ≡ h ∷ B → tree_of f v B (Node h) s ≡ Some (v.entering h s)
    entering_tree h s B low other around =
        given_is (tree_of f v B (Node h) s) (v.entering h s) (region_gives f ranked.rank ranked.shape v eqs B (h ∷ []) h s (comes h low) (away B around) around (inr refl)) (eqs.entries h s B around other)
      where
        away : (B : List ℕ) → f.around h ≡ h ∷ B → h ≢ first_of_region f B
        away [] around = other
        away (k ∷ B) around = λ e.
            let outer : f.around k ≡ k ∷ B = (ranked.shape.headers h k (h ∷ []) B around).0 in
            let same : length (h ∷ k ∷ B) ≡ length (k ∷ B) = ap length (sym around ∙ ap f.around e ∙ outer) in
            absurd (omega arith)

    -- .. where it begins again
    pub again_tree : (h s : ℕ) (B : List ℕ) → f.around h ≡ h ∷ B → tree_of f v (h ∷ B) Back s ≡ Some (v.again h s)
    again_tree h s B around = given_is (tree_of f v (h ∷ B) Back s) (v.again h s) (loop_gives f ranked.rank ranked.shape v eqs Back s h B around (λ H n e r at. (_, at))) (eqs.agains h s B around)

    -- .. and whether it is left
    pub ending_tree : (h : ℕ) (B : List ℕ) → f.around h ≡ h ∷ B → tree_of f v (h ∷ B) Leaving 0 ≡ Some (v.ending h)
    ending_tree h B around = given_is (tree_of f v (h ∷ B) Leaving 0) (v.ending h) (loop_gives f ranked.rank ranked.shape v eqs Leaving 0 h B around (λ H n e r at. (_, at))) (eqs.endings h B around)
