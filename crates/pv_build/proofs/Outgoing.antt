-- What is taken out of loops, as the graph is made.
use Rattle.std.proofs.Common.{◌≡◌, ◌≢◌, ℕ, zero, suc, ◌+◌, ◌<◌, Bool, true, false, List, [], ◌∷◌, ◌++◌, length, get_or, drop, Option, Some, None, slice_get, inl, inr, ⊎_elim, refl, sym, ap, ◌∙◌, subst, arith, ◌==◌, if◌then◌else◌}
use Rattle.pv_build.proofs.Words.{AllZip, AllByRecursion, drop-cons, slice_get-get_or, same_Some, Sort, Frame, Program, some_of, Op, Graph, Exp, Flow, Values, token_out, Named, Reads, IsFlatOrOut, GrowsBy, IsOfSort, KeepsSort, ReadsOut, ReadsTokenOut, depths, IsTiedName, Making, names_stand, grows_wider, by_turns, Cell, State, Ending, Leaving, Goes, Returns, Throws, op_sort, IsSortedCell, AreSorted, known_by, node_of_cell, local_node, stack_node, slot_of, ending_slot, IsCellOf, FitsSort, FitsFrame, IsSortedExit, Closed, IsBeyond, GrowsIn, out_slots, IsLeft, AreLeft, IsSortedLoop, AreSortedLoops, ReadsOutOf, ReadsOutOfAll, ReadsValueOut, ReadsNodeOut, IsNodeOut, IsTokenOut, IsCellOut, AreCellsOut, IsSortedState, IsStateOut, IsEndOut}
use Rattle.pv_frame.specs.declared.sort.Sort.TheVariants as sort
use Rattle.pv_graph.specs.declared.node.OpSort.TheVariants as sorts
use Rattle.pv_build.proofs.Persisting.{Persists, grown, reads_on, tied_on}
use Rattle.pv_layout.proofs.Cited.{each_push, zip_long, zip_map, all_map}

-- ---- lists

pub zip_pairs : {A B : Type 0} → (Q : A → B → Type 0) (xs : List A) (ys : List B) → length ys ≡ length xs → ((i : ℕ) (x : A) (y : B) → slice_get xs i ≡ Some x → slice_get ys i ≡ Some y → Q x y) → AllZip Q xs ys
zip_pairs Q [] [] l each = tt
zip_pairs Q [] (y ∷ ys) l each = absurd (omega arith)
zip_pairs Q (x ∷ xs) [] l each = absurd (omega arith)
zip_pairs Q (x ∷ xs) (y ∷ ys) l each = (each 0 x y refl refl, zip_pairs Q xs ys (omega arith) (λ i a b p q. each (suc i) a b p q))

-- through a list between
zip_through : {A B C : Type 0} → (P : A → B → Type 0) (Q : A → C → Type 0) (S : B → C → Type 0) → ((a : A) (b : B) (c : C) → P a b → Q a c → S b c) → (xs : List A) (ys : List B) (zs : List C) → AllZip P xs ys → AllZip Q xs zs → AllZip S ys zs
zip_through P Q S f [] [] [] p q = tt
zip_through P Q S f [] [] (z ∷ zs) p q = absurd q
zip_through P Q S f [] (y ∷ ys) zs p q = absurd p
zip_through P Q S f (x ∷ xs) [] zs p q = absurd p
zip_through P Q S f (x ∷ xs) (y ∷ ys) [] p q = absurd q
zip_through P Q S f (x ∷ xs) (y ∷ ys) (z ∷ zs) p q = (f x y z p.0 q.0, zip_through P Q S f xs ys zs p.1 q.1)

zip_all : {A B : Type 0} → (P : A → B → Type 0) (Q : A → Type 0) → ((a : A) (b : B) → P a b → Q a) → (xs : List A) (ys : List B) → AllZip P xs ys → AllByRecursion Q xs
zip_all P Q f [] [] all = tt
zip_all P Q f [] (y ∷ ys) all = absurd all
zip_all P Q f (x ∷ xs) [] all = absurd all
zip_all P Q f (x ∷ xs) (y ∷ ys) all = (f x y all.0, zip_all P Q f xs ys all.1)

pub all_get : {A : Type 0} → (P : A → Type 0) (xs : List A) (i : ℕ) (x : A) → AllByRecursion P xs → slice_get xs i ≡ Some x → P x
all_get P [] i x all e = absurd (cc)
all_get P (y ∷ xs) zero x all e = subst P (some_of y x e) all.0
all_get P (y ∷ xs) (suc i) x all e = all_get P xs i x all.1 e

-- ---- as the graph grows

module _ (P : Op → Type 0) (old new : Graph) (grows : GrowsBy P old new) where
  p : Persists old new
  p = grown P old new grows

  pub reads_grown : (names : List Named) (n : ℕ) (e : Exp) → Reads old.nodes names n e → Reads new.nodes names n e
  reads_grown names n e r = reads_on old new p names names (λ h s n i. i) n e r

  tied_grown : (f : Flow) (v : Values) (names : List Named) (h s n : ℕ) → IsTiedName f v old.nodes names h s n → IsTiedName f v new.nodes names h s n
  tied_grown f v names h s n is = tied_on old new p names names (λ k r j i. i) f v h s n (grows.extends.nodes n) is

  pub making_grown : (f : Flow) (v : Values) (names : List Named) (d : ℕ) → Making f v old.nodes names d → Making f v new.nodes names d
  making_grown f v names d m = record {
    rank = m.rank;
    top = m.top;
    shape = m.shape;
    ranks = m.ranks;
    equations = m.equations;
    are_names = names_stand (depths f) old.nodes new.nodes names p.stand m.are_names;
    tied = record {
      each = λ h s n i. ⊎_elim (λ open_. inl (grows.extends.nodes n _ open_)) (λ tied. inr (tied_grown f v names h s n tied)) (m.tied.each h s n i);
      deeper = λ h s n i deep. tied_grown f v names h s n (m.tied.deeper h s n i deep);
    };
  }

  pub left_grown : (f : Flow) (v : Values) (names : List Named) (h : ℕ) (c : Closed) → IsLeft f v old.nodes names h c → IsLeft f v new.nodes names h c
  left_grown f v names h c l = record {
    outer = l.outer;
    around_ = l.around_;
    depth = l.depth;
    making = making_grown f v names c.depth l.making;
    enters = reads_grown names c.token _ l.enters;
    ends = reads_grown names c.ending _ l.ends;
  }

  pub lefts_grown : (f : Flow) (v : Values) (names : List Named) (F : List ℕ) (left : List Closed) → AreLeft f v old.nodes names F left → AreLeft f v new.nodes names F left
  lefts_grown f v names F left all = zip_map (IsLeft f v old.nodes names) (IsLeft f v new.nodes names) (left_grown f v names) F left all

  pub loop_grown : (c : Closed) → IsSortedLoop old c → IsSortedLoop new c
  loop_grown c is = record { depth = is.depth; token = grows.extends.sorts c.token _ is.token; ending = grows.extends.sorts c.ending _ is.ending }

  pub loops_grown : (left : List Closed) → AreSortedLoops old left → AreSortedLoops new left
  loops_grown left all = all_map (IsSortedLoop old) (IsSortedLoop new) loop_grown left all

  pub sorted_grown : (cells : List Cell) → AreSorted old cells → AreSorted new cells
  sorted_grown cells all = all_map (IsSortedCell old) (IsSortedCell new) (λ x at. grows.extends.sorts x.node _ at) cells all

  -- what was taken out is so later on
  module _ (first : Graph) (c : Closed) where
    pub node_later : (n r : ℕ) → IsNodeOut first c n old r → IsNodeOut first c n new r
    node_later n r o = record { reads = λ f v names h e l at. reads_grown names r _ (o.reads f v names h e l at); sort = λ s at. grows.extends.sorts r s (o.sort s at) }

    pub token_later : (n r : ℕ) → IsTokenOut first c n old r → IsTokenOut first c n new r
    token_later n r o = record { reads = λ f v names h e l at. reads_grown names r _ (o.reads f v names h e l at); sort = grows.extends.sorts r sorts.T o.sort }

    pub cell_later : (x y : Cell) → IsCellOut first c old x y → IsCellOut first c new x y
    cell_later x y o = record {
      sort = o.sort;
      keeps = λ s at. grows.extends.sorts y.node s (o.keeps s at);
      reads = λ known f v names h e l at. reads_grown names y.node _ (o.reads known f v names h e l at);
    }

    pub cells_later : (xs ys : List Cell) → AreCellsOut first c xs old ys → AreCellsOut first c xs new ys
    cells_later xs ys all = zip_map (IsCellOut first c old) (IsCellOut first c new) cell_later xs ys all

  -- and what is taken out later on was there before
  module _ (c : Closed) (last : Graph) where
    pub node_sooner : (n r : ℕ) → IsNodeOut new c n last r → IsNodeOut old c n last r
    node_sooner n r o = record { reads = λ f v names h e l at. o.reads f v names h e (left_grown f v names h c l) (reads_grown names n e at); sort = λ s at. o.sort s (grows.extends.sorts n s at) }

    pub cell_sooner : (x y : Cell) → IsCellOut new c last x y → IsCellOut old c last x y
    cell_sooner x y o = record {
      sort = o.sort;
      keeps = λ s at. o.keeps s (grows.extends.sorts x.node s at);
      reads = λ known f v names h e l at. o.reads known f v names h e (left_grown f v names h c l) (reads_grown names x.node e at);
    }

    pub cells_sooner : (xs ys : List Cell) → AreCellsOut new c xs last ys → AreCellsOut old c xs last ys
    cells_sooner xs ys all = zip_map (IsCellOut new c last) (IsCellOut old c last) cell_sooner xs ys all

-- ---- a node, and a cell

pub node_out : (old : Graph) (c : Closed) (n : ℕ) (new : Graph) (r : ℕ) → ReadsOut old c.depth c.ending n new r → KeepsSort old n new r → IsNodeOut old c n new r
node_out old c n new r reads sort = record { reads = λ f v names h e l at. reads f v names h l.outer e l.around_ l.depth l.making l.ends at; sort = sort }

pub token_node_out : (old : Graph) (c : Closed) (n : ℕ) (new : Graph) (r : ℕ) → ReadsTokenOut old c.depth c.token c.ending n new r → IsOfSort new r sorts.T → IsTokenOut old c n new r
token_node_out old c n new r reads sort = record { reads = λ f v names h e l at. reads f v names h e l.depth l.making.are_names l.enters l.ends at; sort = sort }

-- no value that is held is a root
pub unknown_out : (g : Graph) (c : Closed) (x : Cell) → x.sort ≡ sort.Unknown → IsCellOut g c g x x
unknown_out g c x is = record { sort = refl; keeps = λ s at. at; reads = λ known. absurd (known is) }

pub cell_out_of : (old : Graph) (c : Closed) (new : Graph) (x y : Cell) → y.sort ≡ x.sort → IsNodeOut old c x.node new y.node → IsCellOut old c new x y
cell_out_of old c new x y same o = record { sort = same; keeps = o.sort; reads = λ known. o.reads }

-- one more cell
pub cells_push : (first old new : Graph) (c : Closed) (cells ys : List Cell) (k : ℕ) (d y : Cell) → GrowsBy (IsFlatOrOut c.depth) first old → GrowsBy (IsFlatOrOut c.depth) old new → length ys ≡ k → k < length cells → IsCellOut old c new (get_or cells k d) y
    → ((i : ℕ) (x z : Cell) → slice_get cells i ≡ Some x → slice_get ys i ≡ Some z → IsCellOut first c old x z) → (i : ℕ) (x z : Cell) → slice_get cells i ≡ Some x → slice_get (ys ++ y ∷ []) i ≡ Some z → IsCellOut first c new x z
cells_push first old new c cells ys k d y before grows count low one each i x z at is =
    each_push (λ (i : ℕ) (z : Cell). (x : Cell) → slice_get cells i ≡ Some x → IsCellOut first c old x z) (λ (i : ℕ) (z : Cell). (x : Cell) → slice_get cells i ≡ Some x → IsCellOut first c new x z) ys y k count
    (λ i z all x at. cell_later (IsFlatOrOut c.depth) old new grows first c x z (all x at))
    (λ i z is x at. each i x z at is)
    (λ x at. subst (λ (w : Cell). IsCellOut first c new w y) (same_Some (get_or cells k d) x (sym (slice_get-get_or cells k d low) ∙ at)) (cell_sooner (IsFlatOrOut c.depth) first old before c new (get_or cells k d) y one))
    i z is x at

-- ---- sorts

-- a cell that is taken out has the sort that it had
cell_sort_kept : (old : Graph) (c : Closed) (new : Graph) (x y : Cell) → IsCellOut old c new x y → IsSortedCell old x → IsSortedCell new y
cell_sort_kept old c new x y o at = subst (λ (t : Sort). IsOfSort new y.node (op_sort t)) (sym o.sort) (o.keeps (op_sort x.sort) at)

cell_of_out : (old : Graph) (c : Closed) (new : Graph) (x y : Cell) (t : Sort) → IsCellOut old c new x y → IsCellOf old x t → IsCellOf new y t
cell_of_out old c new x y t o is = (o.sort ∙ is.0, cell_sort_kept old c new x y o is.1)

fits_out : (old : Graph) (c : Closed) (new : Graph) (x y : Cell) (t : Sort) → IsCellOut old c new x y → FitsSort old x t → FitsSort new y t
fits_out old c new x y t o (inl same, at) = (inl (o.sort ∙ same), cell_sort_kept old c new x y o at)
fits_out old c new x y t o (inr un, at) = (inr un, cell_sort_kept old c new x y o at)

-- what fits a frame has its sorts
pub state_sorted : (g : Graph) (s : State) (f : Frame) → FitsFrame g s f → IsSortedState g s
state_sorted g s f fits = record {
  token = fits.token;
  heap = fits.heap;
  locals = zip_all (FitsSort g) (IsSortedCell g) (λ x t is. is.1) s.locals f.locals fits.locals;
  stack = zip_all (IsCellOf g) (IsSortedCell g) (λ x t is. is.1) s.stack f.stack fits.stack;
}

pub goes_sorted : (g : Graph) (p : Program) (frames : List (Option Frame)) (place : ℕ) (s : State) → IsSortedExit g p frames (Goes place s) → IsSortedState g s
goes_sorted g p frames place s (f, at, fits) = state_sorted g s f fits

module _ (old : Graph) (c : Closed) (new : Graph) where
  fits_frame : (x y : State) (f : Frame) → IsStateOut old c x new y → FitsFrame old x f → FitsFrame new y f
  fits_frame x y f o fits = record {
    stack = zip_through (IsCellOut old c new) (IsCellOf old) (IsCellOf new) (cell_of_out old c new) x.stack y.stack f.stack o.stack fits.stack;
    locals = zip_through (IsCellOut old c new) (FitsSort old) (FitsSort new) (fits_out old c new) x.locals y.locals f.locals o.locals fits.locals;
    heap = o.heap.sort sorts.H fits.heap;
    token = o.token.sort;
  }

  pub goes_sorted_out : (p : Program) (frames : List (Option Frame)) (place : ℕ) (x y : State) → IsStateOut old c x new y → IsSortedExit old p frames (Goes place x) → IsSortedExit new p frames (Goes place y)
  goes_sorted_out p frames place x y o (f, at, fits) = (f, at, fits_frame x y f o fits)

  -- ---- slot by slot

  -- the slot b is the slot a, taken out
  abbrev SlotOut : Option ℕ → Option ℕ → Type 0
  SlotOut a b = (n : ℕ) → b ≡ Some n → (m : ℕ) × (a ≡ Some m) × ReadsNodeOut old c m new n

  cell_slot : (x y : Cell) → IsCellOut old c new x y → SlotOut (node_of_cell x) (node_of_cell y)
  cell_slot x y o n e = go x.sort refl
    where
      same : (t : Sort) → x.sort ≡ t → known_by t y.node ≡ Some n
      same t is = ap (λ (t : Sort). known_by t y.node) (sym is ∙ sym o.sort) ∙ e

      known : (t : Sort) → x.sort ≡ t → t ≢ sort.Unknown → y.node ≡ n → known_by t x.node ≡ Some x.node → (m : ℕ) × (node_of_cell x ≡ Some m) × ReadsNodeOut old c m new n
      known t is ne at has = (x.node, ap (λ (t : Sort). known_by t x.node) is ∙ has, subst (ReadsNodeOut old c x.node new) at (o.reads (λ un. ne (sym is ∙ un))))

      go : (t : Sort) → x.sort ≡ t → (m : ℕ) × (node_of_cell x ≡ Some m) × ReadsNodeOut old c m new n
      go sort.Int is = known sort.Int is (λ un. absurd (cc)) (some_of y.node n (same sort.Int is)) refl
      go sort.Long is = known sort.Long is (λ un. absurd (cc)) (some_of y.node n (same sort.Long is)) refl
      go sort.Ref is = known sort.Ref is (λ un. absurd (cc)) (some_of y.node n (same sort.Ref is)) refl
      go sort.Unknown is = absurd (let z : None ≡ Some n = same sort.Unknown is in cc)

  local_out : (xs ys : List Cell) → AreCellsOut old c xs new ys → (k : ℕ) → SlotOut (local_node xs k) (local_node ys k)
  local_out [] [] all k n e = absurd (cc)
  local_out [] (y ∷ ys) all k n e = absurd all
  local_out (x ∷ xs) [] all k n e = absurd all
  local_out (x ∷ xs) (y ∷ ys) all zero n e = cell_slot x y all.0 n e
  local_out (x ∷ xs) (y ∷ ys) all (suc k) n e = local_out xs ys all.1 k n e

  stack_out : (xs ys : List Cell) → AreCellsOut old c xs new ys → (j : ℕ) → SlotOut (stack_node xs j) (stack_node ys j)
  stack_out [] [] all j n e = absurd (cc)
  stack_out [] (y ∷ ys) all j n e = absurd all
  stack_out (x ∷ xs) [] all j n e = absurd all
  stack_out (x ∷ xs) (y ∷ ys) all j n e =
      let long : length ys ≡ length xs = sym (zip_long (IsCellOut old c new) xs ys all.1) in
      let z : SlotOut (if j == length xs then node_of_cell x else stack_node xs j) (if j == length ys then node_of_cell y else stack_node ys j) =
      subst (λ (k : ℕ). SlotOut (if j == length xs then node_of_cell x else stack_node xs j) (if j == k then node_of_cell y else stack_node ys j)) (sym long)
      (pick (j == length xs) (node_of_cell x) (stack_node xs j) (node_of_cell y) (stack_node ys j) (cell_slot x y all.0) (stack_out xs ys all.1 j)) in
      z n e
    where
      pick : (t : Bool) (a b : Option ℕ) (d e : Option ℕ) → SlotOut a d → SlotOut b e → SlotOut (if t then a else b) (if t then d else e)
      pick true a b d e p q = p
      pick false a b d e p q = q

  token_slot : (f : Flow) (v : Values) (names : List Named) (h : ℕ) (slots : ℕ → Exp) → IsLeft f v old.nodes names h c → (n r m : ℕ) → IsTokenOut old c n new r → Reads old.nodes names n (slots 0) → Some r ≡ Some m → Reads new.nodes names m (out_slots v f h slots 0)
  token_slot f v names h slots left n r m o at e = subst (λ (k : ℕ). Reads new.nodes names k (token_out v f h (slots 0))) (some_of r m e) (o.reads f v names h (slots 0) left at)

  node_slot : (f : Flow) (v : Values) (names : List Named) (h : ℕ) (x : Exp) → IsLeft f v old.nodes names h c → (n r m : ℕ) → IsNodeOut old c n new r → Reads old.nodes names n x → Some r ≡ Some m → Reads new.nodes names m (v.out h x)
  node_slot f v names h x left n r m o at e = subst (λ (k : ℕ). Reads new.nodes names k (v.out h x)) (some_of r m e) (o.reads f v names h x left at)

  module _ (x y : State) (o : IsStateOut old c x new y) where
    other_slots : (s : ℕ) → SlotOut (by_turns (local_node x.locals) (stack_node x.stack) s) (by_turns (local_node y.locals) (stack_node y.stack) s)
    other_slots = two_turns (local_node x.locals) (stack_node x.stack) (local_node y.locals) (stack_node y.stack) (local_out x.locals y.locals o.locals) (stack_out x.stack y.stack o.stack)
      where
        two_turns : (l p k q : ℕ → Option ℕ) → ((i : ℕ) → SlotOut (l i) (k i)) → ((j : ℕ) → SlotOut (p j) (q j)) → (s : ℕ) → SlotOut (by_turns l p s) (by_turns k q s)
        two_turns l p k q a b zero = a 0
        two_turns l p k q a b (suc zero) = b 0
        two_turns l p k q a b (suc (suc s)) = two_turns (λ i. l (suc i)) (λ j. p (suc j)) (λ i. k (suc i)) (λ j. q (suc j)) (λ i. a (suc i)) (λ j. b (suc j)) s

    state_slots : (f : Flow) (v : Values) (names : List Named) (h : ℕ) (slots : ℕ → Exp) → IsLeft f v old.nodes names h c → ((s n : ℕ) → slot_of x s ≡ Some n → Reads old.nodes names n (slots s)) → (s n : ℕ) → slot_of y s ≡ Some n → Reads new.nodes names n (out_slots v f h slots s)
    state_slots f v names h slots left reads zero n e = token_slot f v names h slots left x.token y.token n o.token (reads 0 x.token refl) e
    state_slots f v names h slots left reads (suc zero) n e = absurd (cc)
    state_slots f v names h slots left reads (suc (suc zero)) n e = absurd (cc)
    state_slots f v names h slots left reads (suc (suc (suc zero))) n e = node_slot f v names h (slots 3) left x.heap y.heap n o.heap (reads 3 x.heap refl) e
    state_slots f v names h slots left reads (suc (suc (suc (suc s)))) n e =
        let z = other_slots s n e in
        z.2 f v names h (slots (suc (suc (suc (suc s))))) left (reads (suc (suc (suc (suc s)))) z.0 z.1)

    pub goes_out : (place : ℕ) → ReadsOutOf old c (Goes place x) new (Goes place y)
    goes_out place f v names h slots left reads s n e = state_slots f v names h slots left reads s n e

  module _ (x y : Ending) (o : IsEndOut old c x new y) where
    end_slots : (f : Flow) (v : Values) (names : List Named) (h : ℕ) (slots : ℕ → Exp) → IsLeft f v old.nodes names h c → ((s n : ℕ) → ending_slot x s ≡ Some n → Reads old.nodes names n (slots s)) → (s n : ℕ) → ending_slot y s ≡ Some n → Reads new.nodes names n (out_slots v f h slots s)
    end_slots f v names h slots left reads zero n e = token_slot f v names h slots left x.token y.token n o.token (reads 0 x.token refl) e
    end_slots f v names h slots left reads (suc zero) n e = node_slot f v names h (slots 1) left x.fault y.fault n o.fault (reads 1 x.fault refl) e
    end_slots f v names h slots left reads (suc (suc zero)) n e = node_slot f v names h (slots 2) left x.result y.result n o.result_is (reads 2 x.result refl) e
    end_slots f v names h slots left reads (suc (suc (suc zero))) n e = node_slot f v names h (slots 3) left x.heap y.heap n o.heap (reads 3 x.heap refl) e
    end_slots f v names h slots left reads (suc (suc (suc (suc s)))) n e = absurd (cc)

    pub returns_out : ReadsOutOf old c (Returns x) new (Returns y)
    returns_out f v names h slots left reads s n e = end_slots f v names h slots left reads s n e

    pub throws_out : ReadsOutOf old c (Throws x) new (Throws y)
    throws_out f v names h slots left reads s n e = end_slots f v names h slots left reads s n e

-- ---- loop after loop

-- what takes a value out of a loop is beyond each region outside the loop
pub out_beyond : (d c : ℕ) (o : Op) → d < c → IsFlatOrOut c o → IsBeyond d o
out_beyond d c o deep (inl flat) = inl flat
out_beyond d c o deep (inr is) = inr (c, deep, is)

pub grows_out : (d : ℕ) (c : Closed) (old new : Graph) → d < c.depth → GrowsBy (IsFlatOrOut c.depth) old new → GrowsIn d old new
grows_out d c old new deep grows = grows_wider (IsFlatOrOut c.depth) (IsBeyond d) old new (λ o is. out_beyond d c.depth o deep is) grows

pub none_left : (g : Graph) (x : Leaving) → ReadsOutOfAll g [] x g x
none_left g x f v names [] slots all reads s n e = reads s n e
none_left g x f v names (h ∷ F) slots all reads s n e = absurd all

-- one more loop, before the others
pub more_left : (old mid new : Graph) (c : Closed) (left : List Closed) (x y z : Leaving) → GrowsBy (IsFlatOrOut c.depth) old mid → ReadsOutOf old c x mid y → ReadsOutOfAll mid left y new z → ReadsOutOfAll old (c ∷ left) x new z
more_left old mid new c left x y z grows one others f v names [] slots all reads s n e = absurd all
more_left old mid new c left x y z grows one others f v names (h ∷ F) slots all reads s n e =
    others f v names F (out_slots v f h slots) (lefts_grown (IsFlatOrOut c.depth) old mid grows f v names F left all.1) (one f v names h slots all.0 reads) s n e

pub no_value_left : (g : Graph) (n : ℕ) → ReadsValueOut g [] n g n
no_value_left g n f v names [] x all reads = reads
no_value_left g n f v names (h ∷ F) x all reads = absurd all

pub more_value_left : (old mid new : Graph) (c : Closed) (left : List Closed) (n r t : ℕ) → GrowsBy (IsFlatOrOut c.depth) old mid → IsNodeOut old c n mid r → ReadsValueOut mid left r new t → ReadsValueOut old (c ∷ left) n new t
more_value_left old mid new c left n r t grows one others f v names [] x all reads = absurd all
more_value_left old mid new c left n r t grows one others f v names (h ∷ F) x all reads =
    others f v names F (v.out h x) (lefts_grown (IsFlatOrOut c.depth) old mid grows f v names F left all.1) (one.reads f v names h x all.0 reads)

-- the rest of a list from place k on
pub rest_more : {A : Type 0} → (xs : List A) (k : ℕ) (d : A) → k < length xs → drop k xs ≡ get_or xs k d ∷ drop (k + 1) xs
rest_more xs k d low = drop-cons xs k d low ∙ ap (λ (n : ℕ). get_or xs k d ∷ drop n xs) (let e : suc k ≡ k + 1 = omega arith in e)
