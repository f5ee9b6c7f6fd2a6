-- What the loops of a method carry, from what its blocks write.
use Rattle.std.proofs.Common.{◌≡◌, ℕ, zero, suc, ◌+◌, ◌-◌, ◌<◌, ◌≤◌, Bool, true, false, List, [], ◌∷◌, ◌++◌, length, length-drop, length-take-le, get_or, get_or-drop, get_or-take, take, drop, replicate, Option, Some, slice_get, refl, sym, ap, ◌∙◌, subst, arith, if◌then◌else◌}
use Rattle.pv_layout.proofs.Words.{◌||◌, ◌==◌, not, nat_lt, option_map, unwrap_or, list_any, eqb-true, eq-eqb, lt-ltb, slice_get_within, slice_get-get_or, get_or_from_slice_get, Action, Program, Frame, IsFrameAt, some_of, no_some, Block, edges_of, edges_within, Loop, Forest, Region, EdgeOf, Whole, Way, edge, more, IsLoop, Edge, ◌>>=◌, local_slot, held_at, acted_along, writes_heap, writes_along, block_writes, always_carried, members_of, writes_in, program_clean, frame_long, turns_local, chained, Writes, Walk, IsRoutine, Marks, Knows, Acts, Walked, RunsThrough, AllRunThrough, IsWritten, AreWritten, AreBelow, Unites, IsCarried}
use Rattle.pv_list.proofs.Cited.{found}
use Rattle.pv_loops.specs.Loops.{Inside}
use Rattle.pv_loops.specs.Loops as loops
use Rattle.pv_layout.proofs.Lists.{each_push}
use Rattle.pv_layout.proofs.Uniting.{marks_as}
use Rattle.pv_layout.proofs.Writing.{along_before, walked_more, walked_none}

-- ---- blocks

-- in a method that isn't refused each block runs through
pub run_through : (p : Program) (frames : List (Option Frame)) (blocks : List Block) (forest : Forest) → IsRoutine p frames blocks forest → AllRunThrough p frames blocks
run_through p frames blocks forest is n b at =
    let c = chained p frames is.shaped.well_typed (program_clean is.file is.method p is.shaped.program) blocks is.shaped.flow n b at in
    record {
      frame = c.frame;
      there = c.there;
      long = frame_long p frames is.shaped.well_typed b.first c.frame c.there;
      some = (is.shaped.flow.each n b at).span.some;
      held = c.held;
      along = c.along_;
      action = c.action;
      at = c.at;
    }

-- the actions of a block, as a part of the list
span_length : (actions : List Action) (first last : ℕ) → first ≤ last → last < length actions → length (take (last + 1 - first) (drop first actions)) ≡ suc (last - first)
span_length actions first last le low =
    let room = length-drop first actions in
    length-take-le (last + 1 - first) (drop first actions) (omega (arith, room)) ∙ (let z : last + 1 - first ≡ suc (last - first) = omega arith in z)

span_at : (actions : List Action) (first last i : ℕ) (a d : Action) → first ≤ last → last < length actions → i ≤ last - first → a ≡ get_or (take (last + 1 - first) (drop first actions)) i d → slice_get actions (first + i) ≡ Some a
span_at actions first last i a d le low here e =
    slice_get-get_or actions (first + i) d (omega arith) ∙ ap Some (sym (e ∙ get_or-take (last + 1 - first) (drop first actions) i d (omega arith) ∙ get_or-drop first actions i d))

module _ (p : Program) (frames : List (Option Frame)) (b : Block) (r : RunsThrough p frames b) where
  one_frame : (f : Frame) → IsFrameAt frames b.first f → r.frame ≡ f
  one_frame f there = some_of r.frame f (some_of (Some r.frame) (Some f) (sym r.there ∙ there))

  low : b.last < length p.actions
  low = slice_get_within p.actions b.last r.action r.at

  -- the walk begins
  pub walk_begins : (found : List (Option Frame)) (f : Frame) (w : Walk) (d : Option Frame) → found ≡ frames → Some f ≡ get_or found b.first d → Knows (held_at f) w.wide.items → w.written.items ≡ replicate (length f.locals) false
      → (g : Frame) → IsFrameAt frames b.first g → Walked p (held_at g) b.first 0 false w
  walk_begins found f w d same e knows none g there =
      let here : f ≡ g = some_of f g (e ∙ ap (λ (fs : List (Option Frame)). get_or fs b.first d) same ∙ get_or_from_slice_get frames b.first (Some g) d there) in
      subst (λ (g : Frame). Walked p (held_at g) b.first 0 false w) here (walked_none p f b.first w (ap (λ (f : Frame). length f.locals) (sym (one_frame f (there ∙ ap (λ (f : Frame). Some (Some f)) (sym here)))) ∙ r.long) knows none)

  -- it goes on
  pub walk_goes_on : (actions : List Action) (i : ℕ) (a d : Action) (heap : Bool) (old new : Walk) → actions ≡ p.actions → i < length (take (b.last + 1 - b.first) (drop b.first actions)) → a ≡ get_or (take (b.last + 1 - b.first) (drop b.first actions)) i d
      → Acts a old new → (f : Frame) → IsFrameAt frames b.first f → Walked p (held_at f) b.first i heap old → Walked p (held_at f) b.first (i + 1) (heap || writes_heap a) new
  walk_goes_on actions i a d heap old new same within e acts f there walked =
      let here : i < suc (b.last - b.first) = subst (λ (n : ℕ). i < n) (ap (λ (xs : List Action). length (take (b.last + 1 - b.first) (drop b.first xs))) same ∙ span_length p.actions b.first b.last r.some low) within in
      let at = span_at p.actions b.first b.last i a d r.some low (omega arith) (e ∙ ap (λ (xs : List Action). get_or (take (b.last + 1 - b.first) (drop b.first xs)) i d) same) in
      let along : acted_along p (b.last - b.first) b.first (held_at f) ≡ Some r.held = ap (λ (f : Frame). acted_along p (b.last - b.first) b.first (held_at f)) (sym (one_frame f there)) ∙ r.along in
      let g = along_before p i (b.last - b.first) b.first (held_at f) r.held (omega arith) along in
      subst (λ (n : ℕ). Walked p (held_at f) b.first n (heap || writes_heap a) new) (let z : suc i ≡ i + 1 = omega arith in z)
      (walked_more p (held_at f) g.0 b.first i (b.first + i) a heap old new refl g.1 at acts walked)

  -- it has come over the whole block
  pub walk_ends : (actions : List Action) (i : ℕ) (heap : Bool) (w : Walk) → actions ≡ p.actions → i ≤ length (take (b.last + 1 - b.first) (drop b.first actions)) → length (take (b.last + 1 - b.first) (drop b.first actions)) ≤ i
      → ((f : Frame) → IsFrameAt frames b.first f → Walked p (held_at f) b.first i heap w) → IsWritten p frames b (record { heap = heap; locals = w.written })
  walk_ends actions i heap w same most all walked =
      let long : length (take (b.last + 1 - b.first) (drop b.first actions)) ≡ suc (b.last - b.first) = ap (λ (xs : List Action). length (take (b.last + 1 - b.first) (drop b.first xs))) same ∙ span_length p.actions b.first b.last r.some low in
      marks_as p.max_locals (writes_along p i b.first (held_at r.frame)) (λ s. block_writes p frames s b) (record { heap = heap; locals = w.written }) (λ s. whole s (omega arith)) (walked r.frame r.there).marks
    where
      whole : (s : ℕ) → i ≡ suc (b.last - b.first) → writes_along p i b.first (held_at r.frame) s ≡ block_writes p frames s b
      whole s size =
          ap (λ (n : ℕ). writes_along p n b.first (held_at r.frame) s) size
          ∙ sym (ap (λ (o : Option (Option Frame)). unwrap_or (option_map (λ h. writes_along p (suc (b.last - b.first)) b.first h s) (o >>= option_map held_at)) false) r.there)

-- ---- the nodes of loops

-- headers ascend, so that the loop with a header is found
members_at : (loops : List Loop) (i : ℕ) (l : Loop) → ((i j : ℕ) (k l : Loop) → i < j → slice_get loops i ≡ Some k → slice_get loops j ≡ Some l → k.header < l.header) → slice_get loops i ≡ Some l
    → members_of loops l.header ≡ l.members.items
members_at [] i l up at = no_some l at
members_at (k ∷ loops) zero l up at =
    let same : k ≡ l = some_of k l at in
    ap (λ (t : Bool). if t then k.members.items else members_of loops l.header) (eq-eqb k.header l.header (ap (λ (l : Loop). l.header) same)) ∙ ap (λ (l : Loop). l.members.items) same
members_at (k ∷ loops) (suc i) l up at =
    let less : k.header < l.header = up 0 (suc i) k l (omega arith) refl at in
    elim (k.header == l.header) as (λ t. (k.header == l.header) ≡ t → (if t then k.members.items else members_of loops l.header) ≡ l.members.items) [
      | true ↦ λ t. let same = eqb-true k.header l.header t in absurd (omega (arith, same))
      | false ↦ λ t. members_at loops i l (λ i j k l lt. up (suc i) (suc j) k l (omega arith)) at
    ] refl

edge_low : (s : List (List ℕ)) (r : Region) (n : ℕ) → ((a b : ℕ) → Edge s a b → a < n) → (a b : ℕ) → EdgeOf s r a b → a < n
edge_low s Whole n low a b e = low a b e
edge_low s (Inside members header) n low a b e = low a b e.0

way_low : (s : List (List ℕ)) (r : Region) (set : List ℕ) (n a b : ℕ) → ((a b : ℕ) → EdgeOf s r a b → a < n) → Way s r set a b → a < n
way_low s r set n _ _ low (edge a b e x y) = low a b e
way_low s r set n _ _ low (more a b c e x w) = low a b e

loop_low : (s : List (List ℕ)) (headers members : List ℕ) (n : ℕ) → ((a b : ℕ) → Edge s a b → a < n) → IsLoop s headers members → AreBelow n members
loop_low s _ _ n low (loops.outermost header members large is) x among = way_low s Whole members n x x (edge_low s Whole n low) (large.connected x x among among)
loop_low s _ _ n low (loops.inner header outer around members set l large is) x among = way_low s (Inside set outer) members n x x (edge_low s (Inside set outer) n low) (large.connected x x among among)

-- the nodes of each loop are blocks
pub members_low : (p : Program) (frames : List (Option Frame)) (blocks : List Block) (forest : Forest) → IsRoutine p frames blocks forest → (i : ℕ) (l : Loop) → slice_get forest.loops.items i ≡ Some l → AreBelow (length blocks) l.members.items
members_low p frames blocks forest is i l at =
    let listed = is.shaped.loops.loops i l at in
    loop_low (edges_of blocks) (l.header ∷ listed.around) l.members.items (length blocks) (λ a b e. (edges_within p blocks is.shaped.flow a b e).0) listed.is

-- ---- what a loop carries

-- a block out of range writes nothing
block_marks : (p : Program) (frames : List (Option Frame)) (blocks : List Block) (all : List Writes) → AreWritten p frames blocks all → (n : ℕ) (w : Writes) → slice_get all n ≡ Some w → Marks p.max_locals (λ s. writes_in p frames blocks s n) w
block_marks p frames blocks all are n w at =
    let b = found blocks n (subst (λ (k : ℕ). n < k) are.size (slice_get_within all n w at)) in
    let m = are.each n b.0 w b.1 at in
    let same : (s : ℕ) → writes_in p frames blocks s n ≡ block_writes p frames s b.0 = λ s. ap (λ (o : Option Block). unwrap_or (option_map (block_writes p frames s) o) false) b.1 in
    record { heap = m.heap ∙ sym (same 3); size = m.size; locals = λ k low. m.locals k low ∙ sym (same (local_slot k)) }

pub are_of_size : (p : Program) (frames : List (Option Frame)) (blocks : List Block) (all : List Writes) → AreWritten p frames blocks all → (n : ℕ) (w : Writes) → slice_get all n ≡ Some w → length w.locals.items ≡ p.max_locals
are_of_size p frames blocks all are n w at = (block_marks p frames blocks all are n w at).size

-- a local of the method isn't carried always
not_always : (p : Program) (k : ℕ) → k < p.max_locals → always_carried p (local_slot k) ≡ false
not_always p k low = turns_local (λ k. not (nat_lt k p.max_locals)) (λ j. true) k ∙ ap not (lt-ltb k p.max_locals low)

pub is_carried : (p : Program) (frames : List (Option Frame)) (blocks : List Block) (forest : Forest) → IsRoutine p frames blocks forest → (all : List Writes) → AreWritten p frames blocks all → (i : ℕ) (l : Loop) → slice_get forest.loops.items i ≡ Some l
    → (c : Writes) → Unites p.max_locals all l.members.items c → IsCarried p frames blocks forest l.header c
is_carried p frames blocks forest is all are i l at c unites = record {
  heap = marks.heap ∙ among 3;
  size = marks.size;
  locals = λ k b here.
      let low : k < p.max_locals = subst (λ (n : ℕ). k < n) marks.size (slice_get_within c.locals.items k b here) in
      sym (get_or_from_slice_get c.locals.items k b false here) ∙ marks.locals k low ∙ among (local_slot k)
      ∙ sym (ap (λ (t : Bool). t || list_any (writes_in p frames blocks (local_slot k)) (members_of forest.loops.items l.header)) (not_always p k low));
}
  where
    marks : Marks p.max_locals (λ s. list_any (λ n. writes_in p frames blocks s n) l.members.items) c
    marks = unites (λ n s. writes_in p frames blocks s n) (block_marks p frames blocks all are)

    among : (s : ℕ) → list_any (λ n. writes_in p frames blocks s n) l.members.items ≡ list_any (writes_in p frames blocks s) (members_of forest.loops.items l.header)
    among s = ap (list_any (writes_in p frames blocks s)) (sym (members_at forest.loops.items i l is.shaped.loops.ascend at))

-- ---- each loop

-- one block more
pub written_more : (p : Program) (frames : List (Option Frame)) (blocks : List Block) (all : List Writes) (n : ℕ) (b d : Block) (w : Writes) → length all ≡ n → b ≡ get_or blocks n d → IsWritten p frames b w
    → ((i : ℕ) (v : Writes) → slice_get all i ≡ Some v → (c : Block) → slice_get blocks i ≡ Some c → IsWritten p frames c v)
    → (i : ℕ) (v : Writes) → slice_get (all ++ w ∷ []) i ≡ Some v → (c : Block) → slice_get blocks i ≡ Some c → IsWritten p frames c v
written_more p frames blocks all n b d w count e one each =
    each_push (λ i v. (c : Block) → slice_get blocks i ≡ Some c → IsWritten p frames c v) (λ i v. (c : Block) → slice_get blocks i ≡ Some c → IsWritten p frames c v) all w n count (λ i v h. h) each
    (λ c at. subst (λ (b : Block). IsWritten p frames b w) (e ∙ get_or_from_slice_get blocks n c d at) one)

-- the loop at a place
pub loop_at : (forest : Forest) (found : List Loop) (i : ℕ) (l d : Loop) → found ≡ forest.loops.items → i < length found → l ≡ get_or found i d → slice_get forest.loops.items i ≡ Some l
loop_at forest found i l d same low e = ap (λ (ls : List Loop). slice_get ls i) (sym same) ∙ slice_get-get_or found i d low ∙ ap Some (sym e)

-- one loop more
pub carried_more : (p : Program) (frames : List (Option Frame)) (blocks : List Block) (forest : Forest) (all : List Writes) (n : ℕ) (l : Loop) (w : Writes) → length all ≡ n → slice_get forest.loops.items n ≡ Some l → IsCarried p frames blocks forest l.header w
    → ((i : ℕ) (v : Writes) → slice_get all i ≡ Some v → (k : Loop) → slice_get forest.loops.items i ≡ Some k → IsCarried p frames blocks forest k.header v)
    → (i : ℕ) (v : Writes) → slice_get (all ++ w ∷ []) i ≡ Some v → (k : Loop) → slice_get forest.loops.items i ≡ Some k → IsCarried p frames blocks forest k.header v
carried_more p frames blocks forest all n l w count at one each =
    each_push (λ i v. (k : Loop) → slice_get forest.loops.items i ≡ Some k → IsCarried p frames blocks forest k.header v) (λ i v. (k : Loop) → slice_get forest.loops.items i ≡ Some k → IsCarried p frames blocks forest k.header v) all w n count (λ i v h. h) each
    (λ k here. subst (λ (l : Loop). IsCarried p frames blocks forest l.header w) (some_of l k (sym at ∙ here)) one)
