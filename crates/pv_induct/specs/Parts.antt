-- Parts of the thetas of a depth. A part is told by the place of its first theta.
use Rattle.std.specs.Prelude.{◌≡◌, ◌⊎◌, Bool, true, false, ℕ, suc, ◌+◌, ◌-◌, ◌<◌, ◌≤◌, List, [], ◌∷◌, ◌++◌, length, drop, Option, Some, None, slice_get}
use Rattle.pv_graph.specs.declared.node.Op.TheVariants as op
use Rattle.pv_graph.specs.declared.node.Node.{Node}
use Rattle.pv_graph.specs.Walks.{In}
use Rattle.pv_classes.specs.declared.join.Join.{Join}
use Rattle.pv_classes.specs.declared.join.Reason.{Reason}
use Rattle.pv_classes.specs.declared.join.Reason.TheVariants as reason
use Rattle.pv_classes.specs.Blocks.{Block}
use Rattle.pv_classes.specs.Partition.{at, AreOne, total}
use Rattle.pv_classes.specs.Closest.{Is}
use Rattle.pv_classes.specs.Calls.{Classes, IsClasses, Knows}
use Rattle.pv_induct.specs.declared.theta.Theta.{Theta}
use Rattle.pv_induct.specs.Joined.{Joined, With, IsInduction}
use Rattle.pv_induct.specs.Levels.{IsAbove, IsClosed, IsCoarser, HoldsInductions, Merged, IsFull, IsGrown}

-- the thetas and their kids are among the first n nodes
abbrev pub AreWithin : ℕ → List Theta → Type 0
AreWithin n ts = (i : ℕ) (t : Theta) → slice_get ts i ≡ Some t → (t.node < n) × (t.first < n) × (t.second < n)

-- a key for each theta: its part, and the class of one of its kids
pub record AreKeys (ts : List Theta) (keys : List (ℕ × ℕ)) (part : ℕ → ℕ) (class : Theta → ℕ) : Type 0 where
  pub long : length keys ≡ length ts
  pub each : (i : ℕ) (t : Theta) → slice_get ts i ≡ Some t → slice_get keys i ≡ Some (part i, class t)

-- .. for the first n thetas
pub record AreKeysTo (n : ℕ) (ts : List Theta) (keys : List (ℕ × ℕ)) (part : ℕ → ℕ) (class : Theta → ℕ) : Type 0 where
  pub long : length keys ≡ n
  pub each : (i : ℕ) (t : Theta) → i < n → slice_get ts i ≡ Some t → slice_get keys i ≡ Some (part i, class t)

-- for each place the first one with the same key
pub record AreFirst (keys : List (ℕ × ℕ)) (places : List ℕ) : Type 0 where
  pub long : length places ≡ length keys
  pub under : (i : ℕ) → i < length keys → at places i ≤ i
  pub same : (i : ℕ) → i < length keys → slice_get keys (at places i) ≡ slice_get keys i
  pub least : (i j : ℕ) → i < length keys → j < at places i → slice_get keys j ≡ slice_get keys i → ⊥

-- .. for the first n keys, where the map has the first places of their keys
pub record AreFirstTo (n : ℕ) (keys : List (ℕ × ℕ)) (places : List ℕ) (seen : ℕ × ℕ → Option ℕ) : Type 0 where
  pub long : length places ≡ n
  pub under : (i : ℕ) → i < n → at places i ≤ i
  pub same : (i : ℕ) → i < n → slice_get keys (at places i) ≡ slice_get keys i
  pub least : (i j : ℕ) → i < n → j < at places i → slice_get keys j ≡ slice_get keys i → ⊥
  pub has : (k : ℕ × ℕ) (p : ℕ) → seen k ≡ Some p → (p < n) × (slice_get keys p ≡ Some k) × ((j : ℕ) → j < p → slice_get keys j ≡ Some k → ⊥)
  pub lacks : (k : ℕ × ℕ) (j : ℕ) → seen k ≡ None → j < n → slice_get keys j ≡ Some k → ⊥

-- the pairs of the first theta of a part and another one of it that are in two classes
pub record AreApart (ts : List Theta) (parts numbers : List ℕ) (pairs : List (ℕ × ℕ)) : Type 0 where
  pub each : (x y : ℕ) → In pairs (x, y) → (i : ℕ) × (s : Theta) × (t : Theta) × (slice_get ts (at parts i) ≡ Some s) × (slice_get ts i ≡ Some t) × (s.node ≡ x) × (t.node ≡ y) × (AreOne numbers x y → ⊥)
  pub all : (i : ℕ) (s t : Theta) → slice_get ts (at parts i) ≡ Some s → slice_get ts i ≡ Some t → AreOne numbers s.node t.node ⊎ In pairs (s.node, t.node)

-- .. for the first n thetas
pub record AreApartTo (n : ℕ) (ts : List Theta) (parts numbers : List ℕ) (pairs : List (ℕ × ℕ)) : Type 0 where
  pub each : (x y : ℕ) → In pairs (x, y) → (i : ℕ) × (s : Theta) × (t : Theta) × (slice_get ts (at parts i) ≡ Some s) × (slice_get ts i ≡ Some t) × (s.node ≡ x) × (t.node ≡ y) × (AreOne numbers x y → ⊥)
  pub all : (i : ℕ) (s t : Theta) → i < n → slice_get ts (at parts i) ≡ Some s → slice_get ts i ≡ Some t → AreOne numbers s.node t.node ⊎ In pairs (s.node, t.node)

-- why the pair with number i is joined: by the induction with this number, or inside the block of one
abbrev pub reason_of : Option ℕ → ℕ → Reason
reason_of None i = reason.Pair i
reason_of (Some n) i = reason.Induction n

-- the join is by a pair of the list
abbrev pub IsJoinBy : List (ℕ × ℕ) → Option ℕ → Join → Type 0
IsJoinBy pairs block j = (i : ℕ) × (slice_get pairs i ≡ Some (j.first, j.second)) × (j.why ≡ reason_of block i)

-- some pairs of a list were joined
pub record AllJoined (old new : Classes) (pairs done : List (ℕ × ℕ)) (block : Option ℕ) : Type 0 where
  pub long : length new.numbers ≡ length old.numbers
  pub coarser : IsCoarser old.numbers new.numbers
  pub one : (a b : ℕ) → In done (a, b) → AreOne new.numbers a b
  pub only : (a b : ℕ) → AreOne new.numbers a b → Merged (AreOne old.numbers) done a b
  pub more : List Join
  pub joins : new.joins ≡ old.joins ++ more
  pub count : length more ≡ length done
  pub each : (j : Join) → In more j → IsJoinBy pairs block j
  pub blocks : new.blocks ≡ old.blocks
  pub knows : (nodes : List Node) → Knows nodes old → Knows nodes new
  pub classes : IsClasses new

-- the thetas of one part have joined first kids
pub record IsParting (ts : List Theta) (parts numbers : List ℕ) : Type 0 where
  pub long : length parts ≡ length ts
  pub under : (i : ℕ) → i < length ts → at parts i ≤ i
  pub starts : (i : ℕ) (s t : Theta) → slice_get ts (at parts i) ≡ Some s → slice_get ts i ≡ Some t → AreOne numbers s.first t.first

-- each pair of an induction is in one part
abbrev pub PartsHold : List Node → List ℕ → List ℕ → ℕ → List Theta → List ℕ → Type 0
PartsHold nodes fixed numbers d ts parts = (P : List (ℕ × ℕ)) → IsInduction nodes fixed d P (AreOne numbers) (Joined nodes (d ∷ fixed) (With (AreOne numbers) P) [])
    → (i j : ℕ) (s t : Theta) → slice_get ts i ≡ Some s → slice_get ts j ≡ Some t → In P (s.node, t.node) → at parts i ≡ at parts j

-- the classes inside an induction: the pairs are joined, and what may be joined then
pub record IsInside (nodes : List Node) (fixed : List ℕ) (d : ℕ) (pairs : List (ℕ × ℕ)) (outside inside : Classes) : Type 0 where
  pub mid : Classes
  pub begun : AllJoined outside mid pairs pairs None
  pub grown : IsGrown nodes (d ∷ fixed) (length outside.blocks) mid inside
  pub full : IsFull nodes (d ∷ fixed) mid.numbers inside.numbers

-- how far the parts are below the places
abbrev pub gap_from : ℕ → List ℕ → ℕ
gap_from m [] = 0
gap_from m (p ∷ ps) = (m - p) + gap_from (suc m) ps

-- the pairs are of the first n nodes
abbrev pub ArePairs : ℕ → List (ℕ × ℕ) → Type 0
ArePairs n pairs = (a b : ℕ) → In pairs (a, b) → (a < n) × (b < n)

-- of each pair the first kids are joined outside, and the second kids inside
pub record IsJoinedInduction (nodes : List Node) (fixed : List ℕ) (d : ℕ) (pairs : List (ℕ × ℕ)) (outside inside : Classes) : Type 0 where
  pub depth : (1 ≤ d) × (d ≤ 16)
  pub deeper : IsAbove fixed d
  pub each : (x y : ℕ) → In pairs (x, y) → (s : Theta) × (t : Theta) × (s.node ≡ x) × (t.node ≡ y) × Is nodes x (op.Theta d) (s.first ∷ s.second ∷ []) × Is nodes y (op.Theta d) (t.first ∷ t.second ∷ [])
      × AreOne outside.numbers s.first t.first × AreOne inside.numbers s.second t.second
  pub joined_ : (a b : ℕ) → In pairs (a, b) → Joined nodes fixed (AreOne outside.numbers) [] a b

-- the joins and blocks inside an induction, for its block
pub record IsBlock (nodes : List Node) (fixed : List ℕ) (d : ℕ) (pairs : List (ℕ × ℕ)) (outside : Classes) (joins : List Join) (blocks : List Block) : Type 0 where
  pub inner : Classes
  pub inside : IsInside nodes fixed d pairs outside inner
  pub induction : IsJoinedInduction nodes fixed d pairs outside inner
  pub joins_are : joins ≡ drop (length outside.joins) inner.joins
  pub blocks_are : blocks ≡ drop (length outside.blocks) inner.blocks

-- the pairs were joined, and the classes closed
pub record IsFinished (nodes : List Node) (fixed : List ℕ) (first : ℕ) (pairs : List (ℕ × ℕ)) (old new : Classes) : Type 0 where
  pub grown : IsGrown nodes fixed first old new
  pub closed : IsClosed nodes fixed new.numbers
  pub one : (a b : ℕ) → In pairs (a, b) → AreOne new.numbers a b

-- an induction was joined, and the classes closed
pub record IsProgress (nodes : List Node) (fixed : List ℕ) (first : ℕ) (old new : Classes) : Type 0 where
  pub grown : IsGrown nodes fixed first old new
  pub closed : IsClosed nodes fixed new.numbers
  pub less : total new.numbers < total old.numbers

abbrev pub InductEnds : List Node → List ℕ → ℕ → ℕ → Classes → Bool → Classes → Type 0
InductEnds nodes fixed d first old true new = IsProgress nodes fixed first old new
InductEnds nodes fixed d first old false new = (new ≡ old) × HoldsInductions nodes fixed old.numbers d

abbrev pub PassEnds : List Node → List ℕ → ℕ → ℕ → Classes → Bool → Classes → Type 0
PassEnds nodes fixed from first old true new = IsProgress nodes fixed first old new
PassEnds nodes fixed from first old false new = (new ≡ old) × ((d : ℕ) → from ≤ d → d < 17 → HoldsInductions nodes fixed old.numbers d)

-- all that may be joined with inductions was joined, and nothing else
pub record IsLevelClosed (nodes : List Node) (fixed : List ℕ) (first : ℕ) (old new : Classes) : Type 0 where
  pub grown : IsGrown nodes fixed first old new
  pub full : IsFull nodes fixed old.numbers new.numbers
