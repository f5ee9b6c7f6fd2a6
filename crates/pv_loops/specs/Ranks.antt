-- The nodes of a shape in an order, and ranked, along its edges.
use Rattle.std.specs.Prelude.{◌≡◌, ◌≢◌, ℕ, zero, suc, ◌<◌, ◌≤◌, List, [], ◌∷◌, ◌++◌, length, slice_get, slice_index_or, Option, Some, None, ◌⊎◌}
use Rattle.std.specs.List.{Contains}
use Rattle.pv_loops.specs.declared.forest.Loop.{Loop}
use Rattle.pv_loops.specs.declared.forest.Forest.{Forest}
use Rattle.pv_loops.specs.declared.forest.TheConstants.{MAX_DEPTH}
use Rattle.pv_loops.specs.Shapes.{Edge}

-- the header of a loop, and then those of the loops around it
abbrev pub header_and : (Option ℕ → List ℕ) → Option Loop → List ℕ
header_and outer None = []
header_and outer (Some l) = l.header ∷ outer l.parent

-- the headers of the loops from the one at this place outwards, at most n of them
unfoldable pub headers_from : ℕ → List Loop → Option ℕ → List ℕ
headers_from zero loops at = []
headers_from (suc n) loops None = []
headers_from (suc n) loops (Some i) = header_and (λ parent. headers_from n loops parent) (slice_get loops i)

-- the headers of the loops around a node, the innermost first; a header is inside its own loop
abbrev pub around : Forest → ℕ → List ℕ
around f x = headers_from MAX_DEPTH f.loops.items (slice_index_or f.home.items x None)

-- all nodes, each once, the entry first. Each edge leads to a later node, but for edges back to the header of a loop around the node that they leave
pub record IsOrdered (s : List (List ℕ)) (f : Forest) : Type 0 where
  pub size : length f.order.items ≡ length s
  pub nodes : (k x : ℕ) → slice_get f.order.items k ≡ Some x → x < length s
  pub each : (x : ℕ) → x < length s → (k : ℕ) × (slice_get f.order.items k ≡ Some x)
  pub once : (j k x : ℕ) → slice_get f.order.items j ≡ Some x → slice_get f.order.items k ≡ Some x → j ≡ k
  pub entry : slice_get f.order.items 0 ≡ Some 0
  pub forward : (j k a b : ℕ) → slice_get f.order.items j ≡ Some a → slice_get f.order.items k ≡ Some b → Edge s a b → (j < k) ⊎ Contains (around f a) b

-- in the order of a forest the nodes of a loop stand together
pub record IsArranged (f : Forest) : Type 0 where
  -- a header comes before the other nodes of its loop
  pub headers : (j k h x : ℕ) → slice_get f.order.items j ≡ Some h → slice_get f.order.items k ≡ Some x → Contains (around f x) h → j ≤ k
  -- what stands between two nodes of a loop is in the loop
  pub together : (i j k a b c h : ℕ) → slice_get f.order.items i ≡ Some a → slice_get f.order.items j ≡ Some b → slice_get f.order.items k ≡ Some c → i < j → j < k
      → Contains (around f a) h → Contains (around f c) h → Contains (around f b) h

-- m is the first of these headers
abbrev pub Heads : List ℕ → ℕ → Type 0
Heads A m = (B : List ℕ) × (A ≡ m ∷ B)

-- an edge from a to b goes back to the header of a loop around a, or on: out of some of the loops around a, and at most into one loop
abbrev pub IsAlong : (around : ℕ → List ℕ) (rank : ℕ → ℕ) → ℕ → ℕ → Type 0
IsAlong around rank a b = (C : List ℕ) × (D : List ℕ) × (around a ≡ C ++ D)
    × (((around b ≡ D) × Heads D b) ⊎ ((rank a < rank b) × (b ≢ 0) × (((around b ≡ D) × (Heads D b → ⊥)) ⊎ (around b ≡ b ∷ D))))

-- from a a way through nodes of the loop with these headers around it leads back to its header h
pub data LeadsBack (s : List (List ℕ)) (around : ℕ → List ℕ) (A : List ℕ) (h : ℕ) : ℕ → Type 0 where
  turns : (a : ℕ) → Edge s a h → LeadsBack s around A h a
  passes : (a b : ℕ) (G : List ℕ) → Edge s a b → around b ≡ G ++ A → LeadsBack s around A h b → LeadsBack s around A h a

-- the loops around the nodes nest, with one header each, and the ranks rise along the edges, but for those back to the header of a loop
pub record IsRanking (s : List (List ℕ)) (around : ℕ → List ℕ) (rank : ℕ → ℕ) : Type 0 where
  pub edges : (a b : ℕ) → Edge s a b → IsAlong around rank a b
  -- the headers around a header are itself and those around its loop, and in the loop it has the least rank
  pub headers : (x h : ℕ) (G B : List ℕ) → around x ≡ G ++ h ∷ B → (around h ≡ h ∷ B) × (rank h ≤ rank x)
  -- a header is reached from itself inside its loop
  pub loops : (h : ℕ) (B : List ℕ) → around h ≡ h ∷ B → LeadsBack s around (h ∷ B) h h
  pub first : (around 0 ≡ []) ⊎ (around 0 ≡ 0 ∷ [])
  -- the ranks keep loops together: where an edge goes on out of a loop, all nodes of the loop have lower ranks than the node that it goes to
  pub compact : (h : ℕ) (B G X : List ℕ) (a c b : ℕ) → around a ≡ G ++ h ∷ B → around c ≡ X ++ h ∷ B → Edge s a b → rank a < rank b → ((Y : List ℕ) → around b ≢ Y ++ h ∷ B) → rank c < rank b

-- the nodes can be ranked, below some number, and at most 16 headers are around each
abbrev pub HasRanking : List (List ℕ) → Forest → Type 0
HasRanking s f = (rank : ℕ → ℕ) × (top : ℕ) × ((x : ℕ) → rank x < top) × IsRanking s (around f) rank × ((x : ℕ) → length (around f x) ≤ MAX_DEPTH)
