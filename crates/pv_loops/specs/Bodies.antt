-- The nodes of a loop, found from its header by the order of a reduction.
use Rattle.std.specs.Prelude.{◌≡◌, ◌≢◌, ℕ, ◌<◌, ◌≤◌, List, length, slice_index, ◌⊎◌, ◌↔◌}
use Rattle.std.specs.List.{Contains}
use Rattle.pv_loops.specs.Shapes.{Edge}

-- all nodes in an order, with the place of each. Each but the entry has an edge from an earlier one. Where an edge goes back to z from w, no edge goes from before z to a node after z up to w
pub record IsOrder (sources : List (List ℕ)) (order place : List ℕ) : Type 0 where
  pub places : length place ≡ length sources
  pub first : slice_index place 0 ≡ 0
  pub place_in : (x : ℕ) → x < length sources → slice_index place x < length order
  pub listed : (x : ℕ) → x < length sources → slice_index order (slice_index place x) ≡ x
  pub node_in : (k : ℕ) → k < length order → slice_index order k < length sources
  pub placed : (k : ℕ) → k < length order → slice_index place (slice_index order k) ≡ k
  pub fed : (y : ℕ) → y < length sources → y ≢ 0 → (x : ℕ) × Edge sources y x × (slice_index place x < slice_index place y)
  pub spans : (w z y x : ℕ) → Edge sources z w → Edge sources x y → slice_index place z ≤ slice_index place w
      → slice_index place z < slice_index place x → slice_index place x ≤ slice_index place w → slice_index place z ≤ slice_index place y

-- a node with an edge back to it
abbrev pub IsHead : List (List ℕ) → List ℕ → ℕ → Type 0
IsHead sources place h = (w : ℕ) × Edge sources h w × (slice_index place h ≤ slice_index place w)

-- the nodes with an edge back to h, and those from which one of them is reached without passing h
pub data Reaches (sources : List (List ℕ)) (place : List ℕ) (h : ℕ) : ℕ → Type 0 where
  back : (w : ℕ) → Edge sources h w → slice_index place h ≤ slice_index place w → Reaches sources place h w
  before : (x y : ℕ) → Reaches sources place h x → x ≢ h → Edge sources x y → Reaches sources place h y

-- .. and h itself
abbrev pub InBody : List (List ℕ) → List ℕ → ℕ → ℕ → Type 0
InBody sources place h x = (x ≡ h) ⊎ Reaches sources place h x

-- these are the nodes of the body of h
abbrev pub AreBody : List (List ℕ) → List ℕ → ℕ → List ℕ → Type 0
AreBody sources place h nodes = (x : ℕ) → Contains nodes x ↔ InBody sources place h x
