-- A partition of nodes, each part with a label and a number.
use Rattle.std.specs.Prelude.{◌≡◌, ◌≢◌, ◌⊎◌, ◌↔◌, ℕ, ◌+◌, ◌<◌, ◌≤◌, ◌^◌, List, [], ◌∷◌, ◌++◌, length, map, slice_index_or, if◌then◌else◌, ◌==◌}
use Rattle.std.specs.List.{Contains}

-- the number at a place
abbrev pub at : List ℕ → ℕ → ℕ
at numbers k = slice_index_or numbers k 0

-- a and b have one number
abbrev pub AreOne : List ℕ → ℕ → ℕ → Type 0
AreOne numbers a b = at numbers a ≡ at numbers b

-- for each node the label and the number of its part
pub record Parts : Type 0 where
  pub labels : List ℕ
  pub numbers : List ℕ

-- with the least node of each label
abbrev pub parts_of : List ℕ → List ℕ → Parts
parts_of labels least = record { labels = labels; numbers = map (at least) labels }

-- a label is a node of its part, and a number is the least one
pub record IsPartition (p : Parts) : Type 0 where
  pub long : length p.numbers ≡ length p.labels
  pub few : length p.labels < 2 ^ 32
  pub within : (k : ℕ) → k < length p.labels → at p.labels k < length p.labels
  pub own : (k : ℕ) → k < length p.labels → at p.labels (at p.labels k) ≡ at p.labels k
  pub one : (a b : ℕ) → a < length p.labels → b < length p.labels → AreOne p.labels a b ↔ AreOne p.numbers a b
  pub low : (k : ℕ) → k < length p.labels → at p.numbers k ≤ k
  pub least : (k : ℕ) → k < length p.labels → at p.numbers (at p.numbers k) ≡ at p.numbers k

-- beside the labels stand for each label the least node of its part, and the nodes of its part but itself
pub record IsKept (labels least : List ℕ) (others : List (List ℕ)) : Type 0 where
  pub least_long : length least ≡ length labels
  pub others_long : length others ≡ length labels
  pub few : length labels < 2 ^ 32
  pub within : (k : ℕ) → k < length labels → at labels k < length labels
  pub own : (k : ℕ) → k < length labels → at labels (at labels k) ≡ at labels k
  pub low : (k : ℕ) → k < length labels → at least (at labels k) ≤ k
  pub there : (k : ℕ) → k < length labels → at labels (at least (at labels k)) ≡ at labels k
  pub others_are : (l k : ℕ) → l < length labels → Contains (slice_index_or others l []) k ↔ ((k < length labels) × (at labels k ≡ l) × (k ≢ l))

-- the numbers with low in the place of high
abbrev pub renamed : ℕ → ℕ → ℕ → ℕ
renamed high low n = if n == high then low else n

-- the part `from` went into the part `to`
pub record Absorbs (labels least : List ℕ) (others : List (List ℕ)) (new_labels new_least : List ℕ) (new_others : List (List ℕ)) (from to : ℕ) (moved : List ℕ) : Type 0 where
  pub long : length new_labels ≡ length labels
  pub kept : IsKept new_labels new_least new_others
  pub moves : (k : ℕ) → k < length labels → at new_labels k ≡ renamed from to (at labels k)
  pub moved_are : (k : ℕ) → Contains moved k ↔ ((k < length labels) × (at labels k ≡ from))
  pub lower : (l : ℕ) → l ≢ to → at new_least l ≡ at least l
  pub lowest : (at new_least to ≤ at least to) × (at new_least to ≤ at least from)

-- a and b, or b and a
abbrev pub IsThrough : List ℕ → ℕ → ℕ → ℕ → ℕ → Type 0
IsThrough numbers a b u v = AreOne numbers u v ⊎ ((AreOne numbers u a × AreOne numbers b v) ⊎ (AreOne numbers u b × AreOne numbers a v))

-- the sum of numbers
abbrev pub total : List ℕ → ℕ
total [] = 0
total (n ∷ ns) = n + total ns

-- the parts of a and b became one, and no other; the nodes that moved have a new label
pub record Merges (old new : Parts) (a b : ℕ) (moved : List ℕ) : Type 0 where
  pub long : length new.labels ≡ length old.labels
  pub parts : IsPartition new
  pub coarser : (u v : ℕ) → u < length old.labels → v < length old.labels → AreOne old.labels u v → AreOne new.labels u v
  pub one : AreOne new.labels a b
  pub only : (u v : ℕ) → u < length old.labels → v < length old.labels → AreOne new.labels u v → IsThrough old.labels a b u v
  pub kept : (k : ℕ) → k < length old.labels → (Contains moved k → ⊥) → at new.labels k ≡ at old.labels k
  pub inside : (k : ℕ) → Contains moved k → k < length old.labels
  pub less : (AreOne old.labels a b × (moved ≡ []) × (new ≡ old)) ⊎ (total new.numbers < total old.numbers)

-- one node more, in a part of its own
pub record HasOneMore (old new : Parts) : Type 0 where
  pub parts : IsPartition new
  pub labels : new.labels ≡ old.labels ++ length old.labels ∷ []
  pub numbers : new.numbers ≡ old.numbers ++ length old.labels ∷ []
