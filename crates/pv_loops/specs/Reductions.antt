-- What a reduction keeps while groups of nodes are merged.
use Rattle.std.specs.Prelude.{◌≡◌, ◌≢◌, ℕ, ◌<◌, ◌≤◌, List, Bool, true, false, length, slice_index, slice_index_or}
use Rattle.std.specs.List.{All, Contains}
use Rattle.pv_loops.specs.declared.fault.TStep.{TStep}
use Rattle.pv_loops.specs.declared.groups.Groups.{Groups}
use Rattle.pv_loops.specs.declared.reduction.Reduction.{Reduction}
use Rattle.pv_loops.specs.declared.walk.Walk.{Walk}
use Rattle.pv_loops.specs.Shapes.{Edge, targets, IsReversed}
use Rattle.pv_loops.specs.Steps.{Graph, graph_of, AllApply, after_all, Stuck}
use Rattle.pv_loops.specs.Groups.{leader_of, place_of, Leads}

-- a graph whose nodes stand for groups of nodes of the shape: each node of the shape is in the group of its leader, and a group is entered at its leader alone
pub record Grouped (s : List (List ℕ)) (g : Graph) (leader : ℕ → ℕ) : Type 0 where
  pub within : (a : ℕ) → g.Node a → a < length s
  pub own : (a : ℕ) → g.Node a → leader a ≡ a
  pub led : (x : ℕ) → x < length s → g.Node (leader x)
  pub out : (x y : ℕ) → Edge s x y → leader x ≢ leader y → g.Arrow (leader x) y × (leader y ≡ y)
  pub into : (a b : ℕ) → g.Arrow a b → (leader b ≡ b) × ((x : ℕ) × Edge s x b × (leader x ≡ a))

-- .. and that has an edge into a leader wherever the shape has one, also to itself
pub record Tracks (s : List (List ℕ)) (g : Graph) (leader : ℕ → ℕ) : Type 0 where
  pub grouped : Grouped s g leader
  pub all : (x y : ℕ) → Edge s x y → leader y ≡ y → g.Arrow (leader x) y

-- the order inside a group: each node but the leader has an edge from an earlier one, and no edge comes from before a header to between the header and a node with an edge back to it
pub record AreOrdered (s : List (List ℕ)) (g : Groups) : Type 0 where
  pub fed : (y : ℕ) → y < length s → leader_of g y ≢ y → (x : ℕ) × Edge s x y × (leader_of g x ≡ leader_of g y) × (place_of g x < place_of g y)
  pub spans : (w z y x : ℕ) → Edge s w z → Edge s y x → leader_of g w ≡ leader_of g z → leader_of g x ≡ leader_of g z
      → place_of g z ≤ place_of g w → place_of g z < place_of g x → place_of g x ≤ place_of g w → place_of g z ≤ place_of g y

-- the groups are what the steps so far leave of the shape
pub record Reduced (s : List (List ℕ)) (r : Reduction) : Type 0 where
  pub applies : AllApply (graph_of s) r.steps.items
  pub tracks : Tracks s (after_all (graph_of s) r.steps.items) (leader_of r.groups)
  pub size : length r.groups.leader.items ≡ length s
  pub entry : leader_of r.groups 0 ≡ 0
  pub ordered : AreOrdered s r.groups

-- .. of the shape whose edges have these sources
abbrev pub Reduces : List (List ℕ) → Reduction → Type 0
Reduces sources r = (s : List (List ℕ)) → IsReversed s sources → Reduced s r

-- the sources outside the group of n are all in the group of p, and there is one
pub record IsOnlySource (g : Groups) (sources : List ℕ) (n p : ℕ) : Type 0 where
  pub other : p ≢ n
  pub source : (x : ℕ) × Contains sources x × (leader_of g x ≡ p)
  pub only : (x : ℕ) → Contains sources x → leader_of g x ≢ n → leader_of g x ≡ p

-- all leaders but the entry, each once
pub record AreRest (g : Groups) (rest : List ℕ) : Type 0 where
  pub leads : (k : ℕ) → k < length rest → Leads g (slice_index rest k)
  pub nonzero : (k : ℕ) → k < length rest → slice_index rest k ≢ 0
  pub distinct : (j k : ℕ) → j < k → k < length rest → slice_index rest j ≢ slice_index rest k
  pub all : (x : ℕ) → Leads g x → x ≢ 0 → (k : ℕ) × (k < length rest) × (slice_index rest k ≡ x)

-- none of these leaders can be merged into another
abbrev pub NoneMerges : Groups → List (List ℕ) → List ℕ → Type 0
NoneMerges g sources rest = (k p : ℕ) → k < length rest → IsOnlySource g (targets sources (slice_index rest k)) (slice_index rest k) p → ⊥

-- the steps are stuck in the shape whose edges have these sources
abbrev pub StuckFrom : List (List ℕ) → List TStep → Type 0
StuckFrom sources steps = (s : List (List ℕ)) → IsReversed s sources → Stuck s steps

-- each of these nodes but the entry, once
pub record AreOthers (count : ℕ) (nodes : List ℕ) : Type 0 where
  pub within : (k : ℕ) → k < length nodes → slice_index nodes k < count
  pub nonzero : (k : ℕ) → k < length nodes → slice_index nodes k ≢ 0
  pub distinct : (j k : ℕ) → j < k → k < length nodes → slice_index nodes j ≢ slice_index nodes k
  pub all : (x : ℕ) → x < count → x ≢ 0 → (k : ℕ) × (k < length nodes) × (slice_index nodes k ≡ x)

-- the marks say which nodes are listed, and one is set for the entry, which isn't
pub record AreListed (listed : List Bool) (nodes : List ℕ) : Type 0 where
  pub entry : slice_index_or listed 0 false ≡ true
  pub within : (k : ℕ) → k < length nodes → slice_index nodes k < length listed
  pub nonzero : (k : ℕ) → k < length nodes → slice_index nodes k ≢ 0
  pub marked : (k : ℕ) → k < length nodes → slice_index_or listed (slice_index nodes k) false ≡ true
  pub distinct : (j k : ℕ) → j < k → k < length nodes → slice_index nodes j ≢ slice_index nodes k
  pub all : (x : ℕ) → slice_index_or listed x false ≡ true → x ≢ 0 → (k : ℕ) × (k < length nodes) × (slice_index nodes k ≡ x)

-- no mark is taken away
abbrev pub KeepsListed : List Bool → List Bool → Type 0
KeepsListed old new = (x : ℕ) → slice_index_or old x false ≡ true → slice_index_or new x false ≡ true

-- a walk goes over nodes
pub record IsWalk (count : ℕ) (w : Walk) : Type 0 where
  pub size : length w.seen.items ≡ count
  pub path : All (λ (e : ℕ × ℕ). e.0 < count) w.path.items
  pub done : All (λ n. n < count) w.done.items
