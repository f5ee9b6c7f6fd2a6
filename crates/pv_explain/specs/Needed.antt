-- Which joins of a search are needed: those that are marked.
use Rattle.std.specs.Prelude.{◌≡◌, ℕ, ◌<◌, ◌≤◌, Bool, true, false, List, [], ◌∷◌, length, Some, slice_get, take}
use Rattle.std.specs.List.{AllByRecursion, Contains}
use Rattle.pv_paths.specs.declared.forest.Way.{Way}
use Rattle.pv_paths.specs.Paths.{AreLinked, Joined, Leads, join_of}
use Rattle.pv_classes.specs.declared.join.Join.{Join}
use Rattle.pv_classes.specs.declared.join.Reason.TheVariants as reason
use Rattle.pv_classes.specs.Linked.{Linked}
use Rattle.pv_classes.specs.Grounds.{JoinGround, JoinsGround}
use Rattle.pv_explain.specs.declared.source.Search.{Search}
use Rattle.pv_explain.specs.Sections.{IsGiven, IsGrounded}
use Rattle.pv_explain.specs.Marks.{IsMarked}
use Rattle.pv_explain.specs.Levels.{ends_of}

-- ---- the marked joins

-- the marked ones of these joins, in order
abbrev pub marked : List Bool → List Join → List Join
marked [] joins = []
marked (b ∷ needed) [] = []
marked (true ∷ needed) (j ∷ joins) = j ∷ marked needed joins
marked (false ∷ needed) (j ∷ joins) = marked needed joins

-- a join, if it is marked
abbrev pub if_marked : Bool → Join → List Join
if_marked true j = j ∷ []
if_marked false j = []

-- ---- paths through marked joins

-- the joins on the path are marked
abbrev pub AreMarkedOn : List Bool → List Way → Type 0
AreMarkedOn needed path = (k : ℕ) (w : Way) → slice_get path k ≡ Some w → IsMarked needed (join_of w)

-- they are joins before this number
abbrev pub AreBefore : ℕ → List Way → Type 0
AreBefore before path = (k : ℕ) (w : Way) → slice_get path k ≡ Some w → join_of w < before

-- joins before this number link a and b, which are nodes
pub record LinkedBefore (f : Joined) (before : ℕ) (a b : ℕ) : Type 0 where
  pub first : a < f.nodes
  pub second : b < f.nodes
  pub path : AreLinked f.ends before a b

-- marked ones among them link a and b
pub record LinkedByMarked (f : Joined) (needed : List Bool) (before : ℕ) (a b : ℕ) : Type 0 where
  pub second : b < f.nodes
  pub path : List Way
  pub leads : Leads f.ends before path a b
  pub crossed : AreMarkedOn needed path

-- joins before this number link each pair
abbrev pub LinkedPairsBefore : Joined → ℕ → List (ℕ × ℕ) → Type 0
LinkedPairsBefore f before pairs = AllByRecursion (λ (p : ℕ × ℕ). LinkedBefore f before p.0 p.1) pairs

-- marked ones among them link each pair
abbrev pub LinkedPairsByMarked : Joined → List Bool → ℕ → List (ℕ × ℕ) → Type 0
LinkedPairsByMarked f needed before pairs = AllByRecursion (λ (p : ℕ × ℕ). LinkedByMarked f needed before p.0 p.1) pairs

-- marked joins before this number link each marked node to its top
abbrev pub LinkedToTops : Joined → List Bool → ℕ → List Bool → List ℕ → Type 0
LinkedToTops f needed before nodes tops = (n r : ℕ) → IsMarked nodes n → slice_get tops n ≡ Some r → LinkedByMarked f needed before n r

-- where joins before this number link two marked nodes, marked ones among them link both to one node
abbrev pub StillLinked : Joined → List Bool → ℕ → List Bool → Type 0
StillLinked f needed before nodes =
    (a b : ℕ) → IsMarked nodes a → IsMarked nodes b → AreLinked f.ends before a b
    → (r : ℕ) × LinkedByMarked f needed before a r × LinkedByMarked f needed before b r

-- ---- what marked joins rest on

-- the forest is of the joins of the search
pub record IsForestOf (s : Search) (f : Joined) : Type 0 where
  pub nodes_ : f.nodes ≡ length s.graph.now.nodes
  pub ends : f.ends ≡ ends_of s.joins.now

-- join i is by an induction, and cites block n
pub record IsCite (joins : List Join) (n i : ℕ) : Type 0 where
  pub j : Join
  pub there : slice_get joins i ≡ Some j
  pub why : j.why ≡ reason.Induction n

-- it is the first one that does
pub record IsFirstCite (joins : List Join) (n i : ℕ) : Type 0 where
  pub cite : IsCite joins n i
  pub first : (k : ℕ) → IsCite joins n k → i ≤ k

-- join i has its ground among the marked ones before it
abbrev pub RestsOnMarked : Search → List Bool → ℕ → Type 0
RestsOnMarked s needed i =
    (assumed : List ℕ) → IsGrounded s assumed → (j : Join) → slice_get s.joins.now i ≡ Some j
    → JoinGround s.graph.now.nodes (IsGiven s.graph.now assumed) [] (marked (take i needed) s.joins.now) s.blocks.now j

-- each join that cites a marked block rests on marked joins
abbrev pub AreRested : Search → List Bool → List Bool → Type 0
AreRested s needed rested = (n i : ℕ) → IsMarked rested n → IsCite s.joins.now n i → RestsOnMarked s needed i

-- these joins have their grounds where all joins of the search have theirs
abbrev pub StayGrounded : Search → List Join → Type 0
StayGrounded s joins = (assumed : List ℕ) → IsGrounded s assumed → JoinsGround s.graph.now.nodes (IsGiven s.graph.now assumed) [] [] s.blocks.now joins

-- these joins link the two nodes of each pair
abbrev pub StayLinked : Search → List Join → List (ℕ × ℕ) → Type 0
StayLinked s joins pairs = AllByRecursion (λ (p : ℕ × ℕ). Linked (length s.graph.now.nodes) joins p.0 p.1) pairs

-- the two nodes of each join are nodes
abbrev pub AreNodesOf : ℕ → List Join → Type 0
AreNodesOf n joins = (j : Join) → Contains joins j → (j.first < n) × (j.second < n)
