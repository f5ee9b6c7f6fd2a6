-- Trees of linked nodes. Each node but the top of its tree has a link upwards, which a join made. These are the proof forests of
-- R. Nieuwenhuis and A. Oliveras, Proof-producing congruence closure, RTA 2005, with union by rank in place of turned links, so that
-- the trees of an earlier time are still there.
use Rattle.std.specs.Prelude.{◌≡◌, ◌≢◌, ◌⊎◌, ◌++◌, ℕ, zero, suc, ◌+◌, ◌<◌, ◌≤◌, max, true, false, List, [], ◌∷◌, length, Option, Some, None, slice_get}
use Rattle.pv_paths.specs.declared.forest.Link.{Link}
use Rattle.pv_paths.specs.declared.forest.Middle.{Middle}
use Rattle.pv_paths.specs.declared.forest.Leg.{Leg}
use Rattle.pv_paths.specs.declared.forest.Leg.TheVariants.{Reach, Cross}
use Rattle.pv_paths.specs.declared.forest.Next.{Next}
use Rattle.pv_paths.specs.declared.forest.Next.TheVariants.{Left, Right, Neither}
use Rattle.pv_paths.specs.Paths.{Way, Forth, Back, Crosses, join_of}

abbrev pub Links : Type 0
Links = List (Option Link)

abbrev pub HasLink : Links → ℕ → Link → Type 0
HasLink links n l = slice_get links n ≡ Some (Some l)

abbrev pub IsRoot : Links → ℕ → Type 0
IsRoot links n = slice_get links n ≡ Some None

-- this many nodes, and none has a link
pub record AreBare (nodes : ℕ) (links : Links) : Type 0 where
  pub long : length links ≡ nodes
  pub none : (n : ℕ) (l : Link) → HasLink links n l → ⊥

-- more than the number of each join that made a link
abbrev pub labels : Links → ℕ
labels [] = 0
labels (None ∷ links) = labels links
labels (Some l ∷ links) = max (suc l.join) (labels links)

-- no join before this number links the node upwards
abbrev pub IsTop : Links → ℕ → ℕ → Type 0
IsTop links before n = (l : Link) → HasLink links n l → before ≤ l.join

-- along the links that joins before this number made, a leads up to the top r
pub data Climbs (links : Links) (before : ℕ) : ℕ → ℕ → Type 0 where
  stop : (a r : ℕ) → a ≡ r → IsTop links before a → Climbs links before a r
  go : (a r : ℕ) (l : Link) → HasLink links a l → l.join < before → Climbs links before l.up r → Climbs links before a r

-- at that time they have one top
abbrev pub AreMet : Links → ℕ → ℕ → ℕ → Type 0
AreMet links before a b = (r : ℕ) × Climbs links before a r × Climbs links before b r

-- the tops of the first nodes at that time
pub record AreTopsAt (links : Links) (before nodes : ℕ) (tops : List ℕ) : Type 0 where
  pub long : length tops ≡ nodes
  pub each : (n r : ℕ) → slice_get tops n ≡ Some r → Climbs links before n r
  pub low : (n r : ℕ) → slice_get tops n ≡ Some r → r < length links

-- links upwards are ever newer
abbrev pub Rises : Links → Type 0
Rises links = (n : ℕ) (l m : Link) → HasLink links n l → HasLink links l.up m → l.join < m.join

abbrev pub IsWithin : Links → Type 0
IsWithin links = (n : ℕ) (l : Link) → HasLink links n l → l.up < length links

-- the join of a link, crossed upwards; and downwards
abbrev pub up_way : Link → Way
up_way l = elim l.is_first [ true ↦ Forth l.join | false ↦ Back l.join ]

abbrev pub down_way : Link → Way
down_way l = elim l.is_first [ true ↦ Back l.join | false ↦ Forth l.join ]

-- the links are those that the joins made, the older ones first
pub record IsForest (links : Links) (ends : List (ℕ × ℕ)) : Type 0 where
  pub rises : Rises links
  pub within : IsWithin links
  pub made : (n : ℕ) (l : Link) → HasLink links n l → l.join < length ends
  pub once : (m n : ℕ) (k l : Link) → HasLink links m k → HasLink links n l → k.join ≡ l.join → m ≡ n
  pub tied : (n : ℕ) (l : Link) → HasLink links n l → (a b : ℕ) × Crosses ends (suc l.join) (up_way l) a b × Climbs links l.join a n × Climbs links l.join b l.up
  pub meets : (i a b : ℕ) → slice_get ends i ≡ Some (a, b) → AreMet links (suc i) a b
  pub nodes : (i a b : ℕ) → slice_get ends i ≡ Some (a, b) → (a < length links) × (b < length links)

pub record IsKept (links : Links) (ends : List (ℕ × ℕ)) (ranks : List ℕ) : Type 0 where
  pub forest : IsForest links ends
  pub long : length ranks ≡ length links

-- join i is the newest between a and b: the ways from a to one of its nodes, and from the other to b, are older
pub record IsMiddle (links : Links) (ends : List (ℕ × ℕ)) (a b : ℕ) (m : Middle) (i : ℕ) : Type 0 where
  pub crosses : Crosses ends (suc i) m.way m.from m.to
  pub before_ : AreMet links i a m.from
  pub after : AreMet links i m.to b
  pub newest : (t : ℕ) → AreMet links t a b → i < t

-- the way from one node to another: nothing where they are one, else a part, a join and a part, the first on top of a stack
abbrev pub IsSplit : Links → List (ℕ × ℕ) → ℕ → ℕ → List Leg → List Leg → Type 0
IsSplit links ends from to old new =
    ((from ≡ to) × (new ≡ old))
    ⊎ ((m : Middle) × IsMiddle links ends from to m (join_of m.way) × (new ≡ old ++ (Reach m.to to (join_of m.way) ∷ Cross m.way ∷ Reach from m.from (join_of m.way) ∷ [])))

-- what is left of a path leads from c to b by joins before this number, each part by older ones than its bound
abbrev pub LegsLead : Links → List (ℕ × ℕ) → ℕ → List Leg → ℕ → ℕ → Type 0
LegsLead links ends before [] c b = c ≡ b
LegsLead links ends before (Reach f u k ∷ legs) c b = (f ≡ c) × (k ≤ before) × (f < length links) × (u < length links) × AreMet links k f u × LegsLead links ends before legs u b
LegsLead links ends before (Cross w ∷ legs) c b = (d : ℕ) × Crosses ends before w c d × LegsLead links ends before legs d b

-- a weight that falls where a part splits at an older join
abbrev pub weight : ℕ → ℕ
weight zero = 1
weight (suc k) = weight k + weight k + 2

abbrev pub weights : List Leg → ℕ
weights [] = 0
weights (Reach f u k ∷ legs) = weight k + weights legs
weights (Cross w ∷ legs) = 1 + weights legs

-- this link is the older of the two, the left one where one join made both; there may be none
abbrev pub IsOlder : Option Link → Option Link → Next → Type 0
IsOlder left right (Left l) = (left ≡ Some l) × ((m : Link) → right ≡ Some m → l.join ≤ m.join)
IsOlder left right (Right m) = (right ≡ Some m) × ((l : Link) → left ≡ Some l → m.join < l.join)
IsOlder left right Neither = (left ≡ None) × (right ≡ None)

-- on the way from a and b upwards, up to x and y, which are not one: no join before the bound links them upwards
pub record IsApart (links : Links) (a b x y : ℕ) : Type 0 where
  pub bound : ℕ
  pub left : Climbs links bound a x
  pub right : Climbs links bound b y
  pub apart : x ≢ y
