-- Groups of nodes.
use Rattle.std.specs.Prelude.{◌≡◌, ◌≢◌, ℕ, ◌<◌, ◌+◌, List, [], ◌++◌, length, slice_index, slice_index_or}
use Rattle.pv_loops.specs.declared.groups.Groups.{Groups}

-- the leader of a node's group
abbrev pub leader_of : Groups → ℕ → ℕ
leader_of g x = slice_index g.leader.items x

-- the place of a node in the list of its group
abbrev pub place_of : Groups → ℕ → ℕ
place_of g x = slice_index g.place.items x

-- the list of a leader's group
abbrev pub group_of : Groups → ℕ → List ℕ
group_of g l = slice_index_or g.members l []

-- a node that leads its group
abbrev pub Leads : Groups → ℕ → Type 0
Leads g l = (l < length g.leader.items) × (leader_of g l ≡ l)

-- each node is in the list of its leader at its place, and a list has no others. A leader is the first of its list
pub record AreGroups (g : Groups) : Type 0 where
  pub places : length g.place.items ≡ length g.leader.items
  pub lists : length g.members ≡ length g.leader.items
  pub led : (x : ℕ) → x < length g.leader.items → Leads g (leader_of g x)
  pub at : (x : ℕ) → x < length g.leader.items → place_of g x < length (group_of g (leader_of g x))
  pub listed : (x : ℕ) → x < length g.leader.items → slice_index (group_of g (leader_of g x)) (place_of g x) ≡ x
  pub node : (l k : ℕ) → Leads g l → k < length (group_of g l) → slice_index (group_of g l) k < length g.leader.items
  pub leader : (l k : ℕ) → Leads g l → k < length (group_of g l) → leader_of g (slice_index (group_of g l) k) ≡ l
  pub place : (l k : ℕ) → Leads g l → k < length (group_of g l) → place_of g (slice_index (group_of g l) k) ≡ k
  pub first : (l : ℕ) → Leads g l → place_of g l ≡ 0

-- the first `count` nodes of this list get this leader, and places from this one on
pub record Relabels (old new : Groups) (moved : List ℕ) (count p from : ℕ) : Type 0 where
  pub leaders : length new.leader.items ≡ length old.leader.items
  pub places : length new.place.items ≡ length old.place.items
  pub members : new.members ≡ old.members
  pub leader : (k : ℕ) → k < count → leader_of new (slice_index moved k) ≡ p
  pub place : (k : ℕ) → k < count → place_of new (slice_index moved k) ≡ from + k
  pub kept_leader : (x : ℕ) → ((k : ℕ) → k < count → slice_index moved k ≢ x) → leader_of new x ≡ leader_of old x
  pub kept_place : (x : ℕ) → ((k : ℕ) → k < count → slice_index moved k ≢ x) → place_of new x ≡ place_of old x

-- the group of n is put after the group of p
pub record Merges (old new : Groups) (n p : ℕ) : Type 0 where
  pub leaders : length new.leader.items ≡ length old.leader.items
  pub places : length new.place.items ≡ length old.place.items
  pub lists : length new.members ≡ length old.members
  pub moved : (x : ℕ) → x < length old.leader.items → leader_of old x ≡ n → leader_of new x ≡ p
  pub moved_place : (x : ℕ) → x < length old.leader.items → leader_of old x ≡ n → place_of new x ≡ length (group_of old p) + place_of old x
  pub kept : (x : ℕ) → leader_of old x ≢ n → leader_of new x ≡ leader_of old x
  pub kept_place : (x : ℕ) → leader_of old x ≢ n → place_of new x ≡ place_of old x
  pub joined : group_of new p ≡ group_of old p ++ group_of old n
  pub others : (l : ℕ) → l ≢ n → l ≢ p → group_of new l ≡ group_of old l
