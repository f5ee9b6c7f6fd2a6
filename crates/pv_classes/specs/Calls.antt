-- What the calls of `Classes` require and ensure. After out of memory nothing is promised but that the classes are classes.
use Rattle.std.specs.Prelude.{◌≡◌, ◌↔◌, ℕ, ◌<◌, ◌≤◌, ◌^◌, List, [], ◌∷◌, ◌++◌, length, take}
use Rattle.std.specs.List.{Contains}
use Rattle.pv_graph.specs.declared.node.Node.{Node}
use Rattle.pv_classes.specs.declared.join.Join.{Join}
use Rattle.pv_classes.specs.declared.join.Reason.{Reason}
use Rattle.pv_classes.specs.Blocks.{Block}
use Rattle.pv_classes.specs.Partition.{at, AreOne, IsThrough}
use Rattle.pv_classes.specs.Linked.{Linked}
use Rattle.pv_classes.specs.Closest.{Closest, AreOfKids}
use Rattle.pv_classes.specs.Index.{Index, AreJoined, IsIndex, IsTracked}

-- classes of nodes: the number of each node's class, which is its least node; the joins, the oldest first; the blocks; and the index
pub record Classes : Type 0 where
  pub numbers : List ℕ
  pub joins : List Join
  pub blocks : List Block
  pub index : Index

abbrev pub classes_of : Index → List Join → List Block → Classes
classes_of i joins blocks = record { numbers = i.parts.numbers; joins = joins; blocks = blocks; index = i }

-- what all classes are: the number of a class is its least node, and two nodes have one number exactly where the joins link them
pub record IsClasses (c : Classes) : Type 0 where
  pub few : length c.numbers < 2 ^ 32
  pub low : (k : ℕ) → k < length c.numbers → at c.numbers k ≤ k
  pub least : (k : ℕ) → k < length c.numbers → at c.numbers (at c.numbers k) ≡ at c.numbers k
  pub within : (j : Join) → Contains c.joins j → (j.first < length c.numbers) × (j.second < length c.numbers)
  pub linked : (a b : ℕ) → a < length c.numbers → b < length c.numbers → AreOne c.numbers a b ↔ Linked (length c.numbers) c.joins a b

-- ---- the nodes that the classes know

-- these are the nodes that the classes know
pub record Knows (nodes : List Node) (c : Classes) : Type 0 where
  pub numbers : c.numbers ≡ c.index.parts.numbers
  pub long : length c.numbers ≡ length nodes
  pub index : IsIndex nodes c.index
  pub tracked : (n : ℕ) → n < length nodes → IsTracked nodes c.index n

-- these are the first nodes of a list that the classes know
abbrev pub KnowsFirst : List Node → Classes → Type 0
KnowsFirst nodes c = (length c.numbers ≤ length nodes) × Knows (take (length c.numbers) nodes) c

-- ---- what calls do

-- each node has a class of its own, and nothing was joined
pub record IsNew (nodes : List Node) (c : Classes) : Type 0 where
  pub long : length c.numbers ≡ length nodes
  pub own : (k : ℕ) → k < length nodes → at c.numbers k ≡ k
  pub joins : c.joins ≡ []
  pub blocks : c.blocks ≡ []
  pub knows : Knows nodes c
  pub classes : IsClasses c

-- each new node has a class of its own
pub record Grows (nodes : List Node) (old new : Classes) : Type 0 where
  pub long : length new.numbers ≡ length nodes
  pub kept : (k : ℕ) → k < length old.numbers → at new.numbers k ≡ at old.numbers k
  pub own : (k : ℕ) → length old.numbers ≤ k → k < length nodes → at new.numbers k ≡ k
  pub joins : new.joins ≡ old.joins
  pub blocks : new.blocks ≡ old.blocks
  pub knows : Knows nodes new
  pub classes : IsClasses new

-- the classes of a and b became one, and no others
pub record Joins (old new : Classes) (a b : ℕ) (why : Reason) : Type 0 where
  pub long : length new.numbers ≡ length old.numbers
  pub coarser : (u v : ℕ) → u < length old.numbers → v < length old.numbers → AreOne old.numbers u v → AreOne new.numbers u v
  pub one : AreOne new.numbers a b
  pub only : (u v : ℕ) → u < length old.numbers → v < length old.numbers → AreOne new.numbers u v → IsThrough old.numbers a b u v
  pub joins : new.joins ≡ old.joins ++ record { first = a; second = b; why = why } ∷ []
  pub blocks : new.blocks ≡ old.blocks
  pub knows : (nodes : List Node) → Knows nodes old → Knows nodes new
  pub classes : IsClasses new

-- the classes are the least congruence over the old ones, outside the fixed depths; the new joins are by kids
pub record Closes (nodes : List Node) (fixed : List ℕ) (old new : Classes) : Type 0 where
  pub long : length new.numbers ≡ length old.numbers
  pub sound : (a b : ℕ) → a < length nodes → b < length nodes → AreOne new.numbers a b → Closest nodes fixed (AreOne old.numbers) a b
  pub full : (a b : ℕ) → a < length nodes → b < length nodes → Closest nodes fixed (AreOne old.numbers) a b → AreOne new.numbers a b
  pub more : List Join
  pub joins : new.joins ≡ old.joins ++ more
  pub of_kids : AreOfKids nodes fixed old.joins more
  pub blocks : new.blocks ≡ old.blocks
  pub knows : Knows nodes new
  pub classes : IsClasses new

-- equal classes
pub record Copies (old new : Classes) : Type 0 where
  pub numbers : new.numbers ≡ old.numbers
  pub joins : new.joins ≡ old.joins
  pub blocks : new.blocks ≡ old.blocks
  pub knows : (nodes : List Node) → Knows nodes old → Knows nodes new
  pub classes : IsClasses new

-- one block more
pub record AddsBlock (old new : Classes) (b : Block) (n : ℕ) : Type 0 where
  pub number : n ≡ length old.blocks
  pub blocks : new.blocks ≡ old.blocks ++ b ∷ []
  pub numbers : new.numbers ≡ old.numbers
  pub joins : new.joins ≡ old.joins
  pub knows : (nodes : List Node) → Knows nodes old → Knows nodes new
  pub classes : IsClasses new

-- ---- classes that are saved

-- saved classes: their index, and how many joins and blocks there were
pub record Saved : Type 0 where
  pub index : Index
  pub joins : ℕ
  pub blocks : ℕ

-- these classes were saved
pub record IsSaved (c : Classes) (saved : Saved) : Type 0 where
  pub index : saved.index ≡ c.index
  pub numbers : c.numbers ≡ c.index.parts.numbers
  pub joins : saved.joins ≡ length c.joins
  pub blocks : saved.blocks ≡ length c.blocks
  pub joined : AreJoined c.index.parts c.joins

-- the new classes have these joins and blocks after the old ones
pub record HaveMore (old new : Classes) (joins : List Join) (blocks : List Block) : Type 0 where
  pub joins_are : new.joins ≡ old.joins ++ joins
  pub blocks_are : new.blocks ≡ old.blocks ++ blocks

-- the classes come after those that were saved
pub record CanRestore (saved : Saved) (c : Classes) : Type 0 where
  pub outer : Classes
  pub is : IsSaved outer saved
  pub joins : List Join
  pub blocks : List Block
  pub more : HaveMore outer c joins blocks

-- the classes are those that were saved again, and these joins and blocks are what the others had more
pub record Restores (saved : Saved) (old new : Classes) (joins : List Join) (blocks : List Block) : Type 0 where
  pub back : (outer : Classes) (more : List Join) (added : List Block) → IsSaved outer saved → HaveMore outer old more added → (new ≡ outer) × (joins ≡ more) × (blocks ≡ added)
