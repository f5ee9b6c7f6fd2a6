-- What `induct` does.
use Rattle.std.specs.Prelude.{◌≡◌, ◌≢◌, ℕ, ◌<◌, Bool, true, false, List, [], ◌++◌, length, Some, slice_get}
use Rattle.std.specs.List.{Contains}
use Rattle.pv_graph.specs.declared.node.OpSort.{OpSort}
use Rattle.pv_graph.specs.declared.node.Node.{Node}
use Rattle.pv_graph.specs.Calls.{AreSorts}
use Rattle.pv_classes.specs.declared.join.Join.{Join}
use Rattle.pv_classes.specs.declared.join.Reason.TheVariants as reason
use Rattle.pv_classes.specs.Blocks.{Block, pairs_of}
use Rattle.pv_classes.specs.Partition.{AreOne}
use Rattle.pv_classes.specs.Grounds.{JoinsGround}
use Rattle.pv_classes.specs.Sorts.{JoinOneSort, PairOneSort}
use Rattle.pv_classes.specs.Calls.{Classes, IsClasses, Knows}
use Rattle.pv_induct.specs.Joined.{Joined}
use Rattle.pv_induct.specs.Levels.{NoAxiom}

-- two nodes have one class number
abbrev pub OneClass : List ℕ → ℕ → ℕ → Type 0
OneClass numbers a b = (a < length numbers) × (b < length numbers) × AreOne numbers a b

-- joins are of nodes of one sort, and so are the pairs of each induction that they name
pub record AreOfOneSort (sorts : List OpSort) (blocks : List Block) (joins : List Join) : Type 0 where
  pub each : JoinOneSort sorts joins
  pub pairs : (j : Join) (n : ℕ) (b : Block) → Contains joins j → j.why ≡ reason.Induction n → slice_get blocks n ≡ Some b → PairOneSort sorts (pairs_of b)

-- two nodes are in one class exactly where they may be joined, with all inductions, over the classes that were; the new joins have
-- their ground, by kids or by a block of an induction; where the old joins are of nodes of one sort, the new ones are too, with the pairs of
-- their inductions; and the answer is true exactly where something was joined
pub record Inducts (nodes : List Node) (old new : Classes) (found : Bool) : Type 0 where
  pub knows : Knows nodes new
  pub classes : IsClasses new
  pub sound : (a b : ℕ) → OneClass new.numbers a b → Joined nodes [] (OneClass old.numbers) [] a b
  pub full : (a b : ℕ) → Joined nodes [] (OneClass old.numbers) [] a b → OneClass new.numbers a b
  pub more : List Join
  pub joins : new.joins ≡ old.joins ++ more
  pub added : List Block
  pub blocks : new.blocks ≡ old.blocks ++ added
  pub rest : JoinsGround nodes NoAxiom [] old.joins new.blocks more
  pub one_sort : (sorts : List OpSort) → AreSorts nodes sorts → JoinOneSort sorts old.joins → AreOfOneSort sorts new.blocks more
  pub yes : found ≡ true → more ≢ []
  pub no : found ≡ false → (more ≡ []) × (added ≡ []) × (new.numbers ≡ old.numbers)
