-- How classes grow at a level, which is the outside of all inductions or the inside of one. Its fixed depths are those of the open ones.
use Rattle.std.specs.Prelude.{◌≡◌, ℕ, ◌<◌, ◌≤◌, List, [], ◌∷◌, ◌++◌, length, drop, Some, slice_get}
use Rattle.pv_graph.specs.declared.node.Op.{Op}
use Rattle.pv_graph.specs.declared.node.Node.{Node}
use Rattle.pv_graph.specs.Walks.{In}
use Rattle.pv_classes.specs.declared.join.Join.{Join}
use Rattle.pv_classes.specs.Blocks.{Block}
use Rattle.pv_classes.specs.Partition.{AreOne}
use Rattle.pv_classes.specs.Closest.{Is}
use Rattle.pv_classes.specs.Grounds.{Context, depths, JoinsGround}
use Rattle.pv_classes.specs.Calls.{Classes, IsClasses, Knows}
use Rattle.pv_induct.specs.Joined.{LooksAside, Joined, With, IsInduction}

-- no axiom is cited
abbrev pub NoAxiom : ℕ → List ℕ → ℕ → ℕ → Type 0
NoAxiom n nodes a b = ⊥

-- nothing is joined but what may be joined
abbrev pub IsSound : List Node → List ℕ → List ℕ → List ℕ → Type 0
IsSound nodes fixed old new = (a b : ℕ) → AreOne new a b → Joined nodes fixed (AreOne old) [] a b

-- all is joined that may be joined
abbrev pub IsFull : List Node → List ℕ → List ℕ → List ℕ → Type 0
IsFull nodes fixed old new = (a b : ℕ) → Joined nodes fixed (AreOne old) [] a b → AreOne new a b

-- what was one is one
abbrev pub IsCoarser : List ℕ → List ℕ → Type 0
IsCoarser old new = (a b : ℕ) → AreOne old a b → AreOne new a b

-- nodes of one operation with joined kids are joined
abbrev pub IsClosed : List Node → List ℕ → List ℕ → Type 0
IsClosed nodes fixed numbers = (a b : ℕ) (o : Op) (ks ls : List ℕ) → Is nodes a o ks → Is nodes b o ls → LooksAside (In fixed) o → length ks ≡ length ls
    → ((i k l : ℕ) → slice_get ks i ≡ Some k → slice_get ls i ≡ Some l → AreOne numbers k l) → AreOne numbers a b

-- more was joined, each time for a reason; the blocks of this level are those after the first ones
pub record IsGrown (nodes : List Node) (fixed : List ℕ) (first : ℕ) (old new : Classes) : Type 0 where
  pub long : length new.numbers ≡ length old.numbers
  pub knows : Knows nodes new
  pub classes : IsClasses new
  pub sound : IsSound nodes fixed old.numbers new.numbers
  pub coarser : IsCoarser old.numbers new.numbers
  pub more : List Join
  pub joins : new.joins ≡ old.joins ++ more
  pub added : List Block
  pub blocks : new.blocks ≡ old.blocks ++ added
  pub none : more ≡ [] → added ≡ []
  pub rest : (ctx : Context) → depths ctx ≡ fixed → JoinsGround nodes NoAxiom ctx old.joins (drop first new.blocks) more

-- d is greater than every fixed depth
abbrev pub IsAbove : List ℕ → ℕ → Type 0
IsAbove fixed d = (e : ℕ) → In fixed e → e < d

-- the depths from this one on are those above the fixed ones
pub record IsFrom (fixed : List ℕ) (from : ℕ) : Type 0 where
  pub least : 1 ≤ from
  pub up : (d : ℕ) → 1 ≤ d → IsAbove fixed d → from ≤ d
  pub down : (d : ℕ) → from ≤ d → IsAbove fixed d

-- the pairs of each induction over depth d are joined
abbrev pub HoldsInductions : List Node → List ℕ → List ℕ → ℕ → Type 0
HoldsInductions nodes fixed numbers d = (P : List (ℕ × ℕ)) → IsInduction nodes fixed d P (AreOne numbers) (Joined nodes (d ∷ fixed) (With (AreOne numbers) P) [])
    → (x y : ℕ) → In P (x, y) → AreOne numbers x y

-- the least equivalence that holds R and the pairs
pub data Merged (R : ℕ → ℕ → Type 0) (pairs : List (ℕ × ℕ)) : ℕ → ℕ → Type 0 where
  old : (a b : ℕ) → R a b → Merged R pairs a b
  pair : (a b : ℕ) → In pairs (a, b) → Merged R pairs a b
  flip : (a b : ℕ) → Merged R pairs b a → Merged R pairs a b
  chain : (a b c : ℕ) → Merged R pairs a b → Merged R pairs b c → Merged R pairs a c
