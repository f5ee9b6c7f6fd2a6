-- Matches: an axiom, what its names stand for, and a class for each variable, over which its left side stands and its conditions
-- hold; and how many there are.
use Rattle.std.specs.Prelude.{◌≡◌, ℕ, ◌<◌, false, List, [], length, Some, slice_get}
use Rattle.std.specs.List.{AllZip, AllByRecursion}
use Rattle.pv_graph.specs.declared.node.Op.{Op}
use Rattle.pv_graph.specs.Walks.{In}
use Rattle.pv_pattern.specs.declared.names.NameId.{NameId}
use Rattle.pv_pattern.specs.declared.names.NameId.TheVariants as name
use Rattle.pv_pattern.specs.Patterns.{Axiom, variables, is_family}
use Rattle.pv_pattern.specs.Binding.{names}
use Rattle.pv_steps.specs.Facts.{View}
use Rattle.pv_heights.specs.Systems.{System, Subset, Relation}
use Rattle.pv_heights.specs.Filled.{Params, number_op}
use Rattle.pv_heights.specs.Sides.{Match, ClassHas, StandsIn}
use Rattle.pv_heights.specs.Conditions.{Holds}

-- m is a match, over the classes of its things: its axiom is in the table, and has a thing for each of its variables and none for
-- more; its left side stands in a class; each variable for constants stands for a constant that its class holds; and its
-- conditions hold
pub record IsMatch (view : View) (assumed : List ℕ) (table : List Axiom) (S : System) (Member : Subset S) (Joins : Relation S) (m : Match S.Thing) : Type 0 where
  pub of_table : In table m.entry
  pub kids : AllByRecursion Member m.kids
  pub vars : AllByRecursion Member m.vars
  pub long : length m.vars ≡ variables m.entry.left
  pub alone : is_family m.entry.left ≡ false → m.kids ≡ []
  pub at_ : S.Thing
  pub is : Member at_
  pub stands : StandsIn S Member Joins m m.entry.left at_
  pub constants : (j : ℕ) → In (names m.entry.left) (name.Constant j) → (x : S.Thing) × (o : Op) × (slice_get m.vars j ≡ Some x) × (number_op (m.params.constants j) ≡ Some o) × ClassHas S Member Joins x o []
  pub sides : AllByRecursion (Holds view assumed S Member Joins m) m.entry.sides

-- ---- how many matches there are

-- this name stands for the same in both
abbrev pub AgreeOn : Params → Params → NameId → Type 0
AgreeOn p q name.Depth = p.depth ≡ q.depth
AgreeOn p q (name.Symbol s) = p.symbols s ≡ q.symbols s
AgreeOn p q (name.Kind k) = p.kinds k ≡ q.kinds k
AgreeOn p q (name.Constant j) = p.constants j ≡ q.constants j
AgreeOn p q name.Operation = p.op_ ≡ q.op_

-- both are one match: they have one axiom, what its left side names stands for the same, and their things are of the same classes.
-- So a class that holds two constants gives two matches for a variable for constants
pub record AreOne {A : Type 0} (Joins : A → A → Type 0) (m n : Match A) : Type 0 where
  pub entry : m.entry ≡ n.entry
  pub params : (i : NameId) → In (names m.entry.left) i → AgreeOn m.params n.params i
  pub kids : AllZip Joins m.kids n.kids
  pub vars : AllZip Joins m.vars n.vars

-- there are at least n matches: a list of n, of which no two are one
pub record AtLeast (view : View) (assumed : List ℕ) (table : List Axiom) (S : System) (Member : Subset S) (Joins : Relation S) (n : ℕ) : Type 0 where
  pub list : List (Match S.Thing)
  pub long : length list ≡ n
  pub each : (i : ℕ) (m : Match S.Thing) → slice_get list i ≡ Some m → IsMatch view assumed table S Member Joins m
  pub once : (i j : ℕ) (m o : Match S.Thing) → i < j → slice_get list i ≡ Some m → slice_get list j ≡ Some o → AreOne Joins m o → ⊥

-- no match joins more: its right side stands in each class in which its left side stands
abbrev pub IsSaturated : View → List ℕ → List Axiom → (S : System) → Subset S → Relation S → Type 0
IsSaturated view assumed table S Member Joins = (m : Match S.Thing) (t : S.Thing) → IsMatch view assumed table S Member Joins m → Member t → StandsIn S Member Joins m m.entry.left t → StandsIn S Member Joins m m.entry.right t
