-- The nodes over which the instance of a match is made. The match has a node for each of its classes. Here h has the nodes with class
-- numbers, and g grew from it.
use Rattle.std.specs.Prelude.{◌≡◌, ◌↔◌, ℕ, ◌<◌, List, [], length, Option, Some, slice_get}
use Rattle.pv_value.specs.declared.number.Num.{Num}
use Rattle.pv_graph.specs.declared.node.Op.{Op}
use Rattle.pv_graph.specs.Forms.{form}
use Rattle.pv_graph.specs.Walks.{In}
use Rattle.pv_graph.specs.Graphs.{Graph, form_at}
use Rattle.pv_pattern.specs.declared.names.NameId.{NameId}
use Rattle.pv_pattern.specs.declared.names.NameId.TheVariants as name
use Rattle.pv_pattern.specs.Patterns.{settled, not_free}
use Rattle.pv_pattern.specs.Binding.{names}
use Rattle.pv_axioms.specs.Entries.{axioms}
use Rattle.pv_heights.specs.Filled.{number_op}
use Rattle.pv_heights.specs.Sides.{Match, ClassHas}
use Rattle.pv_heights.specs.Rounds.{ClassCopy}
use Rattle.pv_heights.specs.Searches.{nodes, IsNode, OneClass}
use Rattle.pv_marks.specs.Classes.{class_of}
use Rattle.pv_witness.specs.Witnesses.{IsWitness}
use Rattle.pv_saturate.specs.declared.choice.Witnesses.{Witnesses}

-- the table has a witness of the class of v
abbrev pub HasWitness : List ℕ → List (Option ℕ) → ℕ → Type 0
HasWitness numbers table v = (w : ℕ) × (slice_get table (class_of numbers v) ≡ Some (Some w))

-- node n is this constant, an int or a long
abbrev pub IsConstantNode : Graph → Num → ℕ → Type 0
IsConstantNode g c n = (o : Op) × (number_op c ≡ Some o) × (form_at g.nodes n ≡ Some (form o []))

abbrev pub HasConstant : Graph → Num → Type 0
HasConstant g c = (n : ℕ) × IsConstantNode g c n

-- what must be so of a match for its nodes to be chosen: its axiom is one of the tables, each condition on a class has its witness, and each
-- variable for constants is of a class that holds its constant
pub record CanChoose (h g : Graph) (numbers : List ℕ) (m : Match ℕ) (t : Witnesses) : Type 0 where
  pub entry : In axioms m.entry
  pub vars : (v : ℕ) → In m.vars v → v < length numbers
  pub settled_ : (j v : ℕ) → In m.entry.sides (settled j) → slice_get m.vars j ≡ Some v → HasWitness numbers t.settled.now v
  pub not_free_ : (j v : ℕ) → In m.entry.sides (not_free j) → slice_get m.vars j ≡ Some v → HasWitness numbers t.not_free.now v
  pub constants : (j v : ℕ) → In (names m.entry.left) (name.Constant j) → slice_get m.vars j ≡ Some v → (o : Op) × (number_op (m.params.constants j) ≡ Some o) × ClassHas (nodes h) (IsNode h) (OneClass numbers) v o []
  pub of_settled : (c w : ℕ) → slice_get t.settled.now c ≡ Some (Some w) → IsWitness h g numbers c w
  pub of_not_free : (c w : ℕ) → slice_get t.not_free.now c ≡ Some (Some w) → IsWitness h g numbers c w

-- node w is chosen for variable j, whose class is that of node v: it is a copy of a node of the class, with its sort; where the axiom asks a
-- condition it is the witness, and for a variable for constants it is the constant
pub record IsChosenFor (h g : Graph) (numbers : List ℕ) (m : Match ℕ) (t : Witnesses) (j v w : ℕ) : Type 0 where
  pub copy : ClassCopy (nodes g) (IsNode h) (OneClass numbers) (IsNode g) v w
  pub sort_ : slice_get g.sorts w ≡ slice_get h.sorts v
  pub settled_ : In m.entry.sides (settled j) → slice_get t.settled.now (class_of numbers v) ≡ Some (Some w)
  pub not_free_ : In m.entry.sides (not_free j) → slice_get t.not_free.now (class_of numbers v) ≡ Some (Some w)
  pub constant : In (names m.entry.left) (name.Constant j) → IsConstantNode g (m.params.constants j) w

-- one is chosen for each of these variables
pub record AreChosenFor (h g : Graph) (numbers : List ℕ) (m : Match ℕ) (t : Witnesses) (vars chosen : List ℕ) : Type 0 where
  pub long : length chosen ≡ length vars
  pub each : (j v w : ℕ) → slice_get vars j ≡ Some v → slice_get chosen j ≡ Some w → IsChosenFor h g numbers m t j v w

-- these are the names of the left side
abbrev pub AreNames : List NameId → Match ℕ → Type 0
AreNames ns m = (n : NameId) → In ns n ↔ In (names m.entry.left) n
