-- The witnesses of all conditions that some matches ask. Here h has the nodes with class numbers, from which g grew.
use Rattle.std.specs.Prelude.{◌≡◌, ℕ, ◌<◌, ◌≤◌, Bool, true, List, [], length, Option, Some, None, slice_get}
use Rattle.std.specs.declared.alloc.Global.{Global}
use Rattle.std.specs.declared.vec.Vec.{Vec}
use Rattle.pv_graph.specs.Graphs.{Graph, form_at, IsGraph, Extends}
use Rattle.pv_heights.specs.Sides.{Match}
use Rattle.pv_marks.specs.Classes.{class_of}
use Rattle.pv_instances.specs.Made.{GrowsBy, KeepsDistinct}
use Rattle.pv_witness.specs.declared.condition.Condition.{Condition}
use Rattle.pv_witness.specs.declared.condition.Condition.TheVariants as condition
use Rattle.pv_witness.specs.Conditions.{HoldsOfNode, HoldsOfClass}
use Rattle.pv_witness.specs.Witnesses.{IsCopied, IsWitness}
use Rattle.pv_rounds.specs.declared.tables.AllWitnesses.{AllWitnesses}
use Rattle.pv_rounds.specs.Asking.{SomeSettled, SomeNotFree}

-- ---- one condition

-- each witness of the table is one, and the condition holds of it where these nodes are assumed to end
pub record IsTable (h g : Graph) (numbers assumed : List ℕ) (k : Condition) (table : List (Option ℕ)) : Type 0 where
  pub each : (c w : ℕ) → slice_get table c ≡ Some (Some w) → IsWitness h g numbers c w
  pub hold : (c w : ℕ) → slice_get table c ≡ Some (Some w) → HoldsOfNode g assumed k w

-- the table has a witness of each class of which the condition holds, whichever graph is the least one, from which the others grew
abbrev pub IsComplete : Graph → List ℕ → List ℕ → Condition → List (Option ℕ) → Type 0
IsComplete h numbers assumed k table =
    (least : Graph) → IsGraph least → Extends least h → length least.nodes ≤ length numbers → (n : ℕ) → HoldsOfClass (form_at least.nodes) assumed h numbers k n → (w : ℕ) × (slice_get table (class_of numbers n) ≡ Some (Some w))

-- a table, which is complete where it is asked for; from the old graph the new one grew by copies
pub record MakesTable (h old new : Graph) (numbers assumed : List ℕ) (k : Condition) (is_asked : Bool) (table : List (Option ℕ)) : Type 0 where
  pub grows : GrowsBy old new (IsCopied h new numbers)
  pub distinct : KeepsDistinct old new
  pub is : IsTable h new numbers assumed k table
  pub all : is_asked ≡ true → IsComplete h numbers assumed k table

-- ---- all conditions

abbrev pub rows_of : Option (Vec (Option ℕ) Global) → List (Option ℕ)
rows_of None = []
rows_of (Some v) = v.items

-- the table of the classes in which this depth isn't free
abbrev pub not_free_at : AllWitnesses → ℕ → List (Option ℕ)
not_free_at w d = rows_of (slice_get w.not_free.items d)

-- a table for each of the first depths, complete where some match asks for it; from the old graph the new one grew by copies
pub record MakesRows (h old new : Graph) (numbers assumed : List ℕ) (ms : List (Match ℕ)) (tables : List (Vec (Option ℕ) Global)) : Type 0 where
  pub grows : GrowsBy old new (IsCopied h new numbers)
  pub distinct : KeepsDistinct old new
  pub is : (d : ℕ) → IsTable h new numbers assumed (condition.NotFree d) (rows_of (slice_get tables d))
  pub all : (d : ℕ) → d < length tables → SomeNotFree ms d → IsComplete h numbers assumed (condition.NotFree d) (rows_of (slice_get tables d))

-- .. for all that some match asks for
pub record MakesNotFree (h old new : Graph) (numbers assumed : List ℕ) (ms : List (Match ℕ)) (tables : List (Vec (Option ℕ) Global)) : Type 0 where
  pub rows : MakesRows h old new numbers assumed ms tables
  pub enough : (d : ℕ) → SomeNotFree ms d → d < length tables

-- the tables for some matches
pub record AreTables (h g : Graph) (numbers assumed : List ℕ) (ms : List (Match ℕ)) (w : AllWitnesses) : Type 0 where
  pub settled : IsTable h g numbers assumed condition.Settled w.settled.items
  pub not_free : (d : ℕ) → IsTable h g numbers assumed (condition.NotFree d) (not_free_at w d)
  pub all_settled : SomeSettled ms → IsComplete h numbers assumed condition.Settled w.settled.items
  pub all_not_free : (d : ℕ) → SomeNotFree ms d → IsComplete h numbers assumed (condition.NotFree d) (not_free_at w d)

-- .. and from the old graph the new one grew by copies
pub record MakesTables (h old new : Graph) (numbers assumed : List ℕ) (ms : List (Match ℕ)) (w : AllWitnesses) : Type 0 where
  pub grows : GrowsBy old new (IsCopied h new numbers)
  pub distinct : KeepsDistinct old new
  pub are : AreTables h new numbers assumed ms w
