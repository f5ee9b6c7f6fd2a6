-- What is known of tables of witnesses. Here h has the nodes with class numbers, and g grew from it.
use Rattle.std.specs.Prelude.{◌≡◌, ℕ, List, Some, slice_get}
use Rattle.pv_graph.specs.Graphs.{Graph}
use Rattle.pv_graph.specs.Walks.{In}
use Rattle.pv_pattern.specs.Patterns.{settled, not_free}
use Rattle.pv_steps.specs.Facts.{View}
use Rattle.pv_heights.specs.Sides.{Match}
use Rattle.pv_witness.specs.Conditions.{HoldsOfNode, HoldsOfClass}
use Rattle.pv_witness.specs.Witnesses.{IsWitness}
use Rattle.pv_witness.specs.declared.condition.Condition.TheVariants as condition
use Rattle.pv_saturate.specs.declared.choice.Witnesses.{Witnesses}
use Rattle.pv_saturate.specs.Choice.{HasWitness}

-- each entry is a witness; and where the axiom of the match asks a condition, there is one of each class of which it holds
pub record HaveWitnesses (view : View) (assumed : List ℕ) (h g : Graph) (numbers : List ℕ) (m : Match ℕ) (t : Witnesses) : Type 0 where
  pub of_settled : (c w : ℕ) → slice_get t.settled.now c ≡ Some (Some w) → IsWitness h g numbers c w
  pub of_not_free : (c w : ℕ) → slice_get t.not_free.now c ≡ Some (Some w) → IsWitness h g numbers c w
  pub settled_ : (j n : ℕ) → In m.entry.sides (settled j) → HoldsOfClass view assumed h numbers condition.Settled n → HasWitness numbers t.settled.now n
  pub not_free_ : (j n : ℕ) → In m.entry.sides (not_free j) → HoldsOfClass view assumed h numbers (condition.NotFree m.params.depth) n → HasWitness numbers t.not_free.now n

-- where the axiom of the match asks a condition, it holds of each witness
pub record WitnessesHold (g : Graph) (assumed : List ℕ) (m : Match ℕ) (t : Witnesses) : Type 0 where
  pub settled_ : (j c w : ℕ) → In m.entry.sides (settled j) → slice_get t.settled.now c ≡ Some (Some w) → HoldsOfNode g assumed condition.Settled w
  pub not_free_ : (j c w : ℕ) → In m.entry.sides (not_free j) → slice_get t.not_free.now c ≡ Some (Some w) → HoldsOfNode g assumed (condition.NotFree m.params.depth) w
