-- Classes in which the two sides of each instance of a round were joined.
use Rattle.std.specs.Prelude.{◌≡◌, ℕ, ◌<◌, List, ◌++◌, map, length}
use Rattle.pv_graph.specs.declared.node.Node.{Node}
use Rattle.pv_graph.specs.Walks.{In}
use Rattle.pv_classes.specs.declared.join.Join.{Join}
use Rattle.pv_classes.specs.declared.join.Reason.TheVariants as reason
use Rattle.pv_classes.specs.Calls.{Classes, IsClasses, Knows}
use Rattle.pv_heights.specs.Searches.{OneClass, Joining}
use Rattle.pv_rounds.specs.declared.owed.Owed.{Owed}

-- the two sides
abbrev pub pair_of : Owed → ℕ × ℕ
pair_of o = (o.left, o.right)

abbrev pub pairs_of : List Owed → List (ℕ × ℕ)
pairs_of owed = map pair_of owed

-- the join of the two sides, by the axiom
abbrev pub join_of : Owed → Join
join_of o = record { first = o.left; second = o.right; why = reason.Axiom o.axiom o.subst.items }

-- both sides have class numbers
abbrev pub AreWithin : ℕ → List Owed → Type 0
AreWithin n owed = (o : Owed) → In owed o → (o.left < n) × (o.right < n)

-- the least equivalence that holds the classes and these pairs
pub data Linked (numbers : List ℕ) (pairs : List (ℕ × ℕ)) : ℕ → ℕ → Type 0 where
  given : (a b : ℕ) → Joining numbers pairs a b → Linked numbers pairs a b
  flip : (a b : ℕ) → Linked numbers pairs b a → Linked numbers pairs a b
  chain : (a b c : ℕ) → Linked numbers pairs a b → Linked numbers pairs b c → Linked numbers pairs a c

-- both sides of each of these were joined, and what follows from that
pub record JoinsAll (old new : Classes) (owed : List Owed) : Type 0 where
  pub long : length new.numbers ≡ length old.numbers
  pub joined : (a b : ℕ) → Joining old.numbers (pairs_of owed) a b → OneClass new.numbers a b
  pub only : (a b : ℕ) → OneClass new.numbers a b → Linked old.numbers (pairs_of owed) a b
  pub joins : new.joins ≡ old.joins ++ map join_of owed
  pub blocks : new.blocks ≡ old.blocks
  pub knows : (nodes : List Node) → Knows nodes old → Knows nodes new
  pub classes : IsClasses new
