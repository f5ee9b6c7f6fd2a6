-- The tables as a program has them.
use Rattle.std.specs.Prelude.{◌≡◌, List, map}
use Rattle.pv_pattern.specs.declared.pattern.Axiom.{Axiom}
use Rattle.pv_pattern.specs.Seen.{axiom_seen}
use Rattle.pv_scalar.specs.Table.{scalar_axioms}
use Rattle.pv_loopax.specs.Table.{loop_axioms}
use Rattle.pv_heapax.specs.Table.{heap_axioms}
use Rattle.pv_choiceax.specs.Table.{choice_axioms}

pub record AreTables (scalar loops heap choices : List Axiom) : Type 0 where
  pub scalars : map axiom_seen scalar ≡ scalar_axioms
  pub loops_ : map axiom_seen loops ≡ loop_axioms
  pub heaps : map axiom_seen heap ≡ heap_axioms
  pub choices_ : map axiom_seen choices ≡ choice_axioms
