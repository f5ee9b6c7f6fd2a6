-- What is asked of a set of congruences, one list after another.
use Rattle.std.specs.Prelude.{◌⊎◌, ℕ, ◌≤◌, ◌<◌, List}
use Rattle.std.specs.List.{AllByRecursion}
use Rattle.pv_graph.specs.declared.node.Op.{Op}
use Rattle.pv_graph.specs.Graphs.{Graph}
use Rattle.pv_steps.specs.declared.step.Congruence.{Congruence}
use Rattle.pv_steps.specs.declared.step.Step.{Step}
use Rattle.pv_steps.specs.Steps.{OpenBlock, both_sides}
use Rattle.pv_steps.specs.Right.{Is, GiveAll, IsOutside}
use Rattle.pv_check.specs.Nodes.{LooksAt}

-- two nodes of one operation with equal kids
pub record AreAlike (g : Graph) (before : List Step) (inside : List OpenBlock) (cs : List Congruence) (c : Congruence) : Type 0 where
  pub o : Op
  pub lefts : List ℕ
  pub rights : List ℕ
  pub left : Is g c.left o lefts
  pub right : Is g c.right o rights
  pub kids : GiveAll before inside (both_sides cs) c.reasons lefts rights

-- the left node doesn't look at other iterations of the depth
abbrev pub LooksElsewhere : Graph → ℕ → Congruence → Type 0
LooksElsewhere g d c = LooksAt g c.left d → ⊥

-- no reason is a fact inside a block of the depth
abbrev pub IsOutsideAt : List Step → ℕ → Congruence → Type 0
IsOutsideAt before d c = AllByRecursion (IsOutside before d) c.reasons

-- no operation of the set looks at other iterations of the depth, or no reason comes from inside a block of it
abbrev pub KeepsDepth : Graph → List Step → List Congruence → ℕ → Type 0
KeepsDepth g before cs d = AllByRecursion (LooksElsewhere g d) cs ⊎ AllByRecursion (IsOutsideAt before d) cs

-- .. at each depth of a loop
abbrev pub KeepsDepths : Graph → List Step → List Congruence → Type 0
KeepsDepths g before cs = (d : ℕ) → 1 ≤ d → d < 17 → KeepsDepth g before cs d
