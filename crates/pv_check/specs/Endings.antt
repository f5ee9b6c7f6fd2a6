-- What is asked of the steps of an ending block.
use Rattle.std.specs.Prelude.{◌≡◌, ℕ, List, [], ◌∷◌}
use Rattle.pv_graph.specs.Graphs.{Graph}
use Rattle.pv_steps.specs.declared.step.Step.{Step}
use Rattle.pv_steps.specs.declared.step.Step.TheVariants.{Assume}
use Rattle.pv_steps.specs.Steps.{Ending, OpenBlock, outer_of}
use Rattle.pv_steps.specs.Right.{Gives}
use Rattle.pv_endings.specs.declared.root.RootParts.{RootParts}
use Rattle.pv_endings.specs.Endings.{IsRootOver}
use Rattle.pv_check.specs.declared.endings.RootReasons.{RootReasons}

-- the step opens a block for this root
abbrev pub IsEndingOf : ℕ → Step → Type 0
IsEndingOf root (Assume p nodes) = p ≡ root
IsEndingOf root s = ⊥

-- the innermost of these blocks is one for this root
pub record IsInnermost (inside : List OpenBlock) (root : ℕ) : Type 0 where
  pub opened : ℕ
  pub nodes : List ℕ
  pub outer : List OpenBlock
  pub is : inside ≡ record { opened = opened; block = Ending root nodes } ∷ outer

-- the kids of two roots are equal, the tokens outside the innermost block
pub record AreEqualKids (before : List Step) (inside : List OpenBlock) (left right : RootParts) (by : RootReasons) : Type 0 where
  pub tokens : Gives before (outer_of inside) [] by.token left.token right.token
  pub faults : Gives before inside [] by.fault left.fault right.fault
  pub results : Gives before inside [] by.result left.result right.result
  pub heaps : Gives before inside [] by.heap left.heap right.heap

pub record AreEqualRoots (g : Graph) (before : List Step) (inside : List OpenBlock) (p q : ℕ) (by : RootReasons) : Type 0 where
  pub left : RootParts
  pub right : RootParts
  pub is_left : IsRootOver g p left
  pub is_right : IsRootOver g q right
  pub kids : AreEqualKids before inside left right by
