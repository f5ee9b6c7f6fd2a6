-- The root, from what trees make of the slots at the ends of the method; private to this crate.
use Rattle.std.specs.Prelude.{◌≡◌, ℕ, pos, List, [], Option, Some, None}
use Rattle.pv_value.specs.declared.descriptor.JType.{JType}
use Rattle.pv_value.specs.declared.descriptor.JType.TheVariants as jtype
use Rattle.pv_graph.specs.declared.node.Op.{Op}
use Rattle.pv_graph.specs.declared.node.Op.TheVariants as op
use Rattle.pv_graph.specs.declared.node.OpSort.{OpSort}
use Rattle.pv_graph.specs.declared.node.OpSort.TheVariants.{I, L, A, F, T, H}
use Rattle.pv_graph.specs.declared.node.Node.{Node}
use Rattle.pv_graph.specs.Graphs.{Graph}
use Rattle.pv_graph.specs.Ops.{sort_over}
use Rattle.pv_equations.specs.Exp.{Exp, Over, NoExp, Then, three}
use Rattle.pv_equations.specs.Equations.{or_else, never_exp}
use Rattle.pv_terms.specs.declared.names.Named.{Named}
use Rattle.pv_terms.specs.Reads.{Reads}
use Rattle.pv_terms.specs.Terms.{IsOfSort}
use Rattle.pv_build.specs.declared.source.Given.{Given}
use Rattle.pv_build.specs.Unfolded.{none_of}
use Rattle.pv_build.specs.Sources.{Gives, FoldsTo}

-- the operation without kids of a value of the result's type
abbrev pub default_of : Option JType → Op
default_of None = op.Unit
default_of (Some jtype.J) = op.Long (pos 0)
default_of (Some jtype.A) = op.Null
default_of (Some t) = op.Int (pos 0)

-- .. and its sort
abbrev pub default_sort : Option JType → OpSort
default_sort None = T
default_sort (Some jtype.J) = L
default_sort (Some jtype.A) = A
default_sort (Some t) = I

-- what is given has the sort of the operation without kids
abbrev pub GivesLike : Graph → Given → ℕ → Option ℕ → Op → Type 0
GivesLike g x s dead o = (t : OpSort) × Gives g x s dead t × (sort_over o [] ≡ Some t)

-- the node stands for what the tree gives, or else for the operation
abbrev pub ReadsOrElse : Graph → Given → ℕ → Option ℕ → Op → Graph → ℕ → Type 0
ReadsOrElse old x s dead o new n = (names : List Named) (q : Option Exp) → FoldsTo old.nodes names x s dead q → Reads new.nodes names n (or_else q (Over o NoExp))

abbrev pub IsSortedOrElse : Graph → Given → ℕ → Option ℕ → Op → Graph → ℕ → Type 0
IsSortedOrElse old x s dead o new n = (t : OpSort) → Gives old x s dead t → sort_over o [] ≡ Some t → IsOfSort new n t

-- nodes of the right sorts are given at the ends, and at the returns for the result
pub record EndsGive (g : Graph) (ends returns : Given) (never : ℕ) (result : Option JType) : Type 0 where
  pub token : Gives g ends 0 (Some never) T
  pub fault : Gives g ends 1 None F
  pub heap : Gives g ends 3 None H
  pub result_is : Gives g returns 2 None (default_sort result)

-- what trees give for the four slots
pub record AtEnds : Type 0 where
  pub token : Option Exp
  pub fault : Option Exp
  pub result : Option Exp
  pub heap : Option Exp

pub record EndsFold (nodes : List Node) (names : List Named) (ends returns : Given) (never : ℕ) (q : AtEnds) : Type 0 where
  pub token : FoldsTo nodes names ends 0 (Some never) q.token
  pub fault : FoldsTo nodes names ends 1 None q.fault
  pub heap : FoldsTo nodes names ends 3 None q.heap
  pub result : FoldsTo nodes names returns 2 None q.result

-- the root over these
abbrev pub root_over : Option JType → AtEnds → Exp
root_over result q =
    Over op.Root (Then (or_else q.token never_exp) (three (or_else q.fault (Over op.Clear NoExp)) (or_else q.result (none_of result)) (or_else q.heap (Over op.Heap0 NoExp))))

abbrev pub ReadsRoot : Graph → Given → Given → ℕ → Option JType → Graph → ℕ → Type 0
ReadsRoot old ends returns never result new r = (names : List Named) (q : AtEnds) → EndsFold old.nodes names ends returns never q → Reads new.nodes names r (root_over result q)
