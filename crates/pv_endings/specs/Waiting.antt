-- Tests of nodes that may be assumed to end.
use Rattle.std.specs.Prelude.{◌↔◌, ℕ, ◌<◌, ◌≤◌, Bool, List}
use Rattle.pv_graph.specs.declared.node.Op.{Op}
use Rattle.pv_graph.specs.Graphs.{Graph}
use Rattle.pv_graph.specs.Walks.{In}
use Rattle.pv_graph.specs.Calls.{IsFree}
use Rattle.pv_graph.specs.Reach.{IsMarked}
use Rattle.pv_steps.specs.Right.{Is, IsPassOrCallEnd, MayBeAssumed}
use Rattle.pv_endings.specs.Endings.{IsAscending}

-- node n is a pass or the end of a call
abbrev pub Waits : Graph → ℕ → Type 0
Waits g n = (o : Op) × (kids : List ℕ) × Is g n o kids × IsPassOrCallEnd o

-- no depth from 1 on and less than this is free in it
abbrev pub IsClosedBelow : Graph → ℕ → ℕ → Type 0
IsClosedBelow g n most = (d : ℕ) → 1 ≤ d → d < most → IsFree g d n → ⊥

-- .. and the node is marked
abbrev pub MayBe : Graph → List Bool → ℕ → Type 0
MayBe g marks n = Waits g n × (IsClosedBelow g n 17 × IsMarked marks n)

-- exactly the nodes below n that may be, in order
pub record AreFirst (g : Graph) (marks : List Bool) (n : ℕ) (ns : List ℕ) : Type 0 where
  pub are : (m : ℕ) → In ns m ↔ ((m < n) × MayBe g marks m)
  pub ordered : IsAscending ns

-- exactly the nodes that may be assumed for a token, in order
pub record AreWaitingOn (g : Graph) (token : ℕ) (ns : List ℕ) : Type 0 where
  pub are : (m : ℕ) → In ns m ↔ MayBeAssumed g token m
  pub ordered : IsAscending ns
