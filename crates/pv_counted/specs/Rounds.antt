-- Rounds: each finds the loops that count up whose start and bound are settled with the nodes of the round before assumed.
use Rattle.std.specs.Prelude.{◌≡◌, ◌↔◌, ◌<◌, ℕ, Bool, false, ◌&&◌, List, length, Some, slice_get, slice_index_or}
use Rattle.pv_graph.specs.declared.node.Node.{Node}
use Rattle.pv_graph.specs.Walks.{In}
use Rattle.pv_graph.specs.Graphs.{form_at}
use Rattle.pv_counted.specs.declared.loops.Loop.{Loop}
use Rattle.pv_counted.specs.Counted.{CountsUp, IsCounted, IsAscending}
use Rattle.pv_counted.specs.Laws.{IsNext}

-- the pass of a loop
abbrev pub pass_of : Loop → ℕ
pass_of l = l.pass

-- the loop of a pass, a start and a bound
abbrev pub loop_over : ℕ → ℕ → ℕ → Loop
loop_over pass start bound = record { pass = pass; start = start; bound = bound }

-- the start and the bound of a loop are marked
abbrev pub is_ready : List Bool → Loop → Bool
is_ready marks l = slice_index_or marks l.start false && slice_index_or marks l.bound false

-- all loops that count up whose passes are among the first `done` nodes, by ascending passes
pub record AreLoops (nodes : List Node) (done : ℕ) (loops : List Loop) : Type 0 where
  pub each : (p start bound : ℕ) → In loops (loop_over p start bound) ↔ ((p < done) × CountsUp (form_at nodes) p start bound)
  pub within : (l : Loop) → In loops l → (l.start < length nodes) × (l.bound < length nodes)
  pub ordered : (i j : ℕ) (l m : Loop) → i < j → slice_get loops i ≡ Some l → slice_get loops j ≡ Some m → l.pass < m.pass

-- a round after which these nodes were found finds the next ones
pub record IsRound (nodes : List Node) (found next : List ℕ) : Type 0 where
  pub are : (p : ℕ) → In next p ↔ IsNext nodes found p
  pub ordered : IsAscending next

-- what the rounds keep: the found nodes are counted, the next round finds them again, and they are ascending
pub record IsFound (nodes : List Node) (found : List ℕ) : Type 0 where
  pub counted : (p : ℕ) → In found p → IsCounted (form_at nodes) p
  pub again : (p : ℕ) → In found p → IsNext nodes found p
  pub ordered : IsAscending found
