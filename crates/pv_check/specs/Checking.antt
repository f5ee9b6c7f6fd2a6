-- What is known after the first steps of a section, and what a section is judged to be.
use Rattle.std.specs.Prelude.{◌≡◌, ℕ, ◌+◌, ◌-◌, ◌<◌, Bool, false, List, length, reverse, Option, None, Some, Result, Ok, IfOk, slice_index_or, take}
use Rattle.pv_value.specs.declared.memory.Memory.{Memory}
use Rattle.pv_graph.specs.Graphs.{Graph}
use Rattle.pv_graph.specs.Calls.{IsSame}
use Rattle.pv_steps.specs.declared.step.Step.{Step}
use Rattle.pv_steps.specs.Steps.{numbered}
use Rattle.pv_steps.specs.Right.{GraphAfter, Instances, Right}
use Rattle.pv_steps.specs.Accepted.{AllRight, Derives, IsConcluded, Rejects, first_steps}
use Rattle.pv_check.specs.declared.checker.Checked.{Checked}
use Rattle.pv_check.specs.declared.checker.Checked.TheVariants.{Accepted, Rejected}
use Rattle.pv_check.specs.Kept.{AreKept}

-- the graph is the one that the first n steps made, right or not, but for being prepared
pub record IsReplayed (g : Graph) (steps : List Step) (n : ℕ) (innermost : List ℕ) (opened : List Bool) (graph : Graph) : Type 0 where
  pub kept : AreKept (take n steps) innermost opened
  pub now : Graph
  pub after : GraphAfter g (first_steps n steps) now
  pub same : IsSame now graph
  pub sealed : graph.is_open ≡ false

-- the graph is the one that all steps made, right or not, but for being prepared
pub record IsAfter (g : Graph) (steps : List Step) (graph : Graph) : Type 0 where
  pub now : Graph
  pub after : GraphAfter g (reverse steps) now
  pub same : IsSame now graph
  pub sealed : graph.is_open ≡ false

-- the graph is the one that the first n steps made, and these are right by the rules where the first ones, up to place a, are
pub record IsSoFar (R : Instances) (g : Graph) (steps : List Step) (a n : ℕ) (innermost : List ℕ) (opened : List Bool) (graph : Graph) : Type 0 where
  pub replayed : IsReplayed g steps n innermost opened graph
  pub right : AllRight R g (first_steps a steps) → AllRight R g (first_steps n steps)

-- two nodes of a graph, which a section is to show equal
pub record Claim : Type 0 where
  pub graph : Graph
  pub first : ℕ
  pub second : ℕ

abbrev pub claimed : Graph → ℕ → ℕ → Claim
claimed g a b = record { graph = g; first = a; second = b }

-- a section is rejected with this number, or there is none: then the steps before place b are right and, where they are all, conclude
-- that the two nodes are equal
abbrev pub IsUpTo : Instances → Claim → List Step → ℕ → Option ℕ → Type 0
IsUpTo R c steps b (Some n) = Rejects R c.graph c.first c.second steps n
IsUpTo R c steps b None = AllRight R c.graph (first_steps b steps) × (b ≡ length steps → IsConcluded (reverse steps) c.first c.second)

-- what a piece from place a up to place b answers: it tells of the steps before b, where those before a are right
abbrev pub IsPiece : Instances → Claim → List Step → ℕ → ℕ → Option ℕ → Type 0
IsPiece R c steps a b number = AllRight R c.graph (first_steps a steps) → IsUpTo R c steps b number

-- these are the answers of pieces, from each of the places to the next, that make up the section; but for those that are out of memory
pub record ArePieces (R : Instances) (c : Claim) (steps : List Step) (at : ℕ → ℕ) (parts : List (Result (Option ℕ) Memory)) : Type 0 where
  pub some : 0 < length parts
  pub first : at 0 ≡ 0
  pub last : at (length parts) ≡ length steps
  pub each : (k : ℕ) (d : Result (Option ℕ) Memory) → k < length parts → IfOk (slice_index_or parts k d) (λ number. IsPiece R c steps (at k) (at (k + 1)) number)

-- the first n pieces answer no number
abbrev pub NoneBefore : List (Result (Option ℕ) Memory) → ℕ → Type 0
NoneBefore parts n = (k : ℕ) → k < n → slice_index_or parts k (Ok None) ≡ Ok None

-- the answer goes by the first number of a piece, and accepts where there is none
abbrev pub IsFirst : List (Result (Option ℕ) Memory) → Checked → Type 0
IsFirst parts Accepted = NoneBefore parts (length parts)
IsFirst parts (Rejected m) = (n : ℕ) × (n < length parts) × NoneBefore parts n × (slice_index_or parts n (Ok None) ≡ Ok (Some m))

-- the answer about a section is right
abbrev pub IsJudged : Instances → Claim → List Step → Checked → Type 0
IsJudged R c steps Accepted = Derives R c.graph c.first c.second steps
IsJudged R c steps (Rejected n) = Rejects R c.graph c.first c.second steps n

-- step k, counted from 1, is right after the steps before it; so each node step among these is right
abbrev pub IsRightAt : Instances → Graph → List Step → ℕ → Type 0
IsRightAt R g steps k = (s : Step) × (numbered steps k ≡ Some s) × Right R g (first_steps (k - 1) steps) s
