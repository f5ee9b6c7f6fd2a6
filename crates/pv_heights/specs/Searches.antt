-- A search on the nodes of a graph that grows from a least graph, with a class number for each node: its rounds, what it has reached
-- after some of them, and what it answers.
use Rattle.std.specs.Prelude.{◌≡◌, ◌⊎◌, ℕ, zero, suc, ◌<◌, ◌≤◌, List, [], length, Some, slice_get, nat_le, None, if◌then◌else◌}
use Rattle.pv_graph.specs.declared.node.Op.{Op}
use Rattle.pv_graph.specs.Forms.{form}
use Rattle.pv_graph.specs.Walks.{In}
use Rattle.pv_graph.specs.Graphs.{Graph, form_at, Extends}
use Rattle.pv_pattern.specs.Patterns.{Axiom}
use Rattle.pv_pattern.specs.Instances.{Names}
use Rattle.pv_steps.specs.Facts.{View}
use Rattle.pv_steps.specs.Right.{RootKids}
use Rattle.pv_heights.specs.Systems.{System, Joined, Subset, Relation}
use Rattle.pv_heights.specs.Filled.{Params}
use Rattle.pv_heights.specs.Sides.{Match, StandsIn}
use Rattle.pv_heights.specs.Matches.{IsMatch, AtLeast, IsSaturated, AreOne}
use Rattle.pv_heights.specs.Heights.{Nothing, IsBase}
use Rattle.pv_heights.specs.Verdicts.{Question, view_of, Verdict, equivalent, apart, rounds, budget}
use Rattle.pv_heights.specs.Rounds.{Copy, IsInstanceOf, IsMadePart, IsRoundOn}

-- ---- nodes and their classes

-- the nodes of a graph as things
abbrev pub nodes : Graph → System
nodes h = record { Thing = ℕ; Has = λ n o ks. form_at h.nodes n ≡ Some (form o ks); node = λ n. n }

-- n is a node of the graph
abbrev pub IsNode : Graph → ℕ → Type 0
IsNode h n = n < length h.nodes

-- each kid of a node is a node
abbrev pub IsWhole : View → Type 0
IsWhole view = (n k : ℕ) (o : Op) (ks : List ℕ) → view n ≡ Some (form o ks) → In ks k → IsBase view k

-- the nodes of its base alone: those of the least graph that it grew from
abbrev pub base_view : Graph → View
base_view h n = if nat_le (suc n) h.base then form_at h.nodes n else None

-- what the names of an instance stand for, without its nodes
abbrev pub params_of : Names → Params
params_of m = record { depth = m.depth; symbols = m.symbols; kinds = m.kinds; constants = m.constants; op_ = m.op_ }

-- an axiom over these nodes, as a match
abbrev pub match_of : Axiom → Names → Match ℕ
match_of a m = record { entry = a; params = params_of m; kids = m.kids; vars = m.vars }

-- two nodes have one class number
abbrev pub OneClass : List ℕ → ℕ → ℕ → Type 0
OneClass numbers a b = (c : ℕ) × (slice_get numbers a ≡ Some c) × (slice_get numbers b ≡ Some c)

-- the classes before a round, and the pairs that the round joins
abbrev pub Joining : List ℕ → List (ℕ × ℕ) → ℕ → ℕ → Type 0
Joining numbers pairs a b = OneClass numbers a b ⊎ In pairs (a, b)

-- the class numbers after a closing: two nodes have one number exactly where they are joined, inductions included
pub record AreJoined (h : Graph) (Given : ℕ → ℕ → Type 0) (numbers : List ℕ) : Type 0 where
  pub sound : (a b : ℕ) → OneClass numbers a b → Joined (nodes h) (IsNode h) [] Given [] a b
  pub full : (a b : ℕ) → Joined (nodes h) (IsNode h) [] Given [] a b → OneClass numbers a b

-- ---- matches and rounds

-- the list has all matches, each once
pub record AreAll (view : View) (assumed : List ℕ) (table : List Axiom) (S : System) (Member : Subset S) (Joins : Relation S) (list : List (Match S.Thing)) : Type 0 where
  pub each : (i : ℕ) (m : Match S.Thing) → slice_get list i ≡ Some m → IsMatch view assumed table S Member Joins m
  pub all : (m : Match S.Thing) → IsMatch view assumed table S Member Joins m → (i : ℕ) × (n : Match S.Thing) × (slice_get list i ≡ Some n) × AreOne Joins m n
  pub once : (i j : ℕ) (m n : Match S.Thing) → i < j → slice_get list i ≡ Some m → slice_get list j ≡ Some n → AreOne Joins m n → ⊥

-- both sides of the match stand in one class
abbrev pub BothStand : (S : System) → Subset S → Relation S → Match S.Thing → Type 0
BothStand S Member Joins m = (t : S.Thing) × Member t × StandsIn S Member Joins m m.entry.left t × StandsIn S Member Joins m m.entry.right t

-- the same of the nodes of h, with these class numbers: a match; a list of all matches; how many there are; and that none joins more
abbrev pub IsMatchAt : View → List ℕ → List Axiom → Graph → List ℕ → Match ℕ → Type 0
IsMatchAt view assumed table h numbers m = IsMatch view assumed table (nodes h) (IsNode h) (OneClass numbers) m

abbrev pub AreAllAt : View → List ℕ → List Axiom → Graph → List ℕ → List (Match ℕ) → Type 0
AreAllAt view assumed table h numbers list = AreAll view assumed table (nodes h) (IsNode h) (OneClass numbers) list

abbrev pub AtLeastAt : View → List ℕ → List Axiom → Graph → List ℕ → ℕ → Type 0
AtLeastAt view assumed table h numbers n = AtLeast view assumed table (nodes h) (IsNode h) (OneClass numbers) n

abbrev pub IsSaturatedAt : View → List ℕ → List Axiom → Graph → List ℕ → Type 0
IsSaturatedAt view assumed table h numbers = IsSaturated view assumed table (nodes h) (IsNode h) (OneClass numbers)

-- a round takes the graph h to i. It goes by a list of all matches; both sides of each of them stand in one class already, or it makes an
-- instance, whose sides are a pair; each pair is the sides of such an instance; and each new node is a part of a side of a match, or a copy
pub record IsRound (view : View) (assumed : List ℕ) (table : List Axiom) (h i : Graph) (numbers : List ℕ) (pairs : List (ℕ × ℕ)) : Type 0 where
  pub list : List (Match ℕ)
  pub are : AreAllAt view assumed table h numbers list
  pub joins : (m : Match ℕ) → In list m → BothStand (nodes h) (IsNode h) (OneClass numbers) m ⊎ ((a : ℕ) × (b : ℕ) × In pairs (a, b) × IsInstanceOf (nodes i) (IsNode h) (OneClass numbers) (IsNode i) m a b)
  pub from : (a b : ℕ) → In pairs (a, b) → (m : Match ℕ) × In list m × IsInstanceOf (nodes i) (IsNode h) (OneClass numbers) (IsNode i) m a b
  pub made : (a : ℕ) → IsNode i a → IsNode h a ⊎ ((m : Match ℕ) × In list m × IsMadePart (nodes i) (IsNode h) (OneClass numbers) (IsNode i) m a) ⊎ ((u : ℕ) × Copy (nodes i) (IsNode h) (OneClass numbers) (IsNode i) a u)

-- a search from the least graph g has this graph and these class numbers after k rounds, each followed by a closing with all
-- inductions
pub data Reached (g : Graph) (assumed : List ℕ) (table : List Axiom) : ℕ → Graph → List ℕ → Type 0 where
  begin : (h : Graph) (numbers : List ℕ) → h.nodes ≡ g.nodes → AreJoined h Nothing numbers → Reached g assumed table zero h numbers
  grow : (k : ℕ) (h i : Graph) (numbers after : List ℕ) (pairs : List (ℕ × ℕ)) → Extends h i → IsWhole (form_at i.nodes) → Reached g assumed table k h numbers
      → IsRoundOn (form_at g.nodes) assumed table (nodes i) (IsNode h) (OneClass numbers) (IsNode i) (Joining numbers pairs) → AreJoined i (Joining numbers pairs) after
      → Reached g assumed table (suc k) i after

-- ---- two searches

-- a search that has made k rounds
pub record SearchAt (q : Question) (assumed : List ℕ) (k : ℕ) : Type 0 where
  pub graph : Graph
  pub numbers : List ℕ
  pub reached : Reached q.graph assumed q.table k graph numbers

-- it has at least n matches
abbrev pub HasAtLeast : (q : Question) (assumed : List ℕ) (k : ℕ) → SearchAt q assumed k → ℕ → Type 0
HasAtLeast q assumed k s n = AtLeastAt (view_of q) assumed q.table s.graph s.numbers n

-- none of its matches joins more
abbrev pub IsSaturatedSearch : (q : Question) (assumed : List ℕ) (k : ℕ) → SearchAt q assumed k → Type 0
IsSaturatedSearch q assumed k s = IsSaturatedAt (view_of q) assumed q.table s.graph s.numbers

-- two searches that have made k rounds: a plain one, and one in which these nodes count as ending
pub record TwoSearches (q : Question) (ends : List ℕ) (k : ℕ) : Type 0 where
  pub plain : SearchAt q [] k
  pub ending : SearchAt q ends k

-- ---- what is seen of both

-- one of them has more matches than the budget
abbrev pub SeesOver : (q : Question) (ends : List ℕ) (k : ℕ) → TwoSearches q ends k → Type 0
SeesOver q ends k b = HasAtLeast q [] k b.plain (suc q.budget) ⊎ HasAtLeast q ends k b.ending (suc q.budget)

-- the tokens of the roots are in one class of the plain search, and their other kids are so in the one with endings
pub record SeesKids (q : Question) (plain ending : List ℕ) : Type 0 where
  pub left : RootKids q.graph q.first
  pub right : RootKids q.graph q.second
  pub tokens : OneClass plain left.token right.token
  pub faults : OneClass ending left.fault_ right.fault_
  pub results : OneClass ending left.result right.result
  pub heaps : OneClass ending left.heap right.heap

-- the roots are in one class of the plain search, or their kids meet
abbrev pub Meeting : Question → List ℕ → List ℕ → Type 0
Meeting q plain ending = OneClass plain q.first q.second ⊎ SeesKids q plain ending

-- the roots meet
abbrev pub SeesMeet : (q : Question) (ends : List ℕ) (k : ℕ) → TwoSearches q ends k → Type 0
SeesMeet q ends k b = Meeting q b.plain.numbers b.ending.numbers

-- no match of either joins more
abbrev pub SeesSaturated : (q : Question) (ends : List ℕ) (k : ℕ) → TwoSearches q ends k → Type 0
SeesSaturated q ends k b = IsSaturatedSearch q [] k b.plain × IsSaturatedSearch q ends k b.ending

-- none of these, so the searches go on
pub record SeesNothing (q : Question) (ends : List ℕ) (k : ℕ) (b : TwoSearches q ends k) : Type 0 where
  pub not_met : SeesMeet q ends k b → ⊥
  pub not_over : SeesOver q ends k b → ⊥
  pub not_saturated : SeesSaturated q ends k b → ⊥

-- both searches made k rounds, and before the last of them nothing was seen
pub data UndecidedBefore (q : Question) (ends : List ℕ) : (k : ℕ) → TwoSearches q ends k → Type 0 where
  first : (b : TwoSearches q ends zero) → UndecidedBefore q ends zero b
  next : (k : ℕ) (b : TwoSearches q ends k) (c : TwoSearches q ends (suc k)) → UndecidedBefore q ends k b → SeesNothing q ends k b → UndecidedBefore q ends (suc k) c

-- what they answer: that the roots meet; else that there are too many matches; else that no match joins more; or that the rounds are at
-- an end
pub data Answers (q : Question) (ends : List ℕ) : Verdict → Type 0 where
  met : (k : ℕ) (b : TwoSearches q ends k) → k ≤ q.rounds → UndecidedBefore q ends k b → SeesMeet q ends k b → Answers q ends equivalent
  over : (k : ℕ) (b : TwoSearches q ends k) → k ≤ q.rounds → UndecidedBefore q ends k b → (SeesMeet q ends k b → ⊥) → SeesOver q ends k b → Answers q ends (budget k)
  saturated : (k : ℕ) (b : TwoSearches q ends k) → k ≤ q.rounds → UndecidedBefore q ends k b → (SeesMeet q ends k b → ⊥) → (SeesOver q ends k b → ⊥) → SeesSaturated q ends k b → Answers q ends apart
  ended : (b : TwoSearches q ends q.rounds) → UndecidedBefore q ends q.rounds b → SeesNothing q ends q.rounds b → Answers q ends (rounds q.rounds)
