-- The question that two searches answer, and what they end with.
use Rattle.std.specs.Prelude.{◌≡◌, ℕ, List, [], Option, Some, None}
use Rattle.pv_alike.specs.Least.{Rooted}
use Rattle.pv_pattern.specs.Patterns.{Axiom}
use Rattle.pv_axioms.specs.Entries.{core_axioms, axioms}
use Rattle.pv_denote.specs.Meaning.{Same}
use Rattle.pv_endings.specs.Endings.{AreEndingsOf}
use Rattle.pv_heights.specs.Verdicts.{Question, Verdict, equivalent, apart, rounds, budget}
use Rattle.pv_grounds.specs.Searches.{Search, axioms_of, IsSearch}
use Rattle.pv_grounds.specs.Same.{IsGroundedSearch}
use Rattle.pv_prove.specs.declared.meeting.Meeting.{Meeting}
use Rattle.pv_prove.specs.declared.table.AxiomSet.{AxiomSet}
use Rattle.pv_prove.specs.declared.table.AxiomSet.TheVariants.{Core, All}
use Rattle.pv_prove.specs.declared.outcome.Limits.{Limits}
use Rattle.pv_prove.specs.declared.outcome.Outcome.{Outcome}
use Rattle.pv_prove.specs.declared.outcome.Outcome.TheVariants.{Met, Budget, Apart, Rounds}
use Rattle.pv_prove.specs.declared.searches.Searches.{Searches}
use Rattle.pv_prove.specs.Meetings.{IsMeeting}

-- the axioms of a set
abbrev pub axioms_in : AxiomSet → List Axiom
axioms_in Core = core_axioms
axioms_in All = axioms

-- the question of two roots, by the axioms that the limits name
abbrev pub question : Rooted → Limits → Question
question l limits = record { graph = l.graph; first = l.first; second = l.second; table = axioms_in limits.axioms; rounds = limits.rounds; budget = limits.budget }

-- what an outcome says of them
abbrev pub verdict_of : Outcome → Verdict
verdict_of (Met m) = equivalent
verdict_of (Budget k) = budget k
verdict_of Apart = apart
verdict_of (Rounds n) = rounds n

-- what is of the search with endings: where that is none of its own, the plain one's
abbrev pub or_plain : {X : Type 0} → X → Option X → X
or_plain plain (Some other) = other
or_plain plain None = plain

-- the search with endings
abbrev pub ending_of : Searches → Search
ending_of s = or_plain s.plain s.other

-- both searches began with the least graph and have made k rounds, by these axioms and under this budget; no nodes count as ending in
-- the plain one, and the nodes that the first root waits for in the other; all their joins have their grounds
pub record HaveMade (l : Rooted) (limits : Limits) (k : ℕ) (s : Searches) : Type 0 where
  pub plain_ : IsSearch l.graph k s.plain
  pub ending_ : IsSearch l.graph k (ending_of s)
  pub none : s.plain.endings.items ≡ []
  pub ends : AreEndingsOf l.graph l.first (ending_of s).endings.items
  pub plain_table : axioms_of s.plain ≡ axioms_in limits.axioms
  pub ending_table : axioms_of (ending_of s) ≡ axioms_in limits.axioms
  pub plain_budget : s.plain.budget ≡ limits.budget
  pub ending_budget : (ending_of s).budget ≡ limits.budget
  pub plain_grounds : IsGroundedSearch s.plain
  pub ending_grounds : IsGroundedSearch (ending_of s)

-- how the roots meet in them
abbrev pub MeetIn : Rooted → Searches → Option Meeting → Type 0
MeetIn l s m = IsMeeting l.graph l.first l.second s.plain.classes.numbers (ending_of s).classes.numbers m

-- where the roots met, they meet so in these searches, which have made some rounds
abbrev pub IsShown : Rooted → Limits → Searches → Outcome → Type 0
IsShown l limits s outcome = (m : Meeting) → outcome ≡ Met m → (k : ℕ) × HaveMade l limits k s × MeetIn l s (Some m)

-- where the roots met, they have the same values: in each world, for each input, at each index
abbrev pub MetAreSame : Rooted → Outcome → Type 0
MetAreSame l outcome = (m : Meeting) → outcome ≡ Met m → Same l.graph l.first l.second
