-- What is seen of two searches after some rounds, and what they end with.
use Rattle.std.specs.Prelude.{◌≡◌, ◌⊎◌, ℕ, List, [], Option, Some, None}
use Rattle.pv_graph.specs.Graphs.{Graph}
use Rattle.pv_alike.specs.Least.{Rooted}
use Rattle.pv_pattern.specs.Patterns.{Axiom}
use Rattle.pv_endings.specs.Endings.{AreEndingsOf}
use Rattle.pv_heights.specs.Searches.{TwoSearches, UndecidedBefore, Answers}
use Rattle.pv_grounds.specs.Searches.{Search, Looked, Over, Saturated}
pub use Rattle.pv_grounds.specs.Searches.{IsLeastGraph, IsBegun, IsOver, Looks}
use Rattle.pv_grounds.specs.Searches.{Begins, IsSaturatedNow, GoesOn}
use Rattle.pv_grounds.specs.Same.{IsGroundedSearch}
use Rattle.pv_prove.specs.declared.outcome.Limits.{Limits}
use Rattle.pv_prove.specs.declared.outcome.Outcome.{Outcome}
use Rattle.pv_prove.specs.declared.outcome.Outcome.TheVariants.{Met, Budget, Apart, Rounds}
use Rattle.pv_prove.specs.declared.searches.Searches.{Searches}
use Rattle.pv_prove.specs.declared.searches.Seen.{Seen}
use Rattle.pv_prove.specs.declared.searches.Seen.TheVariants.{Decided, Open}
use Rattle.pv_prove.specs.Finding.{question, verdict_of, ending_of, HaveMade, MeetIn, IsShown}

-- of a search with endings, if it is one of its own
abbrev pub ForOther : (Search → Type 0) → Option Search → Type 0
ForOther Is (Some s) = Is s
ForOther Is None = Unit {0}

-- a look at it
abbrev pub LooksOther : Option Search → Option Looked → Type 0
LooksOther (Some s) (Some x) = Looks s x
LooksOther None None = Unit {0}
LooksOther s x = ⊥

-- both began
abbrev pub AreBegun : Searches → Type 0
AreBegun s = IsBegun s.plain × IsBegun (ending_of s)

-- one of them has more matches than its budget
abbrev pub AreOver : Searches → Type 0
AreOver s = IsOver s.plain ⊎ IsOver (ending_of s)

-- no match of either joins more
abbrev pub AreSaturated : Searches → Type 0
AreSaturated s = IsSaturatedNow s.plain × IsSaturatedNow (ending_of s)

-- what both looks come to after k rounds, where the roots don't meet
abbrev pub seen_of : ℕ → Looked → Option Looked → Seen
seen_of k (Over n) x = Decided (Budget k)
seen_of k p (Some (Over n)) = Decided (Budget k)
seen_of k Saturated None = Decided Apart
seen_of k Saturated (Some Saturated) = Decided Apart
seen_of k p x = Open p x

-- after k rounds they decide so: the roots meet; else there are too many matches; else no match joins more
abbrev pub Decide : Rooted → ℕ → Searches → Outcome → Type 0
Decide l k s (Met m) = MeetIn l s (Some m)
Decide l k s (Budget n) = (n ≡ k) × MeetIn l s None × AreOver s
Decide l k s Apart = MeetIn l s None × (AreOver s → ⊥) × AreSaturated s
Decide l k s (Rounds n) = ⊥

-- they decide nothing, and this was seen of each
pub record AreOpen (l : Rooted) (s : Searches) (plain : Looked) (other : Option Looked) : Type 0 where
  pub not_met : MeetIn l s None
  pub not_over : AreOver s → ⊥
  pub not_saturated : AreSaturated s → ⊥
  pub plain_ : Looks s.plain plain
  pub other_ : LooksOther s.other other

-- what is seen of them after k rounds
abbrev pub Sees : Rooted → ℕ → Searches → Seen → Type 0
Sees l k s (Decided outcome) = Decide l k s outcome
Sees l k s (Open plain other) = AreOpen l s plain other

-- where all joins of a search had their grounds, they have them still
abbrev pub KeepsGrounds : Search → Search → Type 0
KeepsGrounds old new = IsGroundedSearch old → IsGroundedSearch new

-- it stands one round further on, and its joins keep their grounds
pub record GoesFurther (old new : Search) : Type 0 where
  pub goes : GoesOn old new
  pub grounds : KeepsGrounds old new

-- so does a search with endings, if it is one of its own
abbrev pub OtherGoes : Option Search → Option Search → Type 0
OtherGoes (Some old) (Some new) = GoesFurther old new
OtherGoes None None = Unit {0}
OtherGoes old new = ⊥

-- so do both
pub record GoOn (old new : Searches) : Type 0 where
  pub plain_ : GoesFurther old.plain new.plain
  pub ending_ : GoesFurther (ending_of old) (ending_of new)

-- where there are nodes that count as ending, a search with them begins
abbrev pub BeginsOther : Graph → List Axiom → List ℕ → ℕ → Option Search → Type 0
BeginsOther g table ends most (Some s) = Begins g table ends most s
BeginsOther g table ends most None = ends ≡ []

-- they have made k rounds, and no height before decides
pub record StandAt (l : Rooted) (limits : Limits) (k : ℕ) (s : Searches) : Type 0 where
  pub made : HaveMade l limits k s
  pub undecided : (b : TwoSearches (question l limits) (ending_of s).endings.items k) → UndecidedBefore (question l limits) (ending_of s).endings.items k b

-- the outcome is what two searches answer, and these show it
pub record Ends (l : Rooted) (limits : Limits) (s : Searches) (outcome : Outcome) : Type 0 where
  pub ends : AreEndingsOf l.graph l.first (ending_of s).endings.items
  pub answers : Answers (question l limits) (ending_of s).endings.items (verdict_of outcome)
  pub shown : IsShown l limits s outcome
