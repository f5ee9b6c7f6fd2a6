-- How two roots meet in two searches, a plain one and one with endings, by the class numbers of both.
use Rattle.std.specs.Prelude.{ℕ, List, Option, Some, None}
use Rattle.pv_graph.specs.Graphs.{Graph}
use Rattle.pv_heights.specs.Verdicts.{Question}
use Rattle.pv_heights.specs.Searches as searches
use Rattle.pv_heights.specs.Searches.{OneClass}
use Rattle.pv_endings.specs.declared.root.RootParts.{RootParts}
use Rattle.pv_endings.specs.Endings.{IsRootOver}
use Rattle.pv_prove.specs.declared.meeting.Meeting.{Meeting}
use Rattle.pv_prove.specs.declared.meeting.Meeting.TheVariants.{Roots, Kids}

-- the tokens are in one class of the plain search, and the other kids of the one with endings
abbrev pub AreMetKids : RootParts → RootParts → List ℕ → List ℕ → Type 0
AreMetKids l r plain ending = OneClass plain l.token r.token × (OneClass ending l.fault r.fault × (OneClass ending l.result r.result × OneClass ending l.heap r.heap))

-- p and q are roots, and their kids are so
abbrev pub KidsMeet : Graph → ℕ → ℕ → List ℕ → List ℕ → Type 0
KidsMeet g p q plain ending = (l : RootParts) × (r : RootParts) × IsRootOver g p l × IsRootOver g q r × AreMetKids l r plain ending

-- how p and q meet: as roots, where they are in one class of the plain search; else by their kids, where these meet; else not at all
abbrev pub IsMeeting : Graph → ℕ → ℕ → List ℕ → List ℕ → Option Meeting → Type 0
IsMeeting g p q plain ending (Some Roots) = OneClass plain p q
IsMeeting g p q plain ending (Some Kids) = (OneClass plain p q → ⊥) × KidsMeet g p q plain ending
IsMeeting g p q plain ending None = (OneClass plain p q → ⊥) × (KidsMeet g p q plain ending → ⊥)

-- where there is a way, the roots of a question meet as its verdict asks
abbrev pub MeetingIsSeen : Type 0
MeetingIsSeen = (q : Question) (plain ending : List ℕ) (m : Meeting) → IsMeeting q.graph q.first q.second plain ending (Some m) → searches.Meeting q plain ending

-- where there is none, they don't
abbrev pub NoneIsUnseen : Type 0
NoneIsUnseen = (q : Question) (plain ending : List ℕ) → IsMeeting q.graph q.first q.second plain ending None → searches.Meeting q plain ending → ⊥
