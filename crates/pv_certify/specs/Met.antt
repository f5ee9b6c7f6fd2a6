-- Two searches in which two roots met.
use Rattle.std.specs.Prelude.{ℕ, Some}
use Rattle.pv_alike.specs.Least.{Rooted}
use Rattle.pv_prove.specs.declared.meeting.Meeting.{Meeting}
use Rattle.pv_prove.specs.declared.outcome.Limits.{Limits}
use Rattle.pv_prove.specs.declared.searches.Searches.{Searches}
use Rattle.pv_prove.specs.Finding.{HaveMade, MeetIn}

-- both began with the least graph and made some rounds, within some limits
abbrev pub HaveMadeSome : Rooted → Searches → Type 0
HaveMadeSome l s = (limits : Limits) × (k : ℕ) × HaveMade l limits k s

-- .. and the roots met in them so
abbrev pub HaveMet : Rooted → Searches → Meeting → Type 0
HaveMet l s m = HaveMadeSome l s × MeetIn l s (Some m)
