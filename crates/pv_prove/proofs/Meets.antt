-- How two roots meet is what a search sees of them.
use Rattle.std.specs.Prelude.{ℕ, List, Some, None}
use Rattle.std.proofs.Common.{inl, inr}
use Rattle.pv_heights.specs.Verdicts.{Question}
use Rattle.pv_heights.specs.Searches.{SeesKids}
use Rattle.pv_heights.specs.Searches as searches
use Rattle.pv_prove.specs.declared.meeting.Meeting.{Meeting}
use Rattle.pv_prove.specs.declared.meeting.Meeting.TheVariants.{Roots, Kids}
use Rattle.pv_prove.specs.Meetings.{IsMeeting, KidsMeet}

module _ (q : Question) (plain ending : List ℕ) where
  kids_seen : KidsMeet q.graph q.first q.second plain ending → SeesKids q plain ending
  kids_seen k =
      let l = k.0 in
      let r = k.1 in
      let met = k.4 in
      record {
        left = record { token = l.token; fault_ = l.fault; result = l.result; heap = l.heap; is = k.2 };
        right = record { token = r.token; fault_ = r.fault; result = r.result; heap = r.heap; is = k.3 };
        tokens = met.0;
        faults = met.1.0;
        results = met.1.1.0;
        heaps = met.1.1.1;
      }

  kids_unseen : SeesKids q plain ending → KidsMeet q.graph q.first q.second plain ending
  kids_unseen s = (
    record { token = s.left.token; fault = s.left.fault_; result = s.left.result; heap = s.left.heap },
    record { token = s.right.token; fault = s.right.fault_; result = s.right.result; heap = s.right.heap },
    s.left.is,
    s.right.is,
    (s.tokens, (s.faults, (s.results, s.heaps))),
  )

  pub some_way : (m : Meeting) → IsMeeting q.graph q.first q.second plain ending (Some m) → searches.Meeting q plain ending
  some_way Roots i = inl i
  some_way Kids i = inr (kids_seen i.1)

  pub no_way : IsMeeting q.graph q.first q.second plain ending None → searches.Meeting q plain ending → ⊥
  no_way i (inl roots) = i.0 roots
  no_way i (inr kids) = i.1 (kids_unseen kids)
