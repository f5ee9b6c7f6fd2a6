-- What is seen of two searches, as the verdict asks.
use Rattle.std.proofs.Common.{◌≡◌, ℕ, zero, suc, ◌≤◌, List, [], Option, Some, None, inl, inr, refl, sym, ◌∙◌, subst}
use Rattle.pv_alike.specs.Least.{Rooted}
use Rattle.pv_pattern.specs.Patterns.{Axiom}
use Rattle.pv_endings.specs.Endings.{AreEndingsOf}
use Rattle.pv_heights.specs.Searches.{Reached, TwoSearches, SeesMeet, SeesOver, SeesSaturated, SeesNothing, UndecidedBefore, first, next, Answers, met, over, saturated, ended}
use Rattle.pv_heights.specs.Verdicts.{Question}
use Rattle.pv_grounds.specs.Searches.{Search, Looked}
use Rattle.pv_grounds.specs.Searches as looked
use Rattle.pv_grounds.specs.Searches.{IsOver, Looks}
use Rattle.pv_prove.specs.declared.meeting.Meeting.{Meeting}
use Rattle.pv_prove.specs.declared.outcome.Limits.{Limits}
use Rattle.pv_prove.specs.declared.outcome.Outcome.{Outcome}
use Rattle.pv_prove.specs.declared.outcome.Outcome.TheVariants.{Met, Budget, Apart, Rounds}
use Rattle.pv_prove.specs.declared.searches.Searches.{Searches}
use Rattle.pv_prove.specs.declared.searches.Seen.{Seen}
use Rattle.pv_prove.specs.declared.searches.Seen.TheVariants.{Decided, Open}
use Rattle.pv_prove.specs.Finding.{axioms_in, question, verdict_of, or_plain, ending_of, HaveMade, MeetIn}
use Rattle.pv_prove.specs.Looking.{LooksOther, AreOver, AreSaturated, seen_of, Decide, AreOpen, Sees, GoOn, StandAt, Ends}
use Rattle.pv_prove.proofs.Meets.{some_way, no_way}
use Rattle.pv_prove.proofs.Growing.{many_there, many_back, saturated_there, saturated_back}

-- ---- what both looks come to

-- where there is no other search, the look at the plain one is one at the search with endings
ending_look : (plain : Search) (other : Option Search) (p : Looked) (x : Option Looked) → Looks plain p → LooksOther other x → Looks (or_plain plain other) (or_plain p x)
ending_look plain (Some e) p (Some x) a o = o
ending_look plain None p None a o = a
ending_look plain (Some e) p None a o = absurd o
ending_look plain None p (Some x) a o = absurd o

module _ (l : Rooted) (k : ℕ) (s : Searches) (none : MeetIn l s None) where
  few : (IsOver s.plain → ⊥) → (IsOver (ending_of s) → ⊥) → AreOver s → ⊥
  few p e (inl h) = p h
  few p e (inr h) = e h

  seen_by : (p : Looked) (x : Option Looked) → Looks s.plain p → LooksOther s.other x → Looks (ending_of s) (or_plain p x) → Sees l k s (seen_of k p x)
  seen_by (looked.Over n) x a o b = (refl, none, inl a.1)
  seen_by looked.Saturated None a o b = (none, few a.0 b.0, (a.1, b.1))
  seen_by (looked.Open xs) None a o b = record { not_met = none; not_over = few a.0 b.0; not_saturated = λ h. a.1 h.0; plain_ = a; other_ = o }
  seen_by looked.Saturated (Some (looked.Over n)) a o b = (refl, none, inr b.1)
  seen_by (looked.Open xs) (Some (looked.Over n)) a o b = (refl, none, inr b.1)
  seen_by looked.Saturated (Some looked.Saturated) a o b = (none, few a.0 b.0, (a.1, b.1))
  seen_by looked.Saturated (Some (looked.Open ys)) a o b = record { not_met = none; not_over = few a.0 b.0; not_saturated = λ h. b.1 h.1; plain_ = a; other_ = o }
  seen_by (looked.Open xs) (Some looked.Saturated) a o b = record { not_met = none; not_over = few a.0 b.0; not_saturated = λ h. a.1 h.0; plain_ = a; other_ = o }
  seen_by (looked.Open xs) (Some (looked.Open ys)) a o b = record { not_met = none; not_over = few a.0 b.0; not_saturated = λ h. a.1 h.0; plain_ = a; other_ = o }

  pub seen : (p : Looked) (x : Option Looked) → Looks s.plain p → LooksOther s.other x → Sees l k s (seen_of k p x)
  seen p x a o = seen_by p x a o (ending_look s.plain s.other p x a o)

-- ---- as the verdict asks

module _ (l : Rooted) (limits : Limits) (k : ℕ) (s : Searches) (at : StandAt l limits k s) where
  abbrev Q : Question
  Q = question l limits

  abbrev ends : List ℕ
  ends = (ending_of s).endings.items

  abbrev table : List Axiom
  table = axioms_in limits.axioms

  -- both searches, as the verdict sees them
  two : TwoSearches Q ends k
  two = record {
    plain = record {
      graph = s.plain.graph;
      numbers = s.plain.classes.numbers;
      reached = subst (λ (es : List ℕ). Reached l.graph es table k s.plain.graph s.plain.classes.numbers) at.made.none
          (subst (λ (ts : List Axiom). Reached l.graph s.plain.endings.items ts k s.plain.graph s.plain.classes.numbers) at.made.plain_table at.made.plain_.reached);
    };
    ending = record {
      graph = (ending_of s).graph;
      numbers = (ending_of s).classes.numbers;
      reached = subst (λ (ts : List Axiom). Reached l.graph ends ts k (ending_of s).graph (ending_of s).classes.numbers) at.made.ending_table at.made.ending_.reached;
    };
  }

  met_there : (m : Meeting) → MeetIn l s (Some m) → SeesMeet Q ends k two
  unfolding two
  met_there m h = some_way Q s.plain.classes.numbers (ending_of s).classes.numbers m h

  met_back : MeetIn l s None → SeesMeet Q ends k two → ⊥
  unfolding two
  met_back none h = no_way Q s.plain.classes.numbers (ending_of s).classes.numbers none h

  over_there : AreOver s → SeesOver Q ends k two
  unfolding two
  over_there (inl h) = inl (many_there l.graph k s.plain at.made.plain_ [] at.made.none table at.made.plain_table limits.budget at.made.plain_budget h)
  over_there (inr h) = inr (many_there l.graph k (ending_of s) at.made.ending_ ends refl table at.made.ending_table limits.budget at.made.ending_budget h)

  over_back : SeesOver Q ends k two → AreOver s
  unfolding two
  over_back (inl h) = inl (many_back l.graph k s.plain at.made.plain_ [] at.made.none table at.made.plain_table limits.budget at.made.plain_budget h)
  over_back (inr h) = inr (many_back l.graph k (ending_of s) at.made.ending_ ends refl table at.made.ending_table limits.budget at.made.ending_budget h)

  saturated_seen : AreSaturated s → SeesSaturated Q ends k two
  unfolding two
  saturated_seen h = (saturated_there l.graph k s.plain at.made.plain_ [] at.made.none table at.made.plain_table h.0, saturated_there l.graph k (ending_of s) at.made.ending_ ends refl table at.made.ending_table h.1)

  saturated_is : SeesSaturated Q ends k two → AreSaturated s
  unfolding two
  saturated_is h = (saturated_back l.graph k s.plain at.made.plain_ [] at.made.none table at.made.plain_table h.0, saturated_back l.graph k (ending_of s) at.made.ending_ ends refl table at.made.ending_table h.1)

  -- what they decide
  answer : (outcome : Outcome) → k ≤ limits.rounds → Decide l k s outcome → Answers Q ends (verdict_of outcome)
  answer (Met m) low d = met k two low (at.undecided two) (met_there m d)
  answer (Budget n) low d = subst (λ (j : ℕ). Answers Q ends (verdict_of (Budget j))) (sym d.0) (over k two low (at.undecided two) (met_back d.1) (over_there d.2))
  answer Apart low d = saturated k two low (at.undecided two) (met_back d.0) (λ h. d.1 (over_back h)) (saturated_seen d.2)
  answer (Rounds n) low d = absurd d

  pub decided : (outcome : Outcome) → k ≤ limits.rounds → Decide l k s outcome → Ends l limits s outcome
  decided outcome low d = record {
    ends = at.made.ends;
    answers = answer outcome low d;
    shown = λ m e. (k, at.made, subst (Decide l k s) e d);
  }

  module _ (p : Looked) (x : Option Looked) (open_ : AreOpen l s p x) where
    nothing : SeesNothing Q ends k two
    nothing = record {
      not_met = met_back open_.not_met;
      not_over = λ h. open_.not_over (over_back h);
      not_saturated = λ h. open_.not_saturated (saturated_is h);
    }

    -- they go on
    pub gone_on : (t : Searches) → GoOn s t → StandAt l limits (suc k) t
    gone_on t on = record {
      made = record {
        plain_ = on.plain_.goes.next l.graph k at.made.plain_;
        ending_ = on.ending_.goes.next l.graph k at.made.ending_;
        none = on.plain_.goes.endings_ ∙ at.made.none;
        ends = subst (AreEndingsOf l.graph l.first) (sym on.ending_.goes.endings_) at.made.ends;
        plain_table = on.plain_.goes.table_ ∙ at.made.plain_table;
        ending_table = on.ending_.goes.table_ ∙ at.made.ending_table;
        plain_budget = on.plain_.goes.budget_ ∙ at.made.plain_budget;
        ending_budget = on.ending_.goes.budget_ ∙ at.made.ending_budget;
        plain_grounds = on.plain_.grounds at.made.plain_grounds;
        ending_grounds = on.ending_.grounds at.made.ending_grounds;
      };
      undecided = subst (λ (es : List ℕ). (b : TwoSearches Q es (suc k)) → UndecidedBefore Q es (suc k) b) (sym on.ending_.goes.endings_) (λ b. next k two b (at.undecided two) nothing);
    }

-- nothing was decided, and the rounds are at an end
pub at_end : (l : Rooted) (limits : Limits) (s : Searches) → StandAt l limits limits.rounds s → (x : Seen) → Sees l limits.rounds s x → ((o : Outcome) → x ≡ Decided o → ⊥) → Ends l limits s (Rounds limits.rounds)
at_end l limits s at (Decided o) sees none = absurd (none o refl)
at_end l limits s at (Open p x) open_ none = record {
  ends = at.made.ends;
  answers = ended (two l limits limits.rounds s at) (at.undecided (two l limits limits.rounds s at)) (nothing l limits limits.rounds s at p x open_);
  shown = λ m same_. absurd (cc);
}

-- two searches that have made no round
pub at_first : (l : Rooted) (limits : Limits) (s : Searches) → HaveMade l limits zero s → StandAt l limits zero s
at_first l limits s made = record { made = made; undecided = λ b. first b }
