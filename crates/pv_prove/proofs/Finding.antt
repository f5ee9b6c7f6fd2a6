-- What two searches end with is the verdict.
use Rattle.std.proofs.Common.{◌≡◌, ℕ, zero, ◌<◌, List, [], length, Option, Some, None, sym, ◌∙◌, subst}
use Rattle.pv_graph.specs.Graphs.{Graph}
use Rattle.pv_alike.specs.Least.{Rooted}
use Rattle.pv_axioms.specs.Entries.{AreAxioms}
use Rattle.pv_axioms.proofs.Cited.{core_are, all_are}
use Rattle.pv_pattern.specs.Patterns.{Axiom}
use Rattle.pv_endings.specs.Endings.{AreEndingsOf}
use Rattle.pv_heights.specs.Verdicts.{Verdict, IsVerdict}
use Rattle.pv_heights.proofs.Verdicts.{answers_are_verdicts}
use Rattle.pv_heights.proofs.Once.{verdict_once}
use Rattle.pv_grounds.specs.Searches.{Search, Begins, IsLeastGraph}
use Rattle.pv_grounds.specs.Same.{IsGroundedSearch}
use Rattle.pv_grounds.proofs.Cited.{new_grounded, induct_grounded}
use Rattle.pv_prove.specs.declared.table.AxiomSet.{AxiomSet}
use Rattle.pv_prove.specs.declared.table.AxiomSet.TheVariants.{Core, All}
use Rattle.pv_prove.specs.declared.outcome.Limits.{Limits}
use Rattle.pv_prove.specs.declared.outcome.Outcome.{Outcome}
use Rattle.pv_prove.specs.declared.searches.Searches.{Searches}
use Rattle.pv_prove.specs.Finding.{axioms_in, question, verdict_of, or_plain, ending_of, HaveMade}
use Rattle.pv_prove.specs.Looking.{BeginsOther, Ends}

-- each set is one by which a search may go
pub set_are : (set : AxiomSet) → AreAxioms (axioms_in set)
set_are Core = core_are
set_are All = all_are

-- all joins of a search that begins have their grounds
begun_grounds : (g : Graph) (table : List Axiom) (ends : List ℕ) (most : ℕ) (s : Search) → Begins g table ends most s → IsGroundedSearch s
begun_grounds g table ends most s b = induct_grounded s.graph s.endings.items b.first s.classes b.found b.inducts (new_grounded s.graph s.endings.items b.first b.fresh)

-- where no node counts as ending, the plain search is the one with endings
ending_begins : (g : Graph) (table : List Axiom) (ends : List ℕ) (most : ℕ) (plain : Search) (other : Option Search) → Begins g table [] most plain → BeginsOther g table ends most other
    → Begins g table ends most (or_plain plain other)
ending_begins g table ends most plain (Some s) b h = h
ending_begins g table ends most plain None b h = subst (λ (es : List ℕ). Begins g table es most plain) (sym h) b

-- two searches that begin
pub begun : (l : Rooted) (limits : Limits) (table : List Axiom) (ends : List ℕ) (s : Searches) → table ≡ axioms_in limits.axioms → AreEndingsOf l.graph l.first ends
    → Begins l.graph table [] limits.budget s.plain → BeginsOther l.graph table ends limits.budget s.other → HaveMade l limits zero s
begun l limits table ends s same are p other =
    let q = ending_begins l.graph table ends limits.budget s.plain s.other p other in
    record {
      plain_ = p.is;
      ending_ = q.is;
      none = p.endings_;
      ends = subst (AreEndingsOf l.graph l.first) (sym q.endings_) are;
      plain_table = p.table_ ∙ same;
      ending_table = q.table_ ∙ same;
      plain_budget = p.budget_;
      ending_budget = q.budget_;
      plain_grounds = begun_grounds l.graph table [] limits.budget s.plain p;
      ending_grounds = begun_grounds l.graph table ends limits.budget (ending_of s) q;
    }

module _ (l : Rooted) (limits : Limits) (s : Searches) (outcome : Outcome) (least : IsLeastGraph l.graph) (low : l.first < length l.graph.nodes) (low_ : l.second < length l.graph.nodes) (d : Ends l limits s outcome) where
  pub is_verdict : IsVerdict (question l limits) (verdict_of outcome)
  is_verdict = answers_are_verdicts (question l limits) (ending_of s).endings.items (verdict_of outcome) least.made.graph low low_ (record { are = d.ends.are; ordered = d.ends.ordered }) d.answers

  pub no_other : (v : Verdict) → IsVerdict (question l limits) v → v ≡ verdict_of outcome
  no_other v is = verdict_once (question l limits) v (verdict_of outcome) is is_verdict
