use Rattle.std.proofs.Common.{◌≡◌, ◌⊎◌, inl, inr, subst, sym}
use Rattle.pv_report.specs.declared.verdict.Verdict.TheVariants.{Equivalent}
use Rattle.pv_report.specs.Options.{options_of}
use Rattle.pv_report.specs.Verdicts.{FindsCleared}
use Rattle.pv_report.specs.Judging.{IsVerdictBy}
use Rattle.pv_report.proofs.Searched.{cleared_verdict, found_verdict, in_cleared, not_cleared}
use Rattle.pv_report.proofs.verdict.judgement_by.Goals as goal
use Rattle.pv_report.proofs.verdict.judgement_by.Goals.{then-is_equivalent-via-then-is_equivalent, then-is_equivalent-via-else-is_equivalent+then-not-may_clear}

pub returns-then-is_equivalent-clause-verdict : goal.returns-then-is_equivalent-clause-verdict
returns-then-is_equivalent-clause-verdict g c =
    let limits = c.args.means.limits in
    let d = c.args.means.detail in
    let l = c.args.roots.now in
    let v = c.in_ok-found.found.verdict in
    let less : (v ≡ Equivalent) ⊎ (FindsCleared (options_of limits d).graphs limits l → ⊥) = elim c.then-is_equivalent.branch [
      | then-is_equivalent-via-then-is_equivalent w ↦ inl (c.is_equivalent.ensures.0 w.if-is_equivalent.true)
      | then-is_equivalent-via-else-is_equivalent+then-not-may_clear w ↦ inr (not_cleared limits l d (λ e. absurd (let may = w.may_clear.ensures.1 e in cc (may, w.if-not-may_clear.true))))
    ] in
    found_verdict limits d l v c.in_ok-found.ensures.verdict less

pub returns-then-branch-clause-verdict : goal.returns-then-branch-clause-verdict
returns-then-branch-clause-verdict g c =
    let limits = c.args.means.limits in
    let d = c.args.means.detail in
    let l = c.args.roots.now in
    let both = c.may_clear.ensures.0 c.if-not-may_clear.false in
    subst (IsVerdictBy (options_of limits d) l) (sym c.bare.ensures.verdict) (cleared_verdict limits d l both (c.in_ok-finds_cleared.ensures.finds.0 c.if-branch.true) (c.in_ok-finds_cleared.ensures.same c.if-branch.true))

pub returns-clause-verdict : goal.returns-clause-verdict
returns-clause-verdict g c =
    let limits = c.args.means.limits in
    let d = c.args.means.detail in
    let l = c.args.roots.now in
    let both = c.may_clear.ensures.0 c.if-not-may_clear.false in
    found_verdict limits d l c.in_ok-found.found.verdict c.in_ok-found.ensures.verdict
    (inr (λ found. absurd (let equal = c.in_ok-finds_cleared.ensures.finds.1 (in_cleared limits l d both found) in cc (equal, c.if-branch.false))))
