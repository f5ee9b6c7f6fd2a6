use Rattle.pv_report.proofs.Searched.{cleared_same, found_cleared, roots_within}
use Rattle.pv_report.proofs.verdict.finds_cleared.Goals as goal

pub clear-requires-clause-second : goal.clear-requires-clause-second
clear-requires-clause-second g c = (roots_within c.args.roots.now c.requires.least).1

pub returns-clause-finds : goal.returns-clause-finds
returns-clause-finds g c =
    let both = found_cleared c.args.means.limits c.args.roots.now c.in_ok-cleared.cleared c.in_ok-found.found.verdict c.in_ok-cleared.ensures.cleared c.in_ok-found.ensures.verdict in
    (λ is. both.0 (c.is_equivalent.ensures.0 is), λ finds. c.is_equivalent.ensures.1 (both.1 finds))

pub returns-clause-same : goal.returns-clause-same
returns-clause-same g c is = cleared_same c.args.roots.now c.in_ok-cleared.cleared c.in_ok-cleared.ensures.keeps (c.in_ok-found.ensures.verdict.same (c.is_equivalent.ensures.0 is))
