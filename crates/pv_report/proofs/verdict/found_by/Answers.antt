use Rattle.std.proofs.Common.{subst, sym, ◌∙◌}
use Rattle.pv_alike.proofs.Cited.{least_within}
use Rattle.pv_report.specs.Judging.{IsFoundBy}
use Rattle.pv_report.proofs.Searched.{found_said, least_graph, one_said}
use Rattle.pv_report.proofs.Showing.{no_steps, steps_by}
use Rattle.pv_report.proofs.verdict.found_by.Goals as goal

pub find-requires-clause-least : goal.find-requires-clause-least
find-requires-clause-least g c lifetimes lives = least_graph c.args.roots.now c.requires.least

pub find-requires-clause-first : goal.find-requires-clause-first
find-requires-clause-first g c lifetimes lives = (least_within c.requires.least.3.least).first

pub find-requires-clause-second : goal.find-requires-clause-second
find-requires-clause-second g c lifetimes lives = (least_within c.requires.least.3.least).second

pub steps_of-requires-clause-first : goal.steps_of-requires-clause-first
steps_of-requires-clause-first g c = (least_within c.requires.least.3.least).first

pub steps_of-requires-clause-second : goal.steps_of-requires-clause-second
steps_of-requires-clause-second g c = (least_within c.requires.least.3.least).second

pub returns-then-first-second-clause-verdict : goal.returns-then-first-second-clause-verdict
returns-then-first-second-clause-verdict g c =
    let l = c.args.roots.now in
    one_said c.args.means.limits l c.in_ok-_endings._endings.items c.law_verdict.ensures.one_root (rw (c.graph.ensures, c.first-then-first-second.ensures) at c.in_ok-_endings.ensures)
    (least_within c.requires.least.3.least).first (sym c.first.ensures ∙ c.if-first-second.true ∙ c.second.ensures)

pub returns-then-first-second-clause-steps : goal.returns-then-first-second-clause-steps
returns-then-first-second-clause-steps g c =
    no_steps c.args.means.detail c.args.roots.now c.no_steps.result (sym c.first.ensures ∙ c.if-first-second.true ∙ c.second.ensures) c.no_steps.ensures

pub returns-clause-verdict : goal.returns-clause-verdict
returns-clause-verdict g c =
    let l = c.args.roots.now in
    subst (IsFoundBy c.args.means.limits l) (sym c.said_of.ensures) (found_said c.args.means.limits l c.in_ok-found.found.outcome c.in_ok-found.ensures.verdict c.in_ok-found.ensures.same)

pub returns-clause-steps : goal.returns-clause-steps
returns-clause-steps g c =
    steps_by c.args.means.detail c.args.roots.now c.in_ok-found.found.outcome c.said_of.result c.in_ok-steps.steps c.said_of.ensures c.in_ok-steps.ensures
