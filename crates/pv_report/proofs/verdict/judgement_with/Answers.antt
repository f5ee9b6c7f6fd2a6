use Rattle.std.proofs.Common.{Ok, subst, sym, ◌∙◌}
use Rattle.pv_report.specs.Judging.{IsLeastOnPlaces}
use Rattle.pv_report.specs.Options.{options_of}
use Rattle.pv_report.specs.Verdicts.{IsVerdictOn}
use Rattle.pv_report.proofs.Partnering.{verdict_lacking}
use Rattle.pv_report.proofs.Searched.{on_places, some_least}
use Rattle.pv_report.proofs.Showing.{bare_steps, lacking_other, steps_on_places}
use Rattle.pv_report.proofs.verdict.judgement_with.Goals as goal

pub judgement_by-requires-clause-least : goal.judgement_by-requires-clause-least
judgement_by-requires-clause-least g c lifetimes lives =
    let pair = c.args.pair.now in
    let least : IsLeastOnPlaces pair.first c.args.method pair.second c.args.partner (Ok c.in-Ok.roots) = rw c.in-Ok.is at c.in_ok-roots.ensures in
    some_least pair.first pair.second c.args.method c.args.partner c.in-Ok.roots c.requires.there c.requires.partner least

pub returns-in-Ok-clause-verdict : goal.returns-in-Ok-clause-verdict
returns-in-Ok-clause-verdict g c =
    let pair = c.args.pair.now in
    let least : IsLeastOnPlaces pair.first c.args.method pair.second c.args.partner (Ok c.in-Ok.roots) = rw c.in-Ok.is at c.in_ok-roots.ensures in
    on_places (options_of c.args.means.limits c.args.means.detail) pair.first pair.second c.args.method c.args.partner c.in-Ok.roots c.judgement_by.result least c.judgement_by.ensures.verdict

pub returns-in-Ok-clause-steps : goal.returns-in-Ok-clause-steps
returns-in-Ok-clause-steps g c =
    let pair = c.args.pair.now in
    let least : IsLeastOnPlaces pair.first c.args.method pair.second c.args.partner (Ok c.in-Ok.roots) = rw c.in-Ok.is at c.in_ok-roots.ensures in
    steps_on_places c.args.means.detail pair.first pair.second c.args.method c.args.partner c.in-Ok.roots c.judgement_by.result least c.judgement_by.ensures.steps

pub returns-in-Err-clause-verdict : goal.returns-in-Err-clause-verdict
returns-in-Err-clause-verdict g c m p here there =
    let lacks = rw c.in-Err.is at (c.in_ok-roots.ensures m p here there) in
    subst (IsVerdictOn (options_of c.args.means.limits c.args.means.detail) c.args.pair.now.first m c.args.pair.now.second p) (sym c.bare.ensures.verdict) (verdict_lacking (options_of c.args.means.limits c.args.means.detail) c.args.pair.now.first m c.args.pair.now.second p c.in-Err.verdict lacks)

pub returns-in-Err-clause-steps : goal.returns-in-Err-clause-steps
returns-in-Err-clause-steps g c m p here there =
    let lacks = rw c.in-Err.is at (c.in_ok-roots.ensures m p here there) in
    let other = lacking_other c.args.pair.now.first m c.args.pair.now.second p c.in-Err.verdict lacks in
    bare_steps c.args.means.detail _ c.bare.result.verdict c.bare.result.steps (λ e. other (sym c.bare.ensures.verdict ∙ e)) c.bare.ensures.steps
