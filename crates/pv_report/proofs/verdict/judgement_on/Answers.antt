use Rattle.pv_report.specs.Judging.{IsLikeAt}
use Rattle.pv_report.specs.Options.{options_of}
use Rattle.pv_report.proofs.Places.{here_again}
use Rattle.pv_report.proofs.Partnering.{verdict_at}
use Rattle.pv_report.proofs.Showing.{steps_at}
use Rattle.pv_report.proofs.verdict.judgement_on.Goals as goal

pub returns-in-Some-clause-verdict : goal.returns-in-Some-clause-verdict
returns-in-Some-clause-verdict g c =
    let pair = c.args.pair.now in
    let one = c.index-as_slice-method.result in
    let here = here_again pair.first.methods c.args.method one c.requires.there (rw (← c.as_slice.ensures) c.index-as_slice-method.is) in
    let like : IsLikeAt one pair.second.methods c.in-Some.partner = rw c.in-Some.is at c.in_ok-partner_of.ensures in
    verdict_at (options_of c.args.means.limits c.args.means.detail) pair.first pair.second c.args.method c.in-Some.partner one c.judgement_with.result here like c.judgement_with.ensures.verdict

pub returns-in-Some-clause-steps : goal.returns-in-Some-clause-steps
returns-in-Some-clause-steps g c =
    let pair = c.args.pair.now in
    let one = c.index-as_slice-method.result in
    let here = here_again pair.first.methods c.args.method one c.requires.there (rw (← c.as_slice.ensures) c.index-as_slice-method.is) in
    let like : IsLikeAt one pair.second.methods c.in-Some.partner = rw c.in-Some.is at c.in_ok-partner_of.ensures in
    steps_at c.args.means.detail pair.first pair.second c.args.method c.in-Some.partner one c.judgement_with.result here like c.judgement_with.ensures.steps
