use Rattle.pv_report.specs.Judging.{IsLikeAt}
use Rattle.pv_report.proofs.Cited.{here_again}
use Rattle.pv_differences.proofs.Found.{finding_at, missing_at}
use Rattle.pv_differences.proofs.finding.find.Goals as goal

pub returns-in-None : goal.returns-in-None
returns-in-None c =
    let pair = c.args.pair.now in
    let x = c.index-as_slice-method.result in
    let here = here_again pair.first.methods c.args.method x c.requires.there (rw (← c.as_slice.ensures) c.index-as_slice-method.is) in
    missing_at c.args.limits pair.first pair.second c.args.method x here (rw c.in-None.is at c.in_ok-partner_of.ensures)

pub returns-in-Some : goal.returns-in-Some
returns-in-Some c =
    let pair = c.args.pair.now in
    let x = c.index-as_slice-method.result in
    let here = here_again pair.first.methods c.args.method x c.requires.there (rw (← c.as_slice.ensures) c.index-as_slice-method.is) in
    let like : IsLikeAt x pair.second.methods c.in-Some.partner = rw c.in-Some.is at c.in_ok-partner_of.ensures in
    finding_at c.args.limits pair.first pair.second c.args.method c.in-Some.partner x c.find_on.result here like c.find_on.ensures
