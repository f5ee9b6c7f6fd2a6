use Rattle.std.proofs.Common.{◌≡◌}
use Rattle.std.specs.Prelude.{slice_get, Some}
use Rattle.pv_report.proofs.Cited.{here_again}
use Rattle.pv_links.proofs.Placed.{partner_below, partner_found}
use Rattle.pv_links.proofs.finding.partner_in.Goals as goal

pub returns-clause-partner : goal.returns-clause-partner
returns-clause-partner c =
    let f = c.args.first.now in
    let x = c.index-as_slice-method.result in
    let here : slice_get f.methods c.args.method ≡ Some x = here_again f.methods c.args.method x c.requires.there (rw (← c.as_slice.ensures) c.index-as_slice-method.is) in
    partner_found f c.args.second.now c.args.method x c.partner_of.result here c.partner_of.ensures

pub returns-clause-within : goal.returns-clause-within
returns-clause-within c = partner_below c.args.second.now c.index-as_slice-method.result c.partner_of.result c.partner_of.ensures
