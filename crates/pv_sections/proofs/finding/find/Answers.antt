use Rattle.std.specs.Prelude.{slice_get, Some}
use Rattle.std.proofs.Common.{◌≡◌, ◌<◌, length}
use Rattle.pv_class.specs.Places.{IsNamedAt}
use Rattle.pv_report.specs.Judging.{IsLikeAt}
use Rattle.pv_report.proofs.Cited.{here_again}
use Rattle.pv_sections.proofs.Found.{finding_at, none_named, without_partner}
use Rattle.pv_sections.proofs.finding.find.Goals as goal

pub returns-in_default : goal.returns-in_default
returns-in_default g c = none_named c.args.pair.now.first c.args.pair.now.second c.args.section.now (rw c.in_default.is at c.in_ok-method.ensures.place)

pub returns-in-None : goal.returns-in-None
returns-in-None g c =
    let pair = c.args.pair.now in
    let x = c.index-as_slice-method.result in
    let named : IsNamedAt pair.first.methods c.args.section.now.name c.args.section.now.desc c.in-Some.method = rw c.in-Some.is at c.in_ok-method.ensures.place in
    let lt : c.in-Some.method < length pair.first.methods = rw c.in-Some.is at c.in_ok-method.ensures.within in
    let here : slice_get pair.first.methods c.in-Some.method ≡ Some x = here_again pair.first.methods c.in-Some.method x lt (rw (← c.as_slice.ensures) c.index-as_slice-method.is) in
    without_partner pair.first pair.second c.args.section.now c.in-Some.method x c.requires.0 named here (rw c.in-None.is at c.in_ok-partner_of.ensures)

pub returns-in-Some-2 : goal.returns-in-Some-2
returns-in-Some-2 g c =
    let pair = c.args.pair.now in
    let x = c.index-as_slice-method.result in
    let named : IsNamedAt pair.first.methods c.args.section.now.name c.args.section.now.desc c.in-Some.method = rw c.in-Some.is at c.in_ok-method.ensures.place in
    let lt : c.in-Some.method < length pair.first.methods = rw c.in-Some.is at c.in_ok-method.ensures.within in
    let here : slice_get pair.first.methods c.in-Some.method ≡ Some x = here_again pair.first.methods c.in-Some.method x lt (rw (← c.as_slice.ensures) c.index-as_slice-method.is) in
    let like : IsLikeAt x pair.second.methods c.in-Some-2.partner = rw c.in-Some-2.is at c.in_ok-partner_of.ensures in
    finding_at c.args.rules.now.lemmas.now pair.first pair.second c.args.section.now c.in-Some.method c.in-Some-2.partner x c.find_on.result named here like c.find_on.ensures
