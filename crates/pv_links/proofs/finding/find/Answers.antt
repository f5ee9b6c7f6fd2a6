use Rattle.std.specs.Prelude.{Some, None}
use Rattle.pv_class.specs.Places.{IsNamedAt}
use Rattle.pv_links.specs.Made.{IsPartnerAt, lemmas_by}
use Rattle.pv_links.proofs.Placed.{finding_at, none_named, without_last, without_middle}
use Rattle.pv_links.proofs.finding.find.Goals as goal

pub returns-in_default : goal.returns-in_default
returns-in_default g c = let k = c.args.classes.now in none_named k.first k.middle k.last c.args.section.now (rw c.in_default.is at c.in_ok-first.ensures.place)

pub returns-in_default-2 : goal.returns-in_default-2
returns-in_default-2 g c =
    let k = c.args.classes.now in
    let s = c.args.section.now in
    let named : IsNamedAt k.first.methods s.name s.desc c.in-Some.first = rw c.in-Some.is at c.in_ok-first.ensures.place in
    let none : IsPartnerAt k.first c.in-Some.first k.middle None = rw c.in_default-2.is at c.in_ok-middle.ensures.partner in
    without_middle k.first k.middle k.last s c.in-Some.first c.requires.first named none

pub returns-in_default-3 : goal.returns-in_default-3
returns-in_default-3 g c =
    let k = c.args.classes.now in
    let s = c.args.section.now in
    let named : IsNamedAt k.first.methods s.name s.desc c.in-Some.first = rw c.in-Some.is at c.in_ok-first.ensures.place in
    let partner : IsPartnerAt k.first c.in-Some.first k.middle (Some c.in-Some-2.middle) = rw c.in-Some-2.is at c.in_ok-middle.ensures.partner in
    let none : IsPartnerAt k.middle c.in-Some-2.middle k.last None = rw c.in_default-3.is at c.in_ok-last.ensures.partner in
    without_last k.first k.middle k.last s c.in-Some.first c.in-Some-2.middle c.requires.first c.requires.middle named partner none

pub returns : goal.returns
returns g c =
    let k = c.args.classes.now in
    let s = c.args.section.now in
    let named : IsNamedAt k.first.methods s.name s.desc c.in-Some.first = rw c.in-Some.is at c.in_ok-first.ensures.place in
    let partner : IsPartnerAt k.first c.in-Some.first k.middle (Some c.in-Some-2.middle) = rw c.in-Some-2.is at c.in_ok-middle.ensures.partner in
    let last : IsPartnerAt k.middle c.in-Some-2.middle k.last (Some c.in-Some-3.last) = rw c.in-Some-3.is at c.in_ok-last.ensures.partner in
    finding_at (lemmas_by c.args.rules.now) k (record { first = c.in-Some.first; middle = c.in-Some-2.middle; last = c.in-Some-3.last }) (s, c.args.other.now) c.find_on.result named partner last c.find_on.ensures
