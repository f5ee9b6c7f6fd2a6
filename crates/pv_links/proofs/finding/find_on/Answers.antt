use Rattle.std.specs.Prelude.{Ok, Err, None}
use Rattle.pv_check.specs.declared.checker.Checked.TheVariants as checked
use Rattle.pv_links.specs.Made.{HaveCodesAt, IsChecked, LeastOnPlaces, lemmas_by}
use Rattle.pv_links.proofs.Placed.{both_accepted, first_code, first_refused, first_rejected, last_code, middle_code, sealed_at, second_refused, second_rejected}
use Rattle.pv_links.proofs.finding.find_on.Goals as goal

pub roots_of-requires-clause-code : goal.roots_of-requires-clause-code
roots_of-requires-clause-code g c =
    let codes : HaveCodesAt c.args.classes.now c.args.at None = rw c.in_default.is at c.without_code.ensures in
    first_code c.args.classes.now c.args.at c.requires.within codes

pub roots_of-requires-clause-partner_code : goal.roots_of-requires-clause-partner_code
roots_of-requires-clause-partner_code g c =
    let codes : HaveCodesAt c.args.classes.now c.args.at None = rw c.in_default.is at c.without_code.ensures in
    middle_code c.args.classes.now c.args.at c.requires.within codes

pub returns-in-Err : goal.returns-in-Err
returns-in-Err g c =
    let k = c.args.classes.now in
    let at = c.args.at in
    let codes : HaveCodesAt k at None = rw c.in_default.is at c.without_code.ensures in
    let lacks : LeastOnPlaces k.first at.first k.middle at.middle (Err c.in-Err.refused) = rw c.in-Err.is at c.in_ok-least.ensures in
    rw c.refused_at.ensures (first_refused (lemmas_by c.args.rules.now) k at (c.args.section.now, c.args.other.now) c.in-Err.refused codes lacks)

pub roots_of-requires-2-clause-code : goal.roots_of-requires-2-clause-code
roots_of-requires-2-clause-code g c =
    let codes : HaveCodesAt c.args.classes.now c.args.at None = rw c.in_default.is at c.without_code.ensures in
    middle_code c.args.classes.now c.args.at c.requires.within codes

pub roots_of-requires-2-clause-partner_code : goal.roots_of-requires-2-clause-partner_code
roots_of-requires-2-clause-partner_code g c =
    let codes : HaveCodesAt c.args.classes.now c.args.at None = rw c.in_default.is at c.without_code.ensures in
    last_code c.args.classes.now c.args.at c.requires.within codes

pub returns-in-Err-2 : goal.returns-in-Err-2
returns-in-Err-2 g c =
    let k = c.args.classes.now in
    let at = c.args.at in
    let one : LeastOnPlaces k.first at.first k.middle at.middle (Ok c.in-Ok.least) = rw c.in-Ok.is at c.in_ok-least.ensures in
    let lacks : LeastOnPlaces k.middle at.middle k.last at.last (Err c.in-Err-2.refused) = rw c.in-Err-2.is at c.in_ok-least-2.ensures in
    rw c.refused_at-in-Err-2.ensures (second_refused (lemmas_by c.args.rules.now) k at (c.args.section.now, c.args.other.now) c.in-Err-2.refused c.in-Ok.least one lacks)

pub check-requires-after_bounds : goal.check-requires-after_bounds
check-requires-after_bounds g c κs within =
    let k = c.args.classes.now in
    let at = c.args.at in
    let one : LeastOnPlaces k.first at.first k.middle at.middle (Ok c.in-Ok.least) = rw c.in-Ok.is at c.in_ok-least.ensures in
    sealed_at k.first k.middle at.first at.middle c.in-Ok.least c.requires.within.first c.requires.within.middle one

pub returns-in-Rejected : goal.returns-in-Rejected
returns-in-Rejected g c =
    let k = c.args.classes.now in
    let at = c.args.at in
    let one : LeastOnPlaces k.first at.first k.middle at.middle (Ok c.in-Ok.least) = rw c.in-Ok.is at c.in_ok-least.ensures in
    let two : LeastOnPlaces k.middle at.middle k.last at.last (Ok c.in-Ok-2.least) = rw c.in-Ok-2.is at c.in_ok-least-2.ensures in
    let is : IsChecked c.args.rules.now.first.now c.in-Ok.least c.args.section.now (checked.Rejected c.in-Rejected.n) = rw (c.of_first.ensures, c.in-Rejected.is) at c.in_ok-n.ensures in
    first_rejected (lemmas_by c.args.rules.now) k at (c.args.section.now, c.args.other.now) c.in-Ok.least c.in-Ok-2.least c.in-Rejected.n one two is

pub check-requires-2-after_bounds : goal.check-requires-2-after_bounds
check-requires-2-after_bounds g c κs within =
    let k = c.args.classes.now in
    let at = c.args.at in
    let two : LeastOnPlaces k.middle at.middle k.last at.last (Ok c.in-Ok-2.least) = rw c.in-Ok-2.is at c.in_ok-least-2.ensures in
    sealed_at k.middle k.last at.middle at.last c.in-Ok-2.least c.requires.within.middle c.requires.within.last two

pub returns-in-Rejected-2 : goal.returns-in-Rejected-2
returns-in-Rejected-2 g c =
    let k = c.args.classes.now in
    let at = c.args.at in
    let one : LeastOnPlaces k.first at.first k.middle at.middle (Ok c.in-Ok.least) = rw c.in-Ok.is at c.in_ok-least.ensures in
    let two : LeastOnPlaces k.middle at.middle k.last at.last (Ok c.in-Ok-2.least) = rw c.in-Ok-2.is at c.in_ok-least-2.ensures in
    let is : IsChecked c.args.rules.now.second.now c.in-Ok-2.least c.args.other.now (checked.Rejected c.in-Rejected-2.n) = rw (c.of_second.ensures, c.in-Rejected-2.is) at c.in_ok-n-2.ensures in
    second_rejected (lemmas_by c.args.rules.now) k at (c.args.section.now, c.args.other.now) c.in-Ok.least c.in-Ok-2.least c.in_ok-n.field-0 c.in-Rejected-2.n one two c.in_default-2.not-Rejected (rw c.of_first.ensures at c.in_ok-n.ensures) is

pub returns : goal.returns
returns g c =
    let k = c.args.classes.now in
    let at = c.args.at in
    let one : LeastOnPlaces k.first at.first k.middle at.middle (Ok c.in-Ok.least) = rw c.in-Ok.is at c.in_ok-least.ensures in
    let two : LeastOnPlaces k.middle at.middle k.last at.last (Ok c.in-Ok-2.least) = rw c.in-Ok-2.is at c.in_ok-least-2.ensures in
    both_accepted (lemmas_by c.args.rules.now) k at (c.args.section.now, c.args.other.now) c.in-Ok.least c.in-Ok-2.least c.in_ok-n.field-0 c.in_ok-n-2.field-0 one two c.in_default-2.not-Rejected c.in_default-3.not-Rejected (rw c.of_first.ensures at c.in_ok-n.ensures) (rw c.of_second.ensures at c.in_ok-n-2.ensures)
