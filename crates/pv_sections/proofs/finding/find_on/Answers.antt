use Rattle.pv_check.specs.declared.checker.Checked.TheVariants as checked
use Rattle.pv_report.specs.Roots.{HaveLeast}
use Rattle.pv_sections.specs.Reading.{IsChecked}
use Rattle.pv_sections.proofs.Found.{lacking, least_sealed}
use Rattle.pv_sections.proofs.finding.find_on.Goals as goal

pub returns-in-Err : goal.returns-in-Err
returns-in-Err g c m p here there = lacking c.args.rules.now.lemmas.now c.args.pair.now.first m c.args.pair.now.second p c.args.section.now c.in-Err.verdict (rw c.in-Err.is at (c.in_ok-least.ensures m p here there))

pub check-requires-after_bounds : goal.check-requires-after_bounds
check-requires-after_bounds g c κs within =
    least_sealed c.args.pair.now.first c.args.pair.now.second c.args.method c.args.partner c.in-Ok.least c.requires.method c.requires.partner (rw c.in-Ok.is at c.in_ok-least.ensures)

pub returns-in-Accepted : goal.returns-in-Accepted
returns-in-Accepted g c m p here there =
    let least : HaveLeast c.args.pair.now.first m c.args.pair.now.second p c.in-Ok.least = rw c.in-Ok.is at (c.in_ok-least.ensures m p here there) in
    let derives : IsChecked c.args.rules.now.lemmas.now c.in-Ok.least c.args.section.now checked.Accepted = rw c.in-Accepted.is at c.in_ok-check.ensures in
    (c.in-Ok.least, least, derives)

pub returns : goal.returns
returns g c m p here there =
    let least : HaveLeast c.args.pair.now.first m c.args.pair.now.second p c.in-Ok.least = rw c.in-Ok.is at (c.in_ok-least.ensures m p here there) in
    let rejects : IsChecked c.args.rules.now.lemmas.now c.in-Ok.least c.args.section.now (checked.Rejected c.in-Rejected.n) = rw c.in-Rejected.is at c.in_ok-check.ensures in
    (c.in-Ok.least, least, rejects)
