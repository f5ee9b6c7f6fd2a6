use Rattle.std.specs.Prelude.{Ok, Err}
use Rattle.pv_report.specs.Judging.{IsLeastOnPlaces}
use Rattle.pv_links.proofs.Placed.{other_verdict}
use Rattle.pv_links.proofs.roots.roots_of.Goals as goal

pub unreachable-requires : goal.unreachable-requires
unreachable-requires c =
    let lack : IsLeastOnPlaces c.args.first.now c.args.method c.args.second.now c.args.partner (Err c.in-Err.verdict) = rw c.in-Err.is at c.in_ok-least.ensures in
    other_verdict c.args.first.now c.args.second.now c.args.method c.args.partner c.in-Err.verdict c.requires.there c.requires.partner c.requires.code c.requires.partner_code c.in_default.not-Refused lack

pub returns-in-Ok : goal.returns-in-Ok
returns-in-Ok c = λ m p here there.
    let has : IsLeastOnPlaces c.args.first.now c.args.method c.args.second.now c.args.partner (Ok c.in-Ok.least) = rw c.in-Ok.is at c.in_ok-least.ensures in
    has m p here there
