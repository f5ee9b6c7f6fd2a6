use Rattle.std.proofs.Common.{Some, None, rules, sym, subst}
use Rattle.pv_grounds.specs.Searches.{Search, IsBegun}
use Rattle.pv_prove.specs.Looking.{Sees}
use Rattle.pv_prove.specs.Meetings.{IsMeeting}
use Rattle.pv_prove.proofs.Growing.{of_other}
use Rattle.pv_prove.proofs.Looking.{seen}
use Rattle.pv_prove.proofs.searches.Searches.look.Goals as goal

pub look_at-requires : goal.look_at-requires
look_at-requires g c = (search rules, (search rules, of_other IsBegun c.args.self.now.plain c.args.self.now.other c.requires.1))

pub returns-in-Some : goal.returns-in-Some
returns-in-Some g c =
    let s = c.args.self.now in
    let l = c.args.least.now in
    subst (λ (e : Search). IsMeeting l.graph l.first l.second s.plain.classes.numbers e.classes.numbers (Some c.in-Some.meeting)) c.ending.ensures c.in-Some.ensures

pub returns : goal.returns
returns g c =
    let s = c.args.self.now in
    let l = c.args.least.now in
    let none = subst (λ (e : Search). IsMeeting l.graph l.first l.second s.plain.classes.numbers e.classes.numbers None) c.ending.ensures c.in_default.ensures in
    subst (Sees l c.args.k s) (sym c.seen_of.ensures) (seen l c.args.k s none c.in_ok-plain.plain c.in_ok-other.other c.in_ok-plain.ensures c.in_ok-other.ensures)
