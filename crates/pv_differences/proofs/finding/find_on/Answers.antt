use Rattle.pv_report.proofs.Cited.{code_there, slice_at}
use Rattle.pv_differences.proofs.Found.{calling, code_of, lacking, tried_at}
use Rattle.pv_differences.proofs.finding.find_on.Goals as goal

pub returns-in-Err : goal.returns-in-Err
returns-in-Err c = λ m p here there. lacking c.args.limits c.args.pair.now.first m c.args.pair.now.second p c.in-Err.finding ((rw c.in-Err.is at c.in_ok-both.ensures) m p here there)

pub returns-in-Some : goal.returns-in-Some
returns-in-Some c = λ m p here there.
    calling c.args.limits c.args.pair.now.first m c.args.pair.now.second p c.in-Ok.both c.in-Some.side ((rw c.in-Ok.is at c.in_ok-both.ensures) m p here there) ((rw c.in-Some.is at c.in_ok-side.ensures) m p here there)

pub try_both-requires-clause-code : goal.try_both-requires-clause-code
try_both-requires-clause-code c =
    let f = c.args.pair.now.first in
    let p = slice_at c.args.pair.now.second.methods c.args.partner c.requires.partner in
    code_there f c.args.method c.requires.read.0 c.requires.there (λ m at. code_of f m c.in-Ok.both.one ((rw c.in-Ok.is at c.in_ok-both.ensures) m p.0 at p.1).0)

pub try_both-requires-clause-program : goal.try_both-requires-clause-program
try_both-requires-clause-program c =
    let p = slice_at c.args.pair.now.second.methods c.args.partner c.requires.partner in
    λ m at. ((rw c.in-Ok.is at c.in_ok-both.ensures) m p.0 at p.1).0

pub returns : goal.returns
returns c =
    let pair = c.args.pair.now in
    tried_at c.args.limits pair.first pair.second c.args.method c.args.partner c.in-Ok.both c.try_both.result (rw c.in-Ok.is at c.in_ok-both.ensures) (rw c.in_default.is at c.in_ok-side.ensures) c.try_both.ensures
