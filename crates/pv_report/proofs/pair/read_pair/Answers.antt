use Rattle.std.specs.Prelude.{Ok, Err}
use Rattle.pv_report.specs.Judging.{ReadsFetched}
use Rattle.pv_report.proofs.pair.read_pair.Goals as goal

pub returns-in-Err-2-clause-reads : goal.returns-in-Err-2-clause-reads
returns-in-Err-2-clause-reads c a b p q =
    let one : ReadsFetched c.args.first.now (Ok c.in-Ok.class) = rw c.in-Ok.is at c.in_ok-class.ensures.reads in
    let bad : ReadsFetched c.args.second.now (Err c.in-Err-2.fault) = rw c.in-Err-2.is at c.in_ok-class-2.ensures.reads in
    rw (c.bad_class-in-Err-2.ensures.side, c.bad_class-in-Err-2.ensures.fault) ((c.in-Ok.class, one a p), bad b q)
