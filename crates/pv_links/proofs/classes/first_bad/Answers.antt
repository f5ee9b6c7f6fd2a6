use Rattle.std.specs.Prelude.{Some, None}
use Rattle.pv_links.specs.Made.{FaultFetched}
use Rattle.pv_links.proofs.classes.first_bad.Goals as goal

pub returns-in-Some : goal.returns-in-Some
returns-in-Some c a b d p q r =
    let bad : FaultFetched c.args.first.now (Some c.in-Some.fault) = rw c.in-Some.is at c.in_ok-fault.ensures in
    bad a p

pub returns-in-Some-2 : goal.returns-in-Some-2
returns-in-Some-2 c a b d p q r =
    let first : FaultFetched c.args.first.now None = rw c.in_default.is at c.in_ok-fault.ensures in
    let bad : FaultFetched c.args.second.now (Some c.in-Some-2.fault) = rw c.in-Some-2.is at c.in_ok-fault-2.ensures in
    (first a p, bad b q)

pub returns-in-Some-3 : goal.returns-in-Some-3
returns-in-Some-3 c a b d p q r =
    let first : FaultFetched c.args.first.now None = rw c.in_default.is at c.in_ok-fault.ensures in
    let second : FaultFetched c.args.second.now None = rw c.in_default-2.is at c.in_ok-fault-2.ensures in
    let bad : FaultFetched c.args.third.now (Some c.in-Some-3.fault) = rw c.in-Some-3.is at c.in_ok-fault-3.ensures in
    (first a p, second b q, bad d r)
