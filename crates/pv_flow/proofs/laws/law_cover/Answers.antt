use Rattle.pv_flow.proofs.Flows.{home, one_number, stands_reached}
use Rattle.pv_flow.proofs.laws.law_cover.Goals as goal

pub returns-clause-one : goal.returns-clause-one
returns-clause-one c = λ p blocks flow k reached.
    let found = home p blocks flow k reached in
    (found.0, found.1, λ m stands. one_number p blocks flow m found.0 k stands found.1)

pub returns-clause-reached : goal.returns-clause-reached
returns-clause-reached c = stands_reached
