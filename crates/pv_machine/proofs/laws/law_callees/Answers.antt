-- What holds in worlds holds over any callees.
use Rattle.pv_machine.proofs.laws.law_callees.Goals as goal
use Rattle.pv_machine.proofs.OverCallees.{over_its_own, more_replies, finitely_many_replies, same_over_callees}

pub returns-clause-own : goal.returns-clause-own
returns-clause-own c = over_its_own

pub returns-clause-more : goal.returns-clause-more
returns-clause-more c = more_replies

pub returns-clause-finite : goal.returns-clause-finite
returns-clause-finite c = finitely_many_replies c.law_calls.ensures

pub returns-clause-same : goal.returns-clause-same
returns-clause-same c = same_over_callees c.law_calls.ensures
