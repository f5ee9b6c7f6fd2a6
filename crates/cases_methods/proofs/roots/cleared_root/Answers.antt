use Rattle.pv_alike.proofs.Cited.{least_within}
use Rattle.cases_methods.proofs.roots.cleared_root.Goals as goal

pub clear-requires-clause-first : goal.clear-requires-clause-first
clear-requires-clause-first c = (least_within c.in_ok-least-in-Ok.ensures.least.least).first

pub clear-requires-clause-second : goal.clear-requires-clause-second
clear-requires-clause-second c = (least_within c.in_ok-least-in-Ok.ensures.least.least).second

pub value_of-requires-clause-there : goal.value_of-requires-clause-there
value_of-requires-clause-there c = rw (c.first.ensures, c.graph-in-Ok.ensures) (least_within c.in_ok-cleared-in-Ok.ensures.cleared.4.least).first
