use Rattle.pv_loops.proofs.Grouping.{one_reducible}
use Rattle.pv_loops.proofs.Descending.{reduces_to_one}
use Rattle.pv_loops.proofs.law_confluence.Goals as goal

pub returns-clause-confluent : goal.returns-clause-confluent
returns-clause-confluent c = one_reducible

pub returns-clause-reduced : goal.returns-clause-reduced
returns-clause-reduced c = reduces_to_one
