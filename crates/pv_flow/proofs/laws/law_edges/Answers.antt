use Rattle.pv_flow.proofs.Flows.{entry_block, edges_within, edges_reach}
use Rattle.pv_flow.proofs.laws.law_edges.Goals as goal

pub returns-clause-entry : goal.returns-clause-entry
returns-clause-entry c = entry_block

pub returns-clause-within : goal.returns-clause-within
returns-clause-within c = edges_within

pub returns-clause-reach : goal.returns-clause-reach
returns-clause-reach c = edges_reach
