use Rattle.pv_links.proofs.Chained.{composed_equivalent}
use Rattle.pv_links.proofs.Linking.{reported_composed}
use Rattle.pv_links.proofs.laws.law_composed.Goals as goal

pub returns-clause-composed : goal.returns-clause-composed
returns-clause-composed c = reported_composed

pub returns-clause-equivalent : goal.returns-clause-equivalent
returns-clause-equivalent c = composed_equivalent
