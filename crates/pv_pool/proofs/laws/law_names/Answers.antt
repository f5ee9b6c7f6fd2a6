use Rattle.pv_pool.proofs.Members.{names_apart}
use Rattle.pv_pool.proofs.laws.law_names.Goals as goal

pub returns : goal.returns
returns c = names_apart
