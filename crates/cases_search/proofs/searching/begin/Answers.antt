use Rattle.cases_search.proofs.Known.{begun}
use Rattle.cases_search.proofs.searching.begin.Goals as goal

pub returns : goal.returns
returns c = begun _ _ _ _ c.in_ok-search.search c.in_ok-search.ensures
