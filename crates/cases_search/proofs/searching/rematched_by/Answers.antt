use Rattle.pv_rounds.proofs.Searching.{congruence}
use Rattle.cases_search.proofs.searching.rematched_by.Goals as goal

pub rematch-requires-clause-congruence : goal.rematch-requires-clause-congruence
rematch-requires-clause-congruence g c κs within = let (least, k, is) = c.requires.begun in congruence least k c.args.search.now is
