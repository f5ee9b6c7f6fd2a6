use Rattle.pv_rounds.proofs.Searching.{congruence}
use Rattle.cases_search.proofs.searching.matches_by.Goals as goal

pub matches-requires-clause-congruence : goal.matches-requires-clause-congruence
matches-requires-clause-congruence g c κs within = let (least, k, is) = c.requires.begun in congruence least k c.args.search.now is
