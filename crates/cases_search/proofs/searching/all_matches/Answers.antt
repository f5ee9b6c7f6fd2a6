use Rattle.pv_rounds.proofs.Searching.{readable}
use Rattle.cases_search.proofs.searching.all_matches.Goals as goal

pub matches_by-requires-clause-readable : goal.matches_by-requires-clause-readable
matches_by-requires-clause-readable g c κs within = let (least, k, is) = c.requires in readable least k c.args.search.now is

pub matches_by-requires-clause-once : goal.matches_by-requires-clause-once
matches_by-requires-clause-once g c κs within = let (least, k, is) = c.requires in is.table_.once
