use Rattle.pv_rounds.proofs.Searching.{readable, congruence, answered}
use Rattle.pv_rounds.proofs.search.Search.all_matches.Goals as goal

pub matches-requires-clause-congruence : goal.matches-requires-clause-congruence
matches-requires-clause-congruence g c κs within = let (least, k, is) = c.requires in congruence least k c.args.self.now is

pub matches-requires-clause-readable : goal.matches-requires-clause-readable
matches-requires-clause-readable g c κs within = let (least, k, is) = c.requires in readable least k c.args.self.now is

pub matches-requires-clause-once : goal.matches-requires-clause-once
matches-requires-clause-once g c κs within = let (least, k, is) = c.requires in is.table_.once

pub returns : goal.returns
returns g c =
    let (least, k, is) = c.requires in
    answered least k c.args.self.now is c.deref.result.now c.in_ok-answer-2.answer c.deref.ensures.value c.in_ok-answer-2.ensures
