use Rattle.pv_grounds.proofs.Rounding.{new_grounded, owed_grounds, induct_grounded, round_grounded}
use Rattle.pv_grounds.proofs.laws.law_round.Goals as goal

pub returns-clause-new : goal.returns-clause-new
returns-clause-new c = new_grounded

pub returns-clause-owed : goal.returns-clause-owed
returns-clause-owed c seen old new numbers assumed ms owed adds = owed_grounds seen new numbers assumed ms owed adds.joins

pub returns-clause-induct : goal.returns-clause-induct
returns-clause-induct c = induct_grounded

pub returns-clause-round : goal.returns-clause-round
returns-clause-round c = round_grounded
