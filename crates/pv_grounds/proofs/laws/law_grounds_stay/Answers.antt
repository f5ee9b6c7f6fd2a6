use Rattle.pv_grounds.proofs.Given.{given_stays, grounds_stay, ground_stays}
use Rattle.pv_grounds.proofs.laws.law_grounds_stay.Goals as goal

pub returns-clause-given : goal.returns-clause-given
returns-clause-given c = given_stays

pub returns-clause-joins : goal.returns-clause-joins
returns-clause-joins c = grounds_stay

pub returns-clause-block : goal.returns-clause-block
returns-clause-block c = ground_stays
