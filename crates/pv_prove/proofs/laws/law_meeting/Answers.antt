use Rattle.pv_prove.proofs.Meets.{some_way, no_way}
use Rattle.pv_prove.proofs.laws.law_meeting.Goals as goal

pub returns-clause-some_way : goal.returns-clause-some_way
returns-clause-some_way c = some_way

pub returns-clause-no_way : goal.returns-clause-no_way
returns-clause-no_way c = no_way
