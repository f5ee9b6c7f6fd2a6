use Rattle.pv_refute.proofs.Meanings.{apart_in_meaning, tries_show}
use Rattle.pv_refute.proofs.laws.law_differences.Goals as goal

pub returns-clause-show : goal.returns-clause-show
returns-clause-show c = tries_show

pub returns-clause-apart : goal.returns-clause-apart
returns-clause-apart c = apart_in_meaning c.law_ends_once.ensures.method
