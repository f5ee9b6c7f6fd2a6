use Rattle.pv_differences.proofs.Differing.{differences_show, never_both}
use Rattle.pv_differences.proofs.laws.law_differs.Goals as goal

pub returns-clause-show : goal.returns-clause-show
returns-clause-show c = differences_show c.law_tries.ensures.world c.law_tries.ensures.inputs c.law_differences.ensures.show c.law_differences.ensures.apart

pub returns-clause-never : goal.returns-clause-never
returns-clause-never c = never_both (differences_show c.law_tries.ensures.world c.law_tries.ensures.inputs c.law_differences.ensures.show c.law_differences.ensures.apart)
