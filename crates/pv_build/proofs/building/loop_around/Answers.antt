use Rattle.pv_build.proofs.Around.{home_low}
use Rattle.pv_build.proofs.Outwards.{rest_at, low_at}
use Rattle.pv_build.proofs.building.loop_around.Goals as goal

pub around-requires : goal.around-requires
around-requires c = home_low c.args.method.now c.requires.method c.args.b c.requires.block

pub returns-clause-loops : goal.returns-clause-loops
returns-clause-loops c = rest_at c.args.method.now c.requires.method c.args.b c.around.result.now c.around.ensures.headers c.around.ensures.within c.args.k c.number_at.result c.number_at.ensures

pub returns-clause-region : goal.returns-clause-region
returns-clause-region c = low_at c.args.method.now c.requires.method c.args.b c.around.result.now c.around.ensures.headers c.around.ensures.within c.args.k c.number_at.result c.number_at.ensures
