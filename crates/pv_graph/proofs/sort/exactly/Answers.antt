use Rattle.std.proofs.Common.{true, false}
use Rattle.pv_graph.proofs.SortSteps.{chosen}
use Rattle.pv_graph.proofs.sort.exactly.Goals as goal

pub returns-then-eq : goal.returns-then-eq
returns-then-eq c = chosen c.args.takes.now c.args.kids.now c.args.gives true c.if-eq.ensures

pub returns-else-eq : goal.returns-else-eq
returns-else-eq c = chosen c.args.takes.now c.args.kids.now c.args.gives false c.if-eq.ensures
