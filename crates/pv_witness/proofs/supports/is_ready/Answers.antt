use Rattle.std.proofs.Common.{ℕ, List, subst}
use Rattle.pv_graph.specs.Walks.{In}
use Rattle.pv_witness.proofs.Supporting.{counted_is_kid}
use Rattle.pv_witness.proofs.supports.is_ready.Goals as goal

pub all_have-requires-clause-kids : goal.all_have-requires-clause-kids
all_have-requires-clause-kids c k i = c.requires.kids k (counted_is_kid c.args.condition c.args.node.now.op c.args.node.now.kids k (subst (λ (ks : List ℕ). In ks k) c.counted.ensures i))

pub all_have-requires-clause-numbers : goal.all_have-requires-clause-numbers
all_have-requires-clause-numbers c k i = c.requires.numbers k (counted_is_kid c.args.condition c.args.node.now.op c.args.node.now.kids k (subst (λ (ks : List ℕ). In ks k) c.counted.ensures i))
