use Rattle.std.proofs.lemmas.Iterator.Consumers.{YieldsList-from_copied}
use Rattle.std.proofs.lemmas.Iterator.Adapters.{YieldsList-from_rev_slice, items_from_extend}
use Rattle.std.proofs.Common.{rules}
use Rattle.pv_alike.proofs.visit.push_all.Goals as goal

pub returns : goal.returns
returns c =
    let h = items_from_extend c.extend.result c.extend.ensures.ran (YieldsList-from_copied (YieldsList-from_rev_slice c.args.nodes.now cc)) in
    search rules
