use Rattle.std.proofs.Common.{Bool, List, length, subst}
use Rattle.pv_counted.specs.Replaced.{AreReplaced}
use Rattle.pv_counted.proofs.ClearedLeast.{clearing_within, is_clearing}
use Rattle.pv_counted.proofs.clearing.cleared_nodes.Goals as goal

pub returns-clause-clearing : goal.returns-clause-clearing
returns-clause-clearing c =
    let g = c.args.g.now in
    let nodes = c.in_ok-nodes.nodes.items in
    is_clearing g c.args.counted.now c.in_ok-settled.settled.items nodes c.in_ok-settled.ensures
    (subst (λ (marks : List Bool). AreReplaced g marks (length g.nodes) nodes) c.deref.ensures.value c.in_ok-nodes.ensures.replaced)

pub returns-clause-within : goal.returns-clause-within
returns-clause-within c =
    let g = c.args.g.now in
    let nodes = c.in_ok-nodes.nodes.items in
    clearing_within g c.args.counted.now nodes c.requires
    (is_clearing g c.args.counted.now c.in_ok-settled.settled.items nodes c.in_ok-settled.ensures
    (subst (λ (marks : List Bool). AreReplaced g marks (length g.nodes) nodes) c.deref.ensures.value c.in_ok-nodes.ensures.replaced))
