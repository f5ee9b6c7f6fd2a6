use Rattle.std.proofs.Common.{Some, ap, ◌∙◌}
use Rattle.cases_graphs.proofs.graphs.tie.Goals as goal

pub tie-requires-clause-open : goal.tie-requires-clause-open
tie-requires-clause-open c = let open_ = c.is_open.ensures.0 c.if-not-is_open.false in (open_.0, c.node.ensures ∙ ap Some open_.1)
