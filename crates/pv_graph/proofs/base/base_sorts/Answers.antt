use Rattle.std.proofs.Common.{true≢false, sym, ◌∙◌}
use Rattle.pv_graph.proofs.Basing.{sorts_within, found_are}
use Rattle.pv_graph.proofs.base.base_sorts.Goals as goal

pub returns-then-not-are_all_within : goal.returns-then-not-are_all_within
returns-then-not-are_all_within c sorts are = true≢false (sym (c.if-not-are_all_within.ensures.1 (sorts_within c.args.nodes.now sorts are)))

pub returns : goal.returns
returns c sorts are = true≢false (sym (c.in_ok-all_fit.ensures.1 (found_are c.args.nodes.now sorts are c.requires.cycles c.in_ok-sorts.sorts.items c.in_ok-sorts.ensures)) ∙ c.if-branch.false)
