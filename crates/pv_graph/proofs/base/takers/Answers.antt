use Rattle.std.proofs.Common.{Bool, List, Option, subst}
use Rattle.pv_graph.specs.declared.node.OpSort.{OpSort}
use Rattle.pv_graph.specs.declared.reach.Look.TheVariants as look
use Rattle.pv_graph.specs.Reach.{AreReached}
use Rattle.pv_graph.specs.Base.{AreOfSort}
use Rattle.pv_graph.proofs.Basing.{are_takers, uses_within}
use Rattle.pv_graph.proofs.base.takers.Goals as goal

pub reaching-requires-clause-within : goal.reaching-requires-clause-within
reaching-requires-clause-within c = uses_within c.args.nodes.now c.args.uses.now c.requires.uses

pub returns : goal.returns
returns c =
    are_takers c.args.nodes.now c.args.uses.now c.requires.uses c.args.sort c.in_ok-starts.starts.items c.in_ok-marks.marks.items
    (subst (λ (owns : List (Option OpSort)). AreOfSort owns c.args.sort c.in_ok-starts.starts.items) c.requires.owns c.in_ok-starts.ensures)
    (subst (λ (starts : List Bool). AreReached c.args.nodes.now c.args.uses.now look.Sort starts c.in_ok-marks.marks.items) c.deref.ensures.value c.in_ok-marks.ensures)
