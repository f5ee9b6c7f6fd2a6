use Rattle.std.proofs.Common.{◌∙◌, sym, subst}
use Rattle.pv_graph.specs.Graphs.{Graph}
use Rattle.pv_graph.specs.Calls.{IsSame}
use Rattle.pv_explain.proofs.Concluding.{has_base, no_blocks, section_derives}
use Rattle.pv_explain.proofs.conclude.section.Goals as goal

pub explain-requires-clause-begins : goal.explain-requires-clause-begins
explain-requires-clause-begins c =
    has_base c.in_ok-writer.writer c.args.least.now c.args.search.now.graph.now c.in_ok-writer.ensures.least c.requires.grown
    (subst (λ (g : Graph). IsSame g c.in_ok-writer.writer.graph) (sym c.in_ok-writer.ensures.least) c.in_ok-writer.ensures.graph)

pub returns : goal.returns
returns c =
    section_derives c.state_last.new.writer c.args.least.now c.args.a c.args.b c.into_steps.result (c.in_ok-state_last.ensures.goes.later.least ∙ c.in_ok-why.ensures.goes.later.least ∙ c.in_ok-writer.ensures.least) c.into_steps.ensures.right
    c.into_steps.ensures.steps (c.in_ok-state_last.ensures.goes.blocks ∙ c.in_ok-why.ensures.goes.blocks ∙ no_blocks c.in_ok-writer.writer c.in_ok-writer.ensures.before) c.in_ok-state_last.ensures.last
