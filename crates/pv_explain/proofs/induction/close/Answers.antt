use Rattle.std.proofs.Common.{ℕ, sym, subst}
use Rattle.pv_axioms.specs.Entries.{ByAxioms}
use Rattle.pv_classes.specs.Blocks.{depth_of, pairs_of}
use Rattle.pv_steps.specs.Steps.{outer_of}
use Rattle.pv_steps.specs.declared.step.Step.TheVariants.{Close}
use Rattle.pv_steps.specs.Right.{RightOver}
use Rattle.pv_writer.specs.Written.{Pushed, inside}
use Rattle.pv_explain.proofs.Beginning.{block_close_right, block_closed, closed_stated, lines_have}
use Rattle.pv_explain.proofs.induction.close.Goals as goal

pub push_close-requires : goal.push_close-requires
push_close-requires c =
    let now = c.all_next_facts.new.writer in
    subst (λ (d : ℕ). RightOver ByAxioms now.graph now.before (Close d c.in_ok-facts.facts.items)) (sym c.depth.ensures)
    (block_close_right c.args.writer.now now c.args.source.now (depth_of c.args.block.now) (pairs_of c.args.block.now) c.args.begun.now c.in_ok-facts.facts.items c.in_ok-facts.ensures.goes c.requires.inside c.requires.begun c.in_ok-facts.ensures.facts)

pub returns-clause-ends : goal.returns-clause-ends
returns-clause-ends c =
    let now = c.all_next_facts.new.writer in
    let pushed = subst (λ (d : ℕ). Pushed now c.push_close.new.writer (Close d c.in_ok-facts.facts.items) c.in_ok-step.step) c.depth.ensures c.in_ok-step.ensures in
    block_closed c.args.writer.now now c.push_close.new.writer (depth_of c.args.block.now) c.in_ok-step.step c.args.begun.now c.in_ok-facts.facts.items c.in_ok-facts.ensures.goes c.requires.inside pushed

pub returns-clause-stated : goal.returns-clause-stated
returns-clause-stated c =
    let now = c.all_next_facts.new.writer in
    let pushed = subst (λ (d : ℕ). Pushed now c.push_close.new.writer (Close d c.in_ok-facts.facts.items) c.in_ok-step.step) c.depth.ensures c.in_ok-step.ensures in
    closed_stated c.args.writer.now now c.push_close.new.writer c.args.source.now (depth_of c.args.block.now) c.in_ok-step.step (pairs_of c.args.block.now) c.args.begun.now c.in_ok-facts.facts.items c.in_ok-lines.lines.items c.in_ok-facts.ensures.goes
    c.requires.inside c.requires.begun pushed c.in_ok-lines.ensures

pub returns-clause-lines : goal.returns-clause-lines
returns-clause-lines c =
    lines_have c.args.writer.now (outer_of (inside c.args.writer.now)) c.args.source.now (depth_of c.args.block.now) c.requires.begun.0 c.in_ok-step.step (pairs_of c.args.block.now) c.args.begun.now c.in_ok-lines.lines.items c.requires.begun.1 c.in_ok-lines.ensures
