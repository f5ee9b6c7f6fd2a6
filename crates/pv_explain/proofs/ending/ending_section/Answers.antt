use Rattle.std.proofs.Common.{◌<◌, ◌∙◌, ℕ, length, sym, subst, arith}
use Rattle.pv_graph.specs.Graphs.{Graph}
use Rattle.pv_graph.specs.Calls.{IsSame}
use Rattle.pv_writer.proofs.Pushing.{later_trans}
use Rattle.pv_explain.proofs.Concluding.{has_base, no_blocks, section_derives}
use Rattle.pv_explain.proofs.EndingBlocks.{base_later, block_outside, endings_low, grows_later, kids_low, outer_gives, root_kept, waits_endings, waits_kept}
use Rattle.pv_explain.proofs.ending.ending_section.Goals as goal

-- ---- the tokens

pub explain-requires-clause-begins : goal.explain-requires-clause-begins
explain-requires-clause-begins c =
    let w = c.in_ok-writer.writer in
    has_base w c.args.least.now c.args.both.now.plain.graph.now c.in_ok-writer.ensures.least c.requires.plain_grown (subst (λ (g : Graph). IsSame g w.graph) (sym c.in_ok-writer.ensures.least) c.in_ok-writer.ensures.graph)

pub explain-requires-clause-first : goal.explain-requires-clause-first
explain-requires-clause-first c =
    let k = kids_low c.args.least.now c.args.roots.now.first c.args.roots.now.left c.len-base.ensures.graph c.requires.first in
    let low = k.token in
    let e = c.len-base.ensures.len in
    omega (arith, e, low)

pub explain-requires-clause-second : goal.explain-requires-clause-second
explain-requires-clause-second c =
    let k = kids_low c.args.least.now c.args.roots.now.second c.args.roots.now.right c.len-base.ensures.graph c.requires.second in
    let low = k.token in
    let e = c.len-base.ensures.len in
    omega (arith, e, low)

-- ---- the block

pub open_block-requires-clause-waits : goal.open_block-requires-clause-waits
open_block-requires-clause-waits c =
    let g = c.args.least.now in
    let r = c.args.roots.now in
    let ends = c.args.both.now.ends.now in
    waits_kept g c.explain.new.writer.graph r.first ends c.len-base.ensures.graph (grows_later g c.in_ok-writer.writer c.explain.new.writer c.in_ok-writer.ensures.graph c.in_ok-token.ensures.goes.later) (waits_endings g r.first r.left ends c.requires.first c.requires.ends)

-- ---- the other kids

pub explain_others-requires-clause-begins : goal.explain_others-requires-clause-begins
explain_others-requires-clause-begins c =
    let w = c.in_ok-writer.writer in
    let g = c.args.both.now.ending.graph.now in
    base_later w c.open_block.new.writer g (later_trans w c.explain.new.writer c.open_block.new.writer c.in_ok-token.ensures.goes.later c.in_ok-open_block.ensures.later)
    (has_base w c.args.least.now g c.in_ok-writer.ensures.least c.requires.ending_grown (subst (λ (h : Graph). IsSame h w.graph) (sym c.in_ok-writer.ensures.least) c.in_ok-writer.ensures.graph))

pub explain_others-requires-clause-outside : goal.explain_others-requires-clause-outside
explain_others-requires-clause-outside c =
    let p = c.args.roots.now.first in
    let ends = c.args.both.now.ends.now in
    block_outside c.open_block.new.writer c.args.both.now.ending.graph.now p ends c.in_ok-open_block.ensures.block (λ n m. subst (λ (k : ℕ). n < k) (sym c.requires.ending_grown.base) (endings_low c.args.least.now p ends c.requires.ends n m))

pub explain_others-requires-clause-linked : goal.explain_others-requires-clause-linked
explain_others-requires-clause-linked c =
    let r = c.args.roots.now in
    let k = kids_low c.args.least.now r.first r.left c.len-base.ensures.graph c.requires.first in
    let l = kids_low c.args.least.now r.second r.right c.len-base.ensures.graph c.requires.second in
    let low = λ (n : ℕ) (h : n < length c.args.least.now.nodes). subst (λ (m : ℕ). n < m) (sym c.requires.ending_grown.base) h in (
      record { first = low r.left.fault k.fault_; second = low r.right.fault l.fault_; linked = c.requires.faults },
      (
        record { first = low r.left.result k.result; second = low r.right.result l.result; linked = c.requires.results },
        (record { first = low r.left.heap k.heap; second = low r.right.heap l.heap; linked = c.requires.heaps }, tt),
      ),
    )

-- ---- the roots

pub end_block-requires-clause-first : goal.end_block-requires-clause-first
end_block-requires-clause-first c =
    let w = c.in_ok-writer.writer in
    let r = c.args.roots.now in
    let later = later_trans w c.open_block.new.writer c.explain_others.new.writer (later_trans w c.explain.new.writer c.open_block.new.writer c.in_ok-token.ensures.goes.later c.in_ok-open_block.ensures.later) c.in_ok-others.ensures.goes.later in
    root_kept c.args.least.now c.explain_others.new.writer.graph r.first r.left (grows_later c.args.least.now w c.explain_others.new.writer c.in_ok-writer.ensures.graph later) c.requires.first

pub end_block-requires-clause-second : goal.end_block-requires-clause-second
end_block-requires-clause-second c =
    let w = c.in_ok-writer.writer in
    let r = c.args.roots.now in
    let later = later_trans w c.open_block.new.writer c.explain_others.new.writer (later_trans w c.explain.new.writer c.open_block.new.writer c.in_ok-token.ensures.goes.later c.in_ok-open_block.ensures.later) c.in_ok-others.ensures.goes.later in
    root_kept c.args.least.now c.explain_others.new.writer.graph r.second r.right (grows_later c.args.least.now w c.explain_others.new.writer c.in_ok-writer.ensures.graph later) c.requires.second

pub end_block-requires-clause-token : goal.end_block-requires-clause-token
end_block-requires-clause-token c =
    let r = c.args.roots.now in
    outer_gives c.explain.new.writer c.explain_others.new.writer c.in_ok-token.token r.left.token r.right.token (c.in_ok-token.ensures.goes.blocks ∙ no_blocks c.in_ok-writer.writer c.in_ok-writer.ensures.before)
    (later_trans c.explain.new.writer c.open_block.new.writer c.explain_others.new.writer c.in_ok-open_block.ensures.later c.in_ok-others.ensures.goes.later) c.in_ok-token.ensures.reason

pub returns : goal.returns
returns c =
    section_derives c.end_block.new.writer c.args.least.now c.args.roots.now.first c.args.roots.now.second c.into_steps.result
    (c.in_ok-end_block.ensures.least ∙ c.in_ok-others.ensures.goes.later.least ∙ c.in_ok-open_block.ensures.later.least ∙ c.in_ok-token.ensures.goes.later.least ∙ c.in_ok-writer.ensures.least) c.into_steps.ensures.right c.into_steps.ensures.steps
    c.in_ok-end_block.ensures.outside c.in_ok-end_block.ensures.last
