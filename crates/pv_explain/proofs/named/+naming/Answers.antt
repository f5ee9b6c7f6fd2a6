use Rattle.std.specs.List.{AllByRecursion}
use Rattle.std.proofs.Common.{arith, subst, take_all}
use Rattle.pv_explain.specs.Named.{IsMarkedNode, OfBlock, OfBlocks, OfJoin, OfPair}
use Rattle.pv_explain.proofs.Linking.{at_index}
use Rattle.pv_explain.proofs.Placing.{size_in, size_inside}
use Rattle.pv_explain.proofs.Naming.{block_named, blocks_named}
use Rattle.pv_explain.proofs.NodeMarks.{all_next, block_keeps, joins_keep, keeps_refl, keeps_trans, pairs_keep}
use Rattle.pv_explain.proofs.named.+naming.Goals as goal

-- ---- a block

pub mark_block-mark_blocks-requires : goal.mark_block-mark_blocks-requires
mark_block-mark_blocks-requires t c = omega (arith, c.decreases, size_inside c.args.block.now c.blocks-2.result.now c.blocks-2.ensures)

pub mark_block-returns-clause-keeps : goal.mark_block-returns-clause-keeps
mark_block-returns-clause-keeps t c =
    let first = c.mark_pairs.new.marks.items in
    let second = c.mark_joins.new.marks.items in
    keeps_trans c.args.marks.now.items second c.mark_blocks.new.marks.items (keeps_trans c.args.marks.now.items first second c.mark_pairs.ensures.keeps c.mark_joins.ensures.keeps) c.mark_blocks.ensures.keeps

pub mark_block-returns-clause-marked : goal.mark_block-returns-clause-marked
mark_block-returns-clause-marked t c =
    let first = c.mark_pairs.new.marks.items in
    let second = c.mark_joins.new.marks.items in
    let last = c.mark_blocks.new.marks.items in
    block_named (IsMarkedNode last) c.args.block.now
    (subst (AllByRecursion (OfPair (IsMarkedNode last))) c.pairs.ensures (pairs_keep first last (keeps_trans first second last c.mark_joins.ensures.keeps c.mark_blocks.ensures.keeps) c.pairs.result.now c.mark_pairs.ensures.marked))
    (subst (AllByRecursion (OfJoin (IsMarkedNode last))) c.joins.ensures (joins_keep second last c.mark_blocks.ensures.keeps c.joins.result.now c.mark_joins.ensures.marked))
    (subst (OfBlocks (IsMarkedNode last)) c.blocks-2.ensures c.mark_blocks.ensures.marked)

-- ---- blocks

pub mark_blocks-loop-block-init : goal.mark_blocks-loop-block-init
mark_blocks-loop-block-init t c = record { keeps = keeps_refl c.args.marks.now.items; marked = tt }

pub mark_blocks-mark_block-requires : goal.mark_blocks-mark_block-requires
mark_blocks-mark_block-requires t c =
    let b = c.block-item.result in
    omega (arith, c.decreases, size_in c.args.blocks.now c.loop-block.block-index b (at_index c.args.blocks.now c.loop-block.block-index b c.loop-block-test.true c.block-item.is))

pub mark_blocks-loop-block-preserved : goal.mark_blocks-loop-block-preserved
mark_blocks-loop-block-preserved t c =
    let old = c.loop-block.marks.items in
    let new = c.mark_block.new.marks.items in
    let b = c.block-item.result in
    record {
      keeps = keeps_trans c.args.marks.now.items old new c.loop-block.invariant.keeps c.mark_block.ensures.keeps;
      marked =
          all_next (OfBlock (IsMarkedNode old)) (OfBlock (IsMarkedNode new)) c.args.blocks.now c.loop-block.block-index b b (block_keeps old new c.mark_block.ensures.keeps) c.loop-block-test.true c.block-item.is c.loop-block.invariant.marked
          c.mark_block.ensures.marked;
    }

pub mark_blocks-returns-clause-marked : goal.mark_blocks-returns-clause-marked
mark_blocks-returns-clause-marked t c =
    let marks = c.loop-block.marks.items in
    blocks_named (IsMarkedNode marks) c.args.blocks.now (subst (AllByRecursion (OfBlock (IsMarkedNode marks))) (take_all c.loop-block.block-index c.args.blocks.now c.loop-block-test.false) c.loop-block.invariant.marked)

pub mark_blocks-returns-clause-keeps : goal.mark_blocks-returns-clause-keeps
mark_blocks-returns-clause-keeps t c = c.loop-block.invariant.keeps
