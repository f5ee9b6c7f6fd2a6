use Rattle.std.proofs.Common.{arith}
use Rattle.std.proofs.lemmas.Option.{slice_get_within}
use Rattle.pv_explain.proofs.Linking.{at_index}
use Rattle.pv_explain.proofs.NodeMarks.{cited_next, keeps_trans}
use Rattle.pv_explain.proofs.named.mark_cited.Goals as goal

pub loop-i-preserved : goal.loop-i-preserved
loop-i-preserved c =
    let old = c.loop-i.marks.items in
    let new = c.mark_if_cited.new.marks.items in
    let b = c.index-blocks-i.result in
    record {
      keeps = keeps_trans c.args.marks.now.items old new c.loop-i.invariant.keeps c.mark_if_cited.ensures.keeps;
      marked =
          cited_next c.args.cited.now old new c.args.blocks.now c.loop-i.i b c.is_marked.result c.mark_if_cited.ensures.keeps (at_index c.args.blocks.now c.loop-i.i b c.loop-i-test.true c.index-blocks-i.is) c.is_marked.ensures
          c.mark_if_cited.ensures.marked c.loop-i.invariant.marked;
    }

pub returns-clause-marked : goal.returns-clause-marked
returns-clause-marked c = λ n b on at. c.loop-i.invariant.marked n b (let low = slice_get_within c.args.blocks.now n b at in omega (arith, low, c.loop-i-test.false)) on at
