use Rattle.std.proofs.Common.{◌∙◌, ℕ, arith, subst, sym}
use Rattle.std.proofs.lemmas.Option.{slice_get_within}
use Rattle.pv_explain.specs.Named.{CitesBelow}
use Rattle.pv_explain.proofs.Linking.{at_index}
use Rattle.pv_explain.proofs.NodeMarks.{cite_next, cites_low}
use Rattle.pv_explain.proofs.named.cited_blocks.Goals as goal

pub mark_cite-requires : goal.mark_cite-requires
mark_cite-requires c =
    let j = c.join-item.result in
    let s = c.args.search.now in
    subst (λ (n : ℕ). CitesBelow n j.why) (sym c.loop-join.invariant.long) (cites_low s c.requires.0 c.loop-join.join-index j c.requires.1 (at_index s.joins.now c.loop-join.join-index j c.loop-join-test.true c.join-item.is))

pub loop-join-preserved : goal.loop-join-preserved
loop-join-preserved c =
    let j = c.join-item.result in
    let joins = c.args.search.now.joins.now in
    let i = c.loop-join.join-index in
    record {
      long = c.mark_cite.ensures.keeps.long ∙ c.loop-join.invariant.long;
      cited_ = cite_next joins c.loop-join.cited.items c.mark_cite.new.cited.items i j c.mark_cite.ensures.keeps (at_index joins i j c.loop-join-test.true c.join-item.is) c.mark_cite.ensures.marked c.loop-join.invariant.cited_;
    }

pub returns-clause-cited : goal.returns-clause-cited
returns-clause-cited c = λ k j at. c.loop-join.invariant.cited_ k j (let low = slice_get_within c.args.search.now.joins.now k j at in omega (arith, low, c.loop-join-test.false)) at
