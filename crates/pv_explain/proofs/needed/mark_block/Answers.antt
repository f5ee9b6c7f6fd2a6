use Rattle.std.proofs.Common.{arith, get_or, subst}
use Rattle.std.proofs.lemmas.Option.{slice_get-get_or}
use Rattle.pv_explain.specs.Needed.{StillLinked}
use Rattle.pv_explain.proofs.Marked.{marked_set, rested_more, rested_next, rests_induction}
use Rattle.pv_explain.proofs.Marking.{more_wider}
use Rattle.pv_explain.proofs.needed.mark_block.Goals as goal

pub mark_between-requires-clause-few : goal.mark_between-requires-clause-few
mark_between-requires-clause-few c = let z = c.first_cite-first.ensures.first c.args.i c.requires.cite in omega (arith, z, c.requires.few)

pub returns-clause-rested : goal.returns-clause-rested
returns-clause-rested c =
    let s = c.args.search.now in
    let f = c.args.forest.now in
    let new = c.mark_between.new.needed.items in
    let first = c.first_cite-first.result in
    let n = c.args.block in
    let d = c.index-search-block.result in
    rested_next s new c.args.rested.now.items n (rested_more s c.args.needed.now.items new c.args.rested.now.items first c.in_ok-mark_between.ensures.more c.requires.rested)
    (rests_induction s f new c.in_ok-nodes.nodes.items first n (get_or s.blocks.now n d) c.requires.forest c.first_cite-first.ensures (slice_get-get_or s.blocks.now n d c.requires.block) c.in_ok-nodes.ensures.long c.in_ok-nodes.ensures.marked
    (subst (StillLinked f new first) c.deref-2.ensures.value c.in_ok-mark_between.ensures.linked))

pub returns-clause-block : goal.returns-clause-block
returns-clause-block c = marked_set c.args.rested.now.items c.args.block (omega (arith, c.requires.block, c.requires.blocks))

pub returns-clause-more : goal.returns-clause-more
returns-clause-more c =
    let z = c.first_cite-first.ensures.first c.args.i c.requires.cite in
    more_wider c.first_cite-first.result c.args.i c.args.needed.now.items c.mark_between.new.needed.items z c.in_ok-mark_between.ensures.more

pub returns-in_err-mark_between-clause-more : goal.returns-in_err-mark_between-clause-more
returns-in_err-mark_between-clause-more c =
    let z = c.first_cite-first.ensures.first c.args.i c.requires.cite in
    more_wider c.first_cite-first.result c.args.i c.args.needed.now.items c.mark_between.new.needed.items z c.mark_between.ensures.more
