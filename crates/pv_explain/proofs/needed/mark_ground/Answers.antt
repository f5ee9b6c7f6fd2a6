use Rattle.std.proofs.Common.{get_or}
use Rattle.std.proofs.lemmas.Option.{slice_get-get_or}
use Rattle.pv_explain.proofs.Marked.{kids_linked_before, low_at, rested_more, rests_axiom, rests_kids, rests_pair}
use Rattle.pv_explain.proofs.NodeMarks.{cites_low}
use Rattle.pv_explain.proofs.needed.mark_ground.Goals as goal

pub node-requires : goal.node-requires
node-requires c =
    let js = c.args.search.now.joins.now in
    let d = c.index-search-i.result in
    (low_at c.args.search.now c.requires.grounds.0 c.args.i (get_or js c.args.i d) c.requires.grounds.1 (slice_get-get_or js c.args.i d c.requires.join)).0

pub node-requires-in-Kids : goal.node-requires-in-Kids
node-requires-in-Kids c =
    let js = c.args.search.now.joins.now in
    let d = c.index-search-i.result in
    (low_at c.args.search.now c.requires.grounds.0 c.args.i (get_or js c.args.i d) c.requires.grounds.1 (slice_get-get_or js c.args.i d c.requires.join)).1

pub mark_kids-requires-clause-linked : goal.mark_kids-requires-clause-linked
mark_kids-requires-clause-linked c =
    let js = c.args.search.now.joins.now in
    let d = c.index-search-i.result in
    kids_linked_before c.args.search.now c.args.forest.now c.requires.grounds.0 c.args.i (get_or js c.args.i d) c.node.result.now c.node-in-Kids.result.now c.as_slice-lefts.result.now c.as_slice-rights.result.now c.requires.made c.requires.grounds.1 c.requires.forest
    (slice_get-get_or js c.args.i d c.requires.join) c.in-Kids.is c.node.ensures c.node-in-Kids.ensures c.as_slice-lefts.ensures c.as_slice-rights.ensures

pub returns-in_ok-mark_kids-in-Kids-clause-rests : goal.returns-in_ok-mark_kids-in-Kids-clause-rests
returns-in_ok-mark_kids-in-Kids-clause-rests c =
    let js = c.args.search.now.joins.now in
    let d = c.index-search-i.result in
    λ on. rests_kids c.args.search.now c.args.forest.now c.mark_kids.new.needed.items c.args.i (get_or js c.args.i d) c.node.result.now c.node-in-Kids.result.now c.as_slice-lefts.result.now c.as_slice-rights.result.now c.requires.forest
    (slice_get-get_or js c.args.i d c.requires.join) c.in-Kids.is c.node.ensures c.node-in-Kids.ensures c.as_slice-lefts.ensures c.as_slice-rights.ensures c.in_ok-mark_kids-in-Kids.ensures.linked

pub mark_block-requires-clause-cite : goal.mark_block-requires-clause-cite
mark_block-requires-clause-cite c =
    let js = c.args.search.now.joins.now in
    let d = c.index-search-i.result in
    record { j = get_or js c.args.i d; there = slice_get-get_or js c.args.i d c.requires.join; why = c.in-Induction.is }

pub mark_block-requires-clause-block : goal.mark_block-requires-clause-block
mark_block-requires-clause-block c =
    let js = c.args.search.now.joins.now in
    let d = c.index-search-i.result in
    cites_low c.args.search.now c.requires.grounds.0 c.args.i (get_or js c.args.i d) c.requires.grounds.1 (slice_get-get_or js c.args.i d c.requires.join) c.in-Induction.n c.in-Induction.is

pub returns-in_ok-mark_block-in-Induction-clause-rests : goal.returns-in_ok-mark_block-in-Induction-clause-rests
returns-in_ok-mark_block-in-Induction-clause-rests c =
    let js = c.args.search.now.joins.now in
    let d = c.index-search-i.result in
    λ on. c.in_ok-mark_block-in-Induction.ensures.rested c.in-Induction.n c.args.i c.in_ok-mark_block-in-Induction.ensures.block (record { j = get_or js c.args.i d; there = slice_get-get_or js c.args.i d c.requires.join; why = c.in-Induction.is })

pub returns-in_ok-mark_kids-in-Kids-clause-rested : goal.returns-in_ok-mark_kids-in-Kids-clause-rested
returns-in_ok-mark_kids-in-Kids-clause-rested c =
    rested_more c.args.search.now c.args.needed.now.items c.mark_kids.new.needed.items c.args.rested.now.items c.args.i c.in_ok-mark_kids-in-Kids.ensures.more c.requires.rested

pub returns-in-Axiom-clause-rests : goal.returns-in-Axiom-clause-rests
returns-in-Axiom-clause-rests c =
    let js = c.args.search.now.joins.now in
    let d = c.index-search-i.result in
    λ on. rests_axiom c.args.search.now c.args.needed.now.items c.args.i c.in-Axiom.field-0 c.in-Axiom.field-1 (get_or js c.args.i d) (slice_get-get_or js c.args.i d c.requires.join) c.in-Axiom.is

pub returns-in-Pair-clause-rests : goal.returns-in-Pair-clause-rests
returns-in-Pair-clause-rests c =
    let js = c.args.search.now.joins.now in
    let d = c.index-search-i.result in
    λ on. rests_pair c.args.search.now c.args.needed.now.items c.args.i c.in-Pair.field-0 (get_or js c.args.i d) (slice_get-get_or js c.args.i d c.requires.join) c.in-Pair.is
