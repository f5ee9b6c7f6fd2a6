use Rattle.std.proofs.Common.{ℕ, List, ◌++◌, refl, sym, ap, ◌∙◌, subst}
use Rattle.pv_graph.specs.Graphs.{form_at}
use Rattle.pv_heights.specs.Sides.{Match}
use Rattle.pv_instances.proofs.Cited.{extends_both}
use Rattle.pv_witness.specs.Numbered.{numbered}
use Rattle.pv_witness.proofs.Cited.{numbered_long, numbered_extends}
use Rattle.pv_saturate.specs.Choice.{CanChoose}
use Rattle.pv_saturate.specs.Added.{AddedMatch}
use Rattle.pv_saturate.specs.Decoding.{decoded_seen}
use Rattle.pv_saturate.proofs.Cited.{can_choose}
use Rattle.pv_rounds.proofs.OneMore.{have_witnesses, one_added}
use Rattle.pv_rounds.proofs.owed.add_one.Goals as goal

pub add_match-requires-clause-can : goal.add_match-requires-clause-can
add_match-requires-clause-can c =
    let g = c.args.graph.now in
    let numbers = c.args.numbers.now in
    let h = numbered g numbers in
    let m = decoded_seen c.args.m.now in
    let (assumed, ms, can) = c.requires.can in
    subst (λ (n : Match ℕ). CanChoose h g numbers n c.at.result) (sym c.instance_of.ensures)
    (can_choose (form_at can.matches.least.nodes) assumed h numbers m (can.matches.each m can.is) g c.at.result (numbered_long g numbers c.requires.numbered) (have_witnesses c.args.witnesses.now m c.at.result c.at.ensures.settled c.at.ensures.not_free h g numbers assumed ms can))

pub returns : goal.returns
returns c assumed ms can =
    let g = c.args.graph.now in
    let new = c.add_match.new.graph in
    let numbers = c.args.numbers.now in
    let h = numbered g numbers in
    let m = decoded_seen c.args.m.now in
    let nodes = c.in_ok-nodes.nodes in
    let added : AddedMatch h g new numbers m c.at.result nodes.vars.items nodes.left nodes.right = subst (λ (n : Match ℕ). AddedMatch h g new numbers n c.at.result nodes.vars.items nodes.left nodes.right) c.instance_of.ensures c.in_ok-nodes.ensures in
    one_added c.args.witnesses.now m c.at.result c.at.ensures.settled c.at.ensures.not_free h g new numbers assumed ms can c.len-count.ensures.graph nodes.vars.items nodes.left nodes.right added (extends_both h g new (numbered_extends g numbers) added.grows.extends_)
    (record { «axiom» = c.args.m.now.entry.now.number; subst = c.in_ok-subst.subst; left = nodes.left; right = nodes.right }) refl
    (c.in_ok-subst.ensures ∙ ap (λ (vs : List ℕ). c.args.m.now.kids.now ++ vs) c.deref-2.ensures.value) refl refl
