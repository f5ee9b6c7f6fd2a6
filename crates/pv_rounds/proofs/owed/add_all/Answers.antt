use Rattle.std.proofs.Common.{map, sym, subst}
use Rattle.pv_graph.specs.Graphs.{Graph}
use Rattle.pv_heights.specs.Searches.{OneClass}
use Rattle.pv_instances.specs.Classes.{JoinedHaveOneSort}
use Rattle.pv_witness.specs.Numbered.{numbered}
use Rattle.pv_witness.proofs.Cited.{longer, numbered_stays, numbered_still}
use Rattle.pv_saturate.specs.Decoding.{decoded_seen}
use Rattle.pv_rounds.specs.Tables.{AreTables}
use Rattle.pv_rounds.specs.Owed.{AreMatches, AddsAll}
use Rattle.pv_rounds.proofs.Adding.{adds_after}
use Rattle.pv_rounds.proofs.owed.add_all.Goals as goal

pub add_each-requires-clause-numbered : goal.add_each-requires-clause-numbered
add_each-requires-clause-numbered c =
    let grows = c.in_ok-witnesses.ensures.grows in
    numbered_still c.args.graph.now c.all_witnesses.new.graph c.args.numbers.now c.requires.numbered (longer c.args.graph.now c.all_witnesses.new.graph grows.extends_) grows.base

pub add_each-requires-clause-sorts : goal.add_each-requires-clause-sorts
add_each-requires-clause-sorts c =
    let grows = c.in_ok-witnesses.ensures.grows in
    subst (λ (h : Graph). JoinedHaveOneSort h (OneClass c.args.numbers.now)) (sym (numbered_stays c.args.graph.now c.all_witnesses.new.graph c.args.numbers.now c.len-count.ensures.graph c.requires.numbered grows.extends_ grows.base grows.sealed)) c.requires.sorts

pub add_each-requires-clause-matches : goal.add_each-requires-clause-matches
add_each-requires-clause-matches c =
    let grows = c.in_ok-witnesses.ensures.grows in
    subst (λ (h : Graph). AreMatches h c.args.numbers.now c.args.assumed.now (map decoded_seen c.args.list.now)) (sym (numbered_stays c.args.graph.now c.all_witnesses.new.graph c.args.numbers.now c.len-count.ensures.graph c.requires.numbered grows.extends_ grows.base grows.sealed)) c.requires.matches

pub add_each-requires-clause-tables : goal.add_each-requires-clause-tables
add_each-requires-clause-tables c =
    let grows = c.in_ok-witnesses.ensures.grows in
    subst (λ (h : Graph). AreTables h c.all_witnesses.new.graph c.args.numbers.now c.args.assumed.now (map decoded_seen c.args.list.now) c.in_ok-witnesses.witnesses)
    (sym (numbered_stays c.args.graph.now c.all_witnesses.new.graph c.args.numbers.now c.len-count.ensures.graph c.requires.numbered grows.extends_ grows.base grows.sealed)) c.in_ok-witnesses.ensures.are

pub returns : goal.returns
returns c =
    let g = c.args.graph.now in
    let mid = c.all_witnesses.new.graph in
    let new = c.add_each.new.graph in
    let numbers = c.args.numbers.now in
    let ms = map decoded_seen c.args.list.now in
    let made = c.in_ok-witnesses.ensures in
    let grows = made.grows in
    adds_after (numbered g numbers) g mid new numbers c.args.assumed.now ms c.in_ok-owed.owed.items grows made.distinct
    (subst (λ (h : Graph). AddsAll h mid new numbers c.args.assumed.now ms c.in_ok-owed.owed.items) (numbered_stays g mid numbers c.len-count.ensures.graph c.requires.numbered grows.extends_ grows.base grows.sealed) c.in_ok-owed.ensures)
