use Rattle.std.proofs.Common.{◌≡◌, ℕ, ◌+◌, List, ◌++◌, ◌∷◌, [], map, take, get_or, sym, ap, ◌∙◌, subst}
use Rattle.std.proofs.lemmas.List.{take_more, map-append}
use Rattle.pv_graph.specs.Graphs.{Graph}
use Rattle.pv_graph.proofs.Cited.{in_at}
use Rattle.pv_heights.specs.Sides.{Match}
use Rattle.pv_heights.specs.Searches.{OneClass}
use Rattle.pv_instances.specs.Classes.{JoinedHaveOneSort}
use Rattle.pv_witness.specs.Numbered.{numbered}
use Rattle.pv_witness.proofs.Cited.{longer, numbered_stays, numbered_still}
use Rattle.pv_saturate.specs.declared.decoding.Decoded.{Decoded}
use Rattle.pv_saturate.specs.Decoding.{decoded_seen}
use Rattle.pv_saturate.proofs.Lists.{seen_at}
use Rattle.pv_rounds.specs.declared.owed.Owed.{Owed}
use Rattle.pv_rounds.specs.Decoded.{IsReady}
use Rattle.pv_rounds.specs.Owed.{CanAdd, AddsOne, AddsAll}
use Rattle.pv_rounds.proofs.Witnessing.{tables_kept}
use Rattle.pv_rounds.proofs.Adding.{adds_more}
use Rattle.pv_rounds.proofs.owed.add_each.Goals as goal

pub add_one-requires-clause-numbered : goal.add_one-requires-clause-numbered
add_one-requires-clause-numbered c =
    let grows = c.loop-m.invariant.adds.grows in
    numbered_still c.args.graph.now c.loop-m.graph c.args.numbers.now c.requires.numbered (longer c.args.graph.now c.loop-m.graph grows.extends_) grows.base

pub add_one-requires-clause-sorts : goal.add_one-requires-clause-sorts
add_one-requires-clause-sorts c =
    let grows = c.loop-m.invariant.adds.grows in
    subst (λ (h : Graph). JoinedHaveOneSort h (OneClass c.args.numbers.now)) (sym (numbered_stays c.args.graph.now c.loop-m.graph c.args.numbers.now c.len-count.ensures.graph c.requires.numbered grows.extends_ grows.base grows.sealed)) c.requires.sorts

pub add_one-requires-clause-ready : goal.add_one-requires-clause-ready
add_one-requires-clause-ready c = subst IsReady (sym c.m-item.is) (c.requires.ready _ (in_at c.args.list.now c.loop-m.m-index c.m-item.result c.loop-m-test.true))

pub add_one-requires-clause-can : goal.add_one-requires-clause-can
add_one-requires-clause-can c =
    let g = c.args.graph.now in
    let numbers = c.args.numbers.now in
    let ms = map decoded_seen c.args.list.now in
    let grows = c.loop-m.invariant.adds.grows in
    let same = numbered_stays g c.loop-m.graph numbers c.len-count.ensures.graph c.requires.numbered grows.extends_ grows.base grows.sealed in (
      c.args.assumed.now,
      ms,
      subst (λ (h : Graph). CanAdd h c.loop-m.graph numbers c.args.assumed.now ms (decoded_seen c.m-item.result) c.args.witnesses.now) (sym same) (record {
        distinct = c.loop-m.invariant.adds.distinct c.requires.distinct;
        matches = c.requires.matches;
        is = seen_at decoded_seen c.args.list.now c.loop-m.m-index c.m-item.result (decoded_seen c.m-item.result) c.loop-m-test.true (ap decoded_seen (sym c.m-item.is));
        tables = c.loop-m.invariant.tables;
      }),
    )

pub loop-m-preserved : goal.loop-m-preserved
loop-m-preserved c =
    let g = c.args.graph.now in
    let mid = c.loop-m.graph in
    let new = c.add_one.new.graph in
    let numbers = c.args.numbers.now in
    let assumed = c.args.assumed.now in
    let list = c.args.list.now in
    let i = c.loop-m.m-index in
    let x : Decoded = c.m-item.result in
    let o : Owed = c.in_ok-one.one in
    let ms = map decoded_seen list in
    let h = numbered g numbers in
    let grows = c.loop-m.invariant.adds.grows in
    let same = numbered_stays g mid numbers c.len-count.ensures.graph c.requires.numbered grows.extends_ grows.base grows.sealed in
    let can : CanAdd h mid numbers assumed ms (decoded_seen x) c.args.witnesses.now = record {
      distinct = c.loop-m.invariant.adds.distinct c.requires.distinct;
      matches = c.requires.matches;
      is = seen_at decoded_seen list i x (decoded_seen x) c.loop-m-test.true (ap decoded_seen (sym c.m-item.is));
      tables = c.loop-m.invariant.tables;
    } in
    let one : AddsOne h mid new numbers assumed (decoded_seen x) o =
    subst (λ (k : Graph). AddsOne k mid new numbers assumed (decoded_seen x) o) same
    (c.in_ok-one.ensures assumed ms (subst (λ (k : Graph). CanAdd k mid numbers assumed ms (decoded_seen x) c.args.witnesses.now) (sym same) can)) in
    let more : map decoded_seen (take (i + 1) list) ≡ map decoded_seen (take i list) ++ decoded_seen x ∷ [] =
    ap (map decoded_seen) (take_more list i x c.loop-m-test.true) ∙ map-append decoded_seen (take i list) (get_or list i x ∷ []) ∙ ap (λ (d : Decoded). map decoded_seen (take i list) ++ decoded_seen d ∷ []) (sym c.m-item.is) in
    record {
      adds = subst (λ (os : List Owed). AddsAll h g new numbers assumed (map decoded_seen (take (i + 1) list)) os) (sym c.in_ok-push.ensures.items)
          (subst (λ (ds : List (Match ℕ)). AddsAll h g new numbers assumed ds (c.loop-m.owed.items ++ o ∷ [])) (sym more)
          (adds_more h g mid new numbers assumed (map decoded_seen (take i list)) c.loop-m.owed.items (decoded_seen x) o c.len-here.ensures.graph c.loop-m.invariant.adds one));
      tables = tables_kept h mid new numbers assumed ms c.args.witnesses.now one.grows.extends_ c.len-here.ensures.graph c.loop-m.invariant.tables;
    }
