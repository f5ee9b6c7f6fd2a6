use Rattle.std.proofs.Common.{map, sym, subst}
use Rattle.pv_graph.specs.Graphs.{Graph}
use Rattle.pv_heights.specs.Searches.{OneClass}
use Rattle.pv_instances.specs.Classes.{JoinedHaveOneSort}
use Rattle.pv_witness.specs.Numbered.{numbered}
use Rattle.pv_witness.proofs.Cited.{longer, numbered_stays, numbered_still}
use Rattle.pv_saturate.specs.Decoding.{decoded_seen}
use Rattle.pv_rounds.specs.Tables.{MakesNotFree}
use Rattle.pv_rounds.proofs.Witnessing.{makes_tables}
use Rattle.pv_rounds.proofs.tables.all_witnesses.Goals as goal

pub not_free_tables-requires-clause-numbered : goal.not_free_tables-requires-clause-numbered
not_free_tables-requires-clause-numbered c =
    let grows = c.in_ok-settled.ensures.grows in
    numbered_still c.args.graph.now c.table_for.new.graph c.args.numbers.now c.requires.numbered (longer c.args.graph.now c.table_for.new.graph grows.extends_) grows.base

pub not_free_tables-requires-clause-sorts : goal.not_free_tables-requires-clause-sorts
not_free_tables-requires-clause-sorts c =
    let grows = c.in_ok-settled.ensures.grows in
    subst (λ (h : Graph). JoinedHaveOneSort h (OneClass c.args.numbers.now)) (sym (numbered_stays c.args.graph.now c.table_for.new.graph c.args.numbers.now c.len-count.ensures.graph c.requires.numbered grows.extends_ grows.base grows.sealed)) c.requires.sorts

pub returns : goal.returns
returns c =
    let g = c.args.graph.now in
    let mid = c.table_for.new.graph in
    let new = c.not_free_tables.new.graph in
    let numbers = c.args.numbers.now in
    let ms = map decoded_seen c.args.list.now in
    let h = numbered g numbers in
    let grows = c.in_ok-settled.ensures.grows in
    let rest : MakesNotFree h mid new numbers c.args.assumed.now ms c.in_ok-not_free.not_free.items =
    subst (λ (k : Graph). MakesNotFree k mid new numbers c.args.assumed.now ms c.in_ok-not_free.not_free.items) (numbered_stays g mid numbers c.len-count.ensures.graph c.requires.numbered grows.extends_ grows.base grows.sealed) c.in_ok-not_free.ensures in
    makes_tables h g mid new numbers c.args.assumed.now ms (record { settled = c.in_ok-settled.settled; not_free = c.in_ok-not_free.not_free }) c.some_settled-is_asked.result c.len-here.ensures.graph c.some_settled-is_asked.ensures.1 c.in_ok-settled.ensures rest
