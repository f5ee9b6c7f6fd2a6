use Rattle.std.proofs.Common.{◌≡◌, ℕ, ◌+◌, List, ◌∷◌, [], Option, Vec, Global, length, map, sym, subst, arith, length-append}
use Rattle.pv_graph.specs.Graphs.{Graph}
use Rattle.pv_heights.specs.Searches.{OneClass}
use Rattle.pv_instances.specs.Classes.{JoinedHaveOneSort}
use Rattle.pv_witness.specs.Numbered.{numbered}
use Rattle.pv_witness.specs.declared.condition.Condition.TheVariants as condition
use Rattle.pv_witness.proofs.Cited.{longer, numbered_stays, numbered_still}
use Rattle.pv_saturate.specs.Decoding.{decoded_seen}
use Rattle.pv_rounds.specs.Asking.{SomeNotFree}
use Rattle.pv_rounds.specs.Tables.{MakesTable, MakesRows}
use Rattle.pv_rounds.proofs.Witnessing.{rows_more}
use Rattle.pv_rounds.proofs.tables.not_free_tables.Goals as goal

pub table_for-requires-clause-numbered : goal.table_for-requires-clause-numbered
table_for-requires-clause-numbered c =
    let grows = c.loop-d.invariant.rows.grows in
    numbered_still c.args.graph.now c.loop-d.graph c.args.numbers.now c.requires.numbered (longer c.args.graph.now c.loop-d.graph grows.extends_) grows.base

pub table_for-requires-clause-sorts : goal.table_for-requires-clause-sorts
table_for-requires-clause-sorts c =
    let grows = c.loop-d.invariant.rows.grows in
    subst (λ (h : Graph). JoinedHaveOneSort h (OneClass c.args.numbers.now)) (sym (numbered_stays c.args.graph.now c.loop-d.graph c.args.numbers.now c.len-count.ensures.graph c.requires.numbered grows.extends_ grows.base grows.sealed)) c.requires.sorts

pub loop-d-preserved : goal.loop-d-preserved
loop-d-preserved c =
    let g = c.args.graph.now in
    let mid = c.loop-d.graph in
    let new = c.table_for.new.graph in
    let numbers = c.args.numbers.now in
    let ms = map decoded_seen c.args.list.now in
    let h = numbered g numbers in
    let tables : List (Vec (Option ℕ) Global) = c.loop-d.tables.items in
    let v : Vec (Option ℕ) Global = c.in_ok-table_for.field-0 in
    let asked = c.some_not_free-is_asked.result in
    let grows = c.loop-d.invariant.rows.grows in
    let made : MakesTable h mid new numbers c.args.assumed.now (condition.NotFree (length tables)) asked v.items =
    subst (λ (d : ℕ). MakesTable h mid new numbers c.args.assumed.now (condition.NotFree d) asked v.items) (sym c.loop-d.invariant.count)
    (subst (λ (k : Graph). MakesTable k mid new numbers c.args.assumed.now (condition.NotFree c.loop-d.d) asked v.items) (numbered_stays g mid numbers c.len-count.ensures.graph c.requires.numbered grows.extends_ grows.base grows.sealed) c.in_ok-table_for.ensures) in
    record {
      rows = subst (λ (ts : List (Vec (Option ℕ) Global)). MakesRows h g new numbers c.args.assumed.now ms ts) (sym c.in_ok-push.ensures.items)
          (rows_more h g mid new numbers c.args.assumed.now ms tables v asked c.len-here.ensures.graph c.loop-d.invariant.rows (λ s. c.some_not_free-is_asked.ensures.1 (subst (SomeNotFree ms) c.loop-d.invariant.count s)) made);
      count = (let z = c.in_ok-push.ensures.items in let y = length-append tables (v ∷ []) in let x = c.loop-d.invariant.count in subst (λ (ts : List (Vec (Option ℕ) Global)). length ts ≡ c.loop-d.d + 1) (sym z) (omega (arith, y, x)));
    }

pub returns : goal.returns
returns c = record { rows = c.loop-d.invariant.rows; enough = λ d s. (let z = c.deepest.ensures d s in let y = c.loop-d-test.false in let x = c.loop-d.invariant.count in omega (arith, z, y, x)) }
