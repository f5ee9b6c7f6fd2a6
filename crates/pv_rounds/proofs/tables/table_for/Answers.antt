use Rattle.std.proofs.Common.{ℕ, Bool, List, Option, Vec, Global, subst}
use Rattle.pv_instances.proofs.Cited.{if_ok_more}
use Rattle.pv_witness.specs.Numbered.{numbered}
use Rattle.pv_witness.specs.Witnesses.{AreWitnesses}
use Rattle.pv_rounds.specs.Tables.{MakesTable}
use Rattle.pv_rounds.proofs.Witnessing.{made_table}
use Rattle.pv_rounds.proofs.tables.table_for.Goals as goal

pub returns : goal.returns
returns c =
    let g = c.args.graph.now in
    let new = c.witnesses.new.graph in
    let numbers = c.args.numbers.now in
    let starts : List Bool = c.in_ok-starts.starts.items in
    if_ok_more c.witnesses.result (λ (table : Vec (Option ℕ) Global). AreWitnesses (numbered g numbers) g new numbers c.args.condition c.deref.result.now table.items) (λ (table : Vec (Option ℕ) Global). MakesTable (numbered g numbers) g new numbers c.args.assumed.now c.args.condition c.args.is_asked table.items)
    (λ table w. made_table g new numbers c.args.assumed.now c.args.condition starts table.items c.len-count.ensures.graph c.requires.sealed c.requires.numbered c.in_ok-starts.ensures.starts
    (subst (λ (xs : List Bool). AreWitnesses (numbered g numbers) g new numbers c.args.condition xs table.items) c.deref.ensures.value w) c.args.is_asked)
    c.witnesses.ensures
