use Rattle.std.proofs.Common.{ℕ, List, sym, subst}
use Rattle.pv_instances.proofs.Cited.{if_ok_more}
use Rattle.pv_witness.specs.Numbered.{numbered}
use Rattle.pv_witness.specs.Supports.{AreAllSupports}
use Rattle.pv_witness.specs.Table.{AreWitnessed}
use Rattle.pv_witness.specs.Witnesses.{AreWitnesses}
use Rattle.pv_witness.proofs.Witnessing.{all_witnesses}
use Rattle.pv_witness.proofs.making.witnesses.Goals as goal

pub returns : goal.returns
returns c =
    let g = numbered c.args.graph.now c.args.numbers.now in
    if_ok_more c.fill_table.result (λ table. AreWitnessed g c.args.graph.now c.fill_table.new.graph c.args.numbers.now c.args.condition c.args.starts.now c.deref.result.now table.items)
    (λ table. AreWitnesses g c.args.graph.now c.fill_table.new.graph c.args.numbers.now c.args.condition c.args.starts.now table.items)
    (λ table made. all_witnesses c.args.graph.now c.fill_table.new.graph c.args.numbers.now c.args.condition c.args.starts.now c.deref.result.now table.items c.requires.numbered (subst (λ (xs : List ℕ). AreAllSupports g c.args.numbers.now c.args.condition c.args.starts.now xs) (sym c.deref.ensures.value) c.in_ok-list.ensures) made)
    c.fill_table.ensures
