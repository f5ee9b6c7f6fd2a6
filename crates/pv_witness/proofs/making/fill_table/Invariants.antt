use Rattle.std.proofs.Common.{take}
use Rattle.pv_graph.specs.Graphs.{IsGraph}
use Rattle.pv_witness.specs.Numbered.{numbered}
use Rattle.pv_witness.specs.Table.{AreWitnessed}
use Rattle.pv_witness.proofs.making.fill_table.Given as goal

abbrev pub invariant-loop-n : goal.invariant-loop-n
invariant-loop-n l = record {
  made : AreWitnessed (numbered l.initial.graph l.numbers) l.initial.graph l.graph l.numbers l.fn.condition l.starts (take l.n-index l.list) l.table.items;
  graph_ : IsGraph l.graph;
}
