use Rattle.std.proofs.Common.{map, take}
use Rattle.pv_witness.specs.Numbered.{numbered}
use Rattle.pv_saturate.specs.Decoding.{decoded_seen}
use Rattle.pv_rounds.specs.Tables.{AreTables}
use Rattle.pv_rounds.specs.Owed.{AddsAll}
use Rattle.pv_rounds.proofs.owed.add_each.Given as goal

abbrev pub invariant-loop-m : goal.invariant-loop-m
invariant-loop-m l = record {
  adds : AddsAll (numbered l.initial.graph l.numbers) l.initial.graph l.graph l.numbers l.fn.assumed (map decoded_seen (take l.m-index l.list)) l.owed.items;
  tables : AreTables (numbered l.initial.graph l.numbers) l.graph l.numbers l.fn.assumed (map decoded_seen l.list) l.witnesses;
}
