use Rattle.std.proofs.Common.{◌≡◌, map, length}
use Rattle.pv_witness.specs.Numbered.{numbered}
use Rattle.pv_saturate.specs.Decoding.{decoded_seen}
use Rattle.pv_rounds.specs.Tables.{MakesRows}
use Rattle.pv_rounds.proofs.tables.not_free_tables.Given as goal

abbrev pub invariant-loop-d : goal.invariant-loop-d
invariant-loop-d l = record {
  rows : MakesRows (numbered l.initial.graph l.numbers) l.initial.graph l.graph l.numbers l.assumed (map decoded_seen l.list) l.tables.items;
  count : length l.tables.items ≡ l.d;
}
