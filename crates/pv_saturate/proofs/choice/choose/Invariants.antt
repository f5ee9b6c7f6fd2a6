use Rattle.std.proofs.Common.{take}
use Rattle.pv_graph.specs.Calls.{IsSame}
use Rattle.pv_instances.specs.Seen.{instance_seen}
use Rattle.pv_witness.specs.Numbered.{numbered}
use Rattle.pv_saturate.specs.Choice.{AreChosenFor}
use Rattle.pv_saturate.proofs.choice.choose.Given as goal

abbrev pub invariant-loop-j : goal.invariant-loop-j
invariant-loop-j l = record {
  same : IsSame l.initial.graph l.graph;
  chosen : AreChosenFor (numbered l.initial.graph l.numbers) l.initial.graph l.numbers (instance_seen l.matched) l.witnesses (take l.j l.matched.vars.now) l.chosen.items;
}
