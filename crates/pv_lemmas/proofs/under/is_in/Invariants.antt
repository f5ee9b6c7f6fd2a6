use Rattle.std.proofs.Common.{◌↔◌, drop}
use Rattle.pv_graph.specs.Walks.{In}
use Rattle.pv_lemmas.proofs.under.is_in.Given as goal

abbrev pub invariant-loop-m : goal.invariant-loop-m
invariant-loop-m l = In l.list l.n ↔ In (drop l.m-index l.list) l.n
