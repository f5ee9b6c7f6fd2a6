use Rattle.std.proofs.Common.{◌≡◌, take, vec_len}
use Rattle.pv_graph.specs.Reach.{Grows}
use Rattle.pv_graph.proofs.reach.add_uses.Given as goal

abbrev pub invariant-loop-place : goal.invariant-loop-place
invariant-loop-place l = record { len : vec_len l.uses ≡ vec_len l.initial.uses; grows : Grows l.first l.initial.uses.items l.uses.items l.node (take l.place l.kids) }
