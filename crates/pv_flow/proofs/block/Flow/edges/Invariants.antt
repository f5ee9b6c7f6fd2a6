use Rattle.std.proofs.Common.{◌≡◌, map, take}
use Rattle.pv_flow.specs.Edges.{edges_of}
use Rattle.pv_flow.proofs.block.Flow.edges.Given as goal

abbrev pub invariant-loop-block : goal.invariant-loop-block
invariant-loop-block l = map (λ v. v.items) l.edges.items ≡ edges_of (take l.block-index l.block-items)
