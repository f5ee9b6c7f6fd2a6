use Rattle.std.proofs.Common.{take}
use Rattle.pv_match.specs.Kept.{AddsKept}
use Rattle.pv_match.proofs.kept.add_kept.Given as goal

abbrev pub invariant-loop-n : goal.invariant-loop-n
invariant-loop-n l = AddsKept l.kept (take l.n-index l.nodes) l.fn.list.items l.list.items
