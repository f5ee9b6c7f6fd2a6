use Rattle.std.proofs.Common.{◌↔◌, drop}
use Rattle.std.specs.List.{AllByRecursion}
use Rattle.pv_endings.specs.Waiting.{MayBe}
use Rattle.pv_endings.proofs.testing.all_may_be.Given as goal

abbrev pub invariant-loop-n : goal.invariant-loop-n
invariant-loop-n l = AllByRecursion (MayBe l.graph l.spine) l.nodes ↔ AllByRecursion (MayBe l.graph l.spine) (drop l.n-index l.nodes)
