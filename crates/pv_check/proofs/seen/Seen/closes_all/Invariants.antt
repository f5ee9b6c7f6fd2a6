use Rattle.std.proofs.Common.{◌↔◌, drop, reverse}
use Rattle.std.specs.List.{AllZip}
use Rattle.pv_steps.specs.Steps.{outer_of}
use Rattle.pv_steps.specs.Right.{ClosesPair}
use Rattle.pv_check.specs.Kept.{open_now}
use Rattle.pv_check.proofs.seen.Seen.closes_all.Given as goal

abbrev pub invariant-loop-pair : goal.invariant-loop-pair
invariant-loop-pair l =
    AllZip (ClosesPair l.graph (reverse l.self.steps.now) l.depth (open_now l.self.steps.now) (outer_of (open_now l.self.steps.now))) l.pairs l.facts
    ↔ AllZip (ClosesPair l.graph (reverse l.self.steps.now) l.depth (open_now l.self.steps.now) (outer_of (open_now l.self.steps.now))) (drop l.pair-index l.pairs) l.rest
