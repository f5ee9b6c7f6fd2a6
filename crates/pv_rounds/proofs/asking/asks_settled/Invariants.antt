use Rattle.std.proofs.Common.{map, take}
use Rattle.pv_pattern.specs.Seen.{side_seen}
use Rattle.pv_rounds.specs.Asking.{AsksSettled}
use Rattle.pv_rounds.proofs.asking.asks_settled.Given as goal

abbrev pub invariant-loop-side : goal.invariant-loop-side
invariant-loop-side l = AsksSettled (map side_seen (take l.side-index l.sides)) → ⊥
