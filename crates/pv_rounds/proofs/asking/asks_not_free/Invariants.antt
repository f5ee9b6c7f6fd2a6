use Rattle.std.proofs.Common.{map, take}
use Rattle.pv_pattern.specs.Seen.{side_seen}
use Rattle.pv_rounds.specs.Asking.{AsksNotFree}
use Rattle.pv_rounds.proofs.asking.asks_not_free.Given as goal

abbrev pub invariant-loop-side : goal.invariant-loop-side
invariant-loop-side l = AsksNotFree (map side_seen (take l.side-index l.sides)) → ⊥
