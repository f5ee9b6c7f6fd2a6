use Rattle.std.proofs.Common.{◌≤◌, ◌+◌, length}
use Rattle.pv_explain.specs.declared.follow.Line.{Line}
use Rattle.pv_explain.specs.Levels.{IsFound}
use Rattle.pv_explain.proofs.level.find.Given as goal

-- none of the last i lines is of the two nodes
abbrev pub invariant-loop-i : goal.invariant-loop-i
invariant-loop-i l = (line : Line) (f : IsFound l.lines l.first l.second line) → length l.lines ≤ f.place + l.i → ⊥
