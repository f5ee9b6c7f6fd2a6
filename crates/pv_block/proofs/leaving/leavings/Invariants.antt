use Rattle.std.proofs.Common.{◌≡◌, take}
use Rattle.pv_block.proofs.Words.{map, leaving_by}
use Rattle.pv_block.proofs.leaving.leavings.Given as goal

abbrev pub invariant-loop-way : goal.invariant-loop-way
invariant-loop-way l = l.exits.items ≡ map (leaving_by l.given l.made l.ends l.after) (take l.way-index l.ways)
