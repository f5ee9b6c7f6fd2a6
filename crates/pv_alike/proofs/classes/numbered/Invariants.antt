use Rattle.std.proofs.Common.{◌≡◌, ◌-◌, length}
use Rattle.pv_alike.specs.Keys.{number_at}
use Rattle.pv_alike.proofs.Refining.{IsRefining}
use Rattle.pv_alike.proofs.classes.numbered.Given as goal

abbrev pub invariant-loop-classes : goal.invariant-loop-classes
invariant-loop-classes l = record { long : length l.classes.items ≡ length l.g.nodes; refining : IsRefining l.g.nodes (number_at l.classes.items) l.count }

abbrev pub decreases-loop-classes : goal.decreases-loop-classes
decreases-loop-classes l = length l.g.nodes - l.count
