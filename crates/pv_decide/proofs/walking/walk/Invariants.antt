use Rattle.std.proofs.Common.{◌≡◌, ◌≤◌, length}
use Rattle.pv_decide.proofs.Words.{AreSound, HasNothing, HasDead, ArePlaces}
use Rattle.pv_decide.proofs.Walked.{HasPlaces}
use Rattle.pv_decide.proofs.walking.walk.Given as goal

abbrev pub invariant-loop-k : goal.invariant-loop-k
invariant-loop-k l = record {
  low : l.k ≤ length l.order;
  places : length l.places.items ≡ length l.sites;
  nothing : HasNothing l.nodes.items;
  dead : HasDead l.nodes.items;
  sound : AreSound l.sites l.aim.scope l.aim.target l.nodes.items;
  fit : ArePlaces l.sites l.aim.target l.nodes.items l.places.items;
  done : HasPlaces l.sites l.order l.aim.scope l.aim.target l.ahead l.places.items l.nodes.items l.k;
}

abbrev pub decreases-loop-k : goal.decreases-loop-k
decreases-loop-k l = l.k
