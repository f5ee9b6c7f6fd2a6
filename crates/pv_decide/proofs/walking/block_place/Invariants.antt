use Rattle.pv_decide.proofs.Words.{IsExitOf, Grows, HasNothing, FitsAt}
use Rattle.pv_decide.proofs.Following.{GivesFrom}
use Rattle.pv_decide.proofs.walking.block_place.Given as goal

abbrev pub invariant-loop-e : goal.invariant-loop-e
invariant-loop-e l = record {
  exit : IsExitOf l.sites l.aim.scope l.b l.e;
  grows : Grows l.fn.nodes.items l.nodes.items;
  nothing : HasNothing l.nodes.items;
  sound : FitsAt l.sites l.aim.scope l.aim.target l.nodes.items l.b l.place;
  gives : GivesFrom l.sites l.aim.scope l.aim.target l.places l.b l.fn.nodes.items l.nodes.items l.e l.place;
}

abbrev pub decreases-loop-e : goal.decreases-loop-e
decreases-loop-e l = l.e
