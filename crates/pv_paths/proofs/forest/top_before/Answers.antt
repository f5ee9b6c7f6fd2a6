use Rattle.std.proofs.Common.{refl}
use Rattle.pv_paths.specs.Trees.{go, stop}
use Rattle.pv_paths.proofs.Climbing.{room_falls}
use Rattle.pv_paths.proofs.forest.top_before.Goals as goal

pub loop-link-smaller : goal.loop-link-smaller
loop-link-smaller c = room_falls c.args.links.now c.requires.rises c.loop-link.top c.in-Some.link c.in-Some.ensures.link

pub loop-link-preserved : goal.loop-link-preserved
loop-link-preserved c = record {
  within = c.requires.within c.loop-link.top c.in-Some.link c.in-Some.ensures.link;
  rest = λ r d. c.loop-link.invariant.rest r (go c.loop-link.top r c.in-Some.link c.in-Some.ensures.link c.in-Some.ensures.before d);
}

pub returns-clause-climbs : goal.returns-clause-climbs
returns-clause-climbs c = c.loop-link.invariant.rest c.loop-link.top (stop c.loop-link.top c.loop-link.top refl (c.in_default.ensures.none refl))
