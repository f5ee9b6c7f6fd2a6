use Rattle.std.proofs.Common.{◌≡◌, ℕ, ◌<◌, ◌≤◌, ◌+◌, ◌-◌, ◌*◌}
use Rattle.pv_classes.specs.Partition.{total}
use Rattle.pv_induct.specs.Levels.{IsClosed, IsGrown, HoldsInductions}
use Rattle.pv_induct.specs.Parts.{IsParting, PartsHold, gap_from}
use Rattle.pv_induct.proofs.level.+levels.Given as goal

abbrev pub decreases-induct_at : goal.decreases-induct_at
decreases-induct_at l = 4 * (17 - l.depth) + 1

abbrev pub decreases-go_inside : goal.decreases-go_inside
decreases-go_inside l = 4 * (17 - l.depth)

abbrev pub decreases-pass : goal.decreases-pass
decreases-pass l = 4 * (17 - l.from) + 2

abbrev pub decreases-close_level : goal.decreases-close_level
decreases-close_level l = 4 * (17 - l.from) + 3

abbrev pub invariant-induct_at-refining : goal.invariant-induct_at-refining
invariant-induct_at-refining l = record {
  same : l.c ≡ l.initial.c;
  parting : IsParting l.here l.parts.items l.c.numbers;
  hold : PartsHold l.g.nodes l.fixed l.c.numbers l.depth l.here l.parts.items;
}

abbrev pub decreases-induct_at-refining : goal.decreases-induct_at-refining
decreases-induct_at-refining l = gap_from 0 l.parts.items

abbrev pub invariant-pass-loop-depth : goal.invariant-pass-loop-depth
invariant-pass-loop-depth l = record {
  same : l.c ≡ l.initial.c;
  none : (d : ℕ) → l.from ≤ d → d < l.depth → HoldsInductions l.g.nodes l.fixed l.initial.c.numbers d;
}

abbrev pub invariant-close_level-closing : goal.invariant-close_level-closing
invariant-close_level-closing l = record {
  grown : IsGrown l.g.nodes l.fixed l.first l.fn.c l.c;
  closed : IsClosed l.g.nodes l.fixed l.c.numbers;
}

abbrev pub decreases-close_level-closing : goal.decreases-close_level-closing
decreases-close_level-closing l = total l.c.numbers
