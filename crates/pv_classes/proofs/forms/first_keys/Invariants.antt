use Rattle.pv_classes.specs.Keyed.{AreFirstTo}
use Rattle.pv_classes.proofs.forms.first_keys.Given as goal

abbrev pub invariant-loop-n : goal.invariant-loop-n
invariant-loop-n l = AreFirstTo l.n l.g.nodes l.parts.labels l.seen l.firsts.items
