use Rattle.pv_steps.specs.Right.{AreOfOneSort}
use Rattle.pv_check.proofs.SetParts.{all_in, in_all}
use Rattle.pv_check.proofs.seen.Seen.is_open.Goals as goal

pub returns : goal.returns
returns c = (
  λ e. let h = c.can_open.ensures.0 e in (h.0, h.1, all_in (AreOfOneSort c.args.graph.now) c.args.pairs.now h.2),
  λ h. c.can_open.ensures.1 (h.0, h.1, in_all (AreOfOneSort c.args.graph.now) c.args.pairs.now h.2),
)
