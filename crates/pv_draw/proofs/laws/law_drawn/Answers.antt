use Rattle.pv_draw.proofs.DrawnOnce.{drawn_once}
use Rattle.pv_draw.proofs.laws.law_drawn.Goals as goal

pub returns : goal.returns
returns c = drawn_once
