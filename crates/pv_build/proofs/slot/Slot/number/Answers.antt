use Rattle.std.proofs.Common.{sym, ap, ◌∙◌}
use Rattle.pv_build.proofs.Words.{IfSome_then, number}
use Rattle.pv_build.proofs.Numbers.{local_number, stack_number}
use Rattle.pv_build.proofs.slot.Slot.number.Goals as goal

pub returns-in-Local : goal.returns-in-Local
returns-in-Local c = IfSome_then c.numbered.result c.numbered.ensures (λ n e. local_number c.in-Local.k n e ∙ ap number (sym c.in-Local.is))

pub returns-in-Place : goal.returns-in-Place
returns-in-Place c = IfSome_then c.numbered-in-Place.result c.numbered-in-Place.ensures (λ n e. stack_number c.in-Place.j n e ∙ ap number (sym c.in-Place.is))
