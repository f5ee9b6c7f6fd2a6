use Rattle.std.proofs.Common.{subst}
use Rattle.pv_classes.specs.Calls.{Classes, IsClasses}
use Rattle.pv_classes.specs.Congruence.{index_of}
use Rattle.pv_classes.proofs.Views.{classes_are}
use Rattle.pv_classes.proofs.classes.Classes.len.Goals as goal

pub returns-clause-classes : goal.returns-clause-classes
returns-clause-classes c = subst (λ (x : Classes). IsClasses x) c.self.view_is (classes_are (index_of c.self.inside.congruence) c.self.inside.joins.items c.self.inside.blocks.items c.self.invariant)
