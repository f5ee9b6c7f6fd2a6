use Rattle.std.proofs.Common.{◌↔◌, true, false, IsTrue, subst}
use Rattle.pv_marks.specs.Classes.{NodeHas, settled}
use Rattle.pv_marks.proofs.Basing.{settled_begins}
use Rattle.pv_marks.proofs.nodes.first_mark.Goals as goal

pub returns-then-settled : goal.returns-then-settled
returns-then-settled c g assumed n is = settled_begins g assumed n true (subst (λ b. IsTrue b ↔ NodeHas g assumed settled n) c.if-settled.true is)

pub returns-else-settled : goal.returns-else-settled
returns-else-settled c g assumed n is = settled_begins g assumed n false (subst (λ b. IsTrue b ↔ NodeHas g assumed settled n) c.if-settled.false is)
