use Rattle.std.proofs.Common.{◌<◌, ℕ, length, sym, subst}
use Rattle.pv_classes.specs.Forms.{AreMembers}
use Rattle.pv_classes.specs.Calls.{Classes}
use Rattle.pv_classes.specs.Congruence.{index_of}
use Rattle.pv_classes.proofs.Keying.{class_members}
use Rattle.pv_classes.proofs.classes.Classes.members.Goals as goal

pub returns : goal.returns
returns c =
    let p = (index_of c.self.inside.congruence).parts in let n = c.args.n in let parts = c.self.invariant.parts in
    let there = subst (λ (m : ℕ). n < m) parts.long (subst (λ (x : Classes). n < length x.numbers) (sym c.self.view_is) c.requires) in
    subst (λ (x : Classes). AreMembers x.numbers n c.members.result.0 c.members.result.1.now) c.self.view_is (class_members p n c.members.result.0 c.members.result.1.now parts there c.members.ensures)
