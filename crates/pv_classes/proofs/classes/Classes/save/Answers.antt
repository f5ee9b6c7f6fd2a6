use Rattle.std.proofs.Common.{sym, subst}
use Rattle.pv_classes.specs.declared.congruence.Congruence.{Congruence}
use Rattle.pv_classes.specs.Calls.{Classes, Copies, classes_of}
use Rattle.pv_classes.specs.Congruence.{index_of}
use Rattle.pv_classes.proofs.Views.{copies}
use Rattle.pv_classes.proofs.classes.Classes.save.Goals as goal

pub returns-clause-same : goal.returns-clause-same
returns-clause-same c =
    let old = index_of c.self.inside.congruence in let joins = c.self.inside.joins.items in let blocks = c.self.inside.blocks.items in
    let copied = copies old (index_of c.in_ok-copy.copy) joins blocks c.self.invariant c.in_ok-copy.ensures in
    subst (λ (x : Classes). Copies x (classes_of (index_of c.replace-congruence.new.dest) joins blocks)) c.self.view_is
    (subst (λ (k : Congruence). Copies (classes_of old joins blocks) (classes_of (index_of k) joins blocks)) (sym c.replace-congruence.ensures.after) copied)
