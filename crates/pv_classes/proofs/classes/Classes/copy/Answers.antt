use Rattle.std.proofs.Common.{List, sym, ◌∙◌, subst}
use Rattle.pv_classes.specs.declared.join.Join.{Join}
use Rattle.pv_classes.specs.Blocks.{Block}
use Rattle.pv_classes.specs.Calls.{Classes, Copies, classes_of}
use Rattle.pv_classes.specs.Congruence.{index_of}
use Rattle.pv_classes.proofs.Views.{copies}
use Rattle.pv_classes.proofs.classes.Classes.copy.Goals as goal

pub returns : goal.returns
returns c =
    let old = index_of c.self.inside.congruence in
    let new = index_of c.in_ok-copy.field-0 in
    let before = c.self.inside.joins.items in
    let blocks = c.self.inside.blocks.items in
    let h = copies old new before blocks c.self.invariant c.in_ok-copy.ensures in
    subst (λ (x : Classes). Copies x (classes_of new c.in_ok-copy_joins.field-0.items c.in_ok-copy_blocks.field-0.items)) c.self.view_is
    (subst (λ (js : List Join). Copies (classes_of old before blocks) (classes_of new js c.in_ok-copy_blocks.field-0.items)) (sym (c.in_ok-copy_joins.ensures ∙ c.deref.ensures.value))
    (subst (λ (bs : List Block). Copies (classes_of old before blocks) (classes_of new before bs)) (sym (c.in_ok-copy_blocks.ensures ∙ c.deref-2.ensures.value)) h))
