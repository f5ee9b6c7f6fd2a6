use Rattle.std.proofs.Common.{◌∙◌, subst}
use Rattle.pv_classes.specs.Calls.{Classes, AddsBlock, classes_of}
use Rattle.pv_classes.specs.Congruence.{index_of}
use Rattle.pv_classes.proofs.Views.{adds_block}
use Rattle.pv_classes.proofs.classes.Classes.add_block.Goals as goal

pub returns : goal.returns
returns c =
    subst (λ (x : Classes). AddsBlock x (classes_of (index_of c.self.inside.congruence) c.self.inside.joins.items c.push.new.self.items) c.args.block c.len-n.result) c.self.view_is
    (adds_block (index_of c.self.inside.congruence) c.self.inside.joins.items c.self.inside.blocks.items c.push.new.self.items c.args.block c.len-n.result c.self.invariant (c.len-n.ensures ∙ c.self.inside.blocks.ok.0) c.in_ok-push.ensures.items)
