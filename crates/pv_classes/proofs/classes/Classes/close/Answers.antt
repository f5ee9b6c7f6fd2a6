use Rattle.std.proofs.Common.{sym, subst}
use Rattle.std.proofs.lemmas.Result.{on_ok_weaker}
use Rattle.pv_classes.specs.Calls.{Classes, Closes, Knows, classes_of}
use Rattle.pv_classes.specs.Congruence.{index_of}
use Rattle.pv_classes.proofs.Views.{closes_are}
use Rattle.pv_classes.proofs.classes.Classes.close.Goals as goal

pub returns : goal.returns
returns c =
    on_ok_weaker c.close.result
    (λ h. subst (λ (x : Classes). Closes c.args.g.now.nodes c.args.fixed.now x (classes_of (index_of c.close.new.congruence) c.close.new.joins.items c.self.inside.blocks.items)) c.self.view_is
    (closes_are c.args.g.now.nodes c.args.fixed.now (index_of c.self.inside.congruence) (index_of c.close.new.congruence) c.self.inside.joins.items c.close.new.joins.items c.self.inside.blocks.items
    (subst (λ (x : Classes). Knows c.args.g.now.nodes x) (sym c.self.view_is) c.requires) c.close.ensures.joined h))
    c.close.ensures.ok
