use Rattle.std.proofs.Common.{◌<◌, length, sym, subst}
use Rattle.std.proofs.lemmas.Result.{on_ok_weaker}
use Rattle.pv_classes.specs.Calls.{Classes, Joins, classes_of}
use Rattle.pv_classes.specs.Congruence.{index_of}
use Rattle.pv_classes.proofs.Views.{joins_are}
use Rattle.pv_classes.proofs.classes.Classes.join.Goals as goal

pub returns : goal.returns
returns c =
    on_ok_weaker c.join_nodes.result
    (λ h. subst (λ (x : Classes). Joins x (classes_of (index_of c.join_nodes.new.congruence) c.join_nodes.new.joins.items c.self.inside.blocks.items) c.args.a c.args.b c.args.why) c.self.view_is
    (joins_are (index_of c.self.inside.congruence) (index_of c.join_nodes.new.congruence) c.self.inside.joins.items c.join_nodes.new.joins.items c.self.inside.blocks.items c.args.a c.args.b c.args.why
    c.self.invariant c.join_nodes.ensures.joined
    (subst (λ (x : Classes). c.args.a < length x.numbers) (sym c.self.view_is) c.requires.first) (subst (λ (x : Classes). c.args.b < length x.numbers) (sym c.self.view_is) c.requires.second) h))
    c.join_nodes.ensures.ok
