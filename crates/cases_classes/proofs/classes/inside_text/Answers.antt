use Rattle.cases_classes.proofs.Known.{restored_known, tried_restores}
use Rattle.cases_classes.proofs.classes.inside_text.Goals as goal

pub restore-requires : goal.restore-requires
restore-requires c =
    tried_restores c.args.graph.now.nodes _ _ _ _ c.args.classes.now c.save.new.self c.join.new.self c.close.new.self c.in_ok-outside.outside c.in_ok-outside.ensures.saved c.in_ok-outside.ensures.same c.in_ok-join.ensures c.in_ok-close.ensures

pub returns : goal.returns
returns c =
    restored_known c.args.graph.now.nodes _ _ _ _ c.args.classes.now c.save.new.self c.join.new.self c.close.new.self c.restore.new.self c.in_ok-outside.outside _ _ c.requires c.in_ok-outside.ensures.saved c.in_ok-outside.ensures.same c.in_ok-join.ensures c.in_ok-close.ensures
    c.in_ok-joins.ensures
