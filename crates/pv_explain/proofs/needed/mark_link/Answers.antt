use Rattle.std.proofs.Common.{List, sym, subst}
use Rattle.pv_paths.specs.declared.forest.Way.{Way}
use Rattle.pv_explain.specs.Needed.{AreBefore}
use Rattle.pv_explain.proofs.Marking.{path_before}
use Rattle.pv_explain.proofs.needed.mark_link.Goals as goal

pub mark_path-requires-clause-path : goal.mark_path-requires-clause-path
mark_path-requires-clause-path c =
    subst (λ (ws : List Way). AreBefore c.args.before ws) (sym c.deref.ensures.value) (path_before c.args.forest.now.ends c.args.before c.in_ok-path.path.items c.args.a c.args.b c.in_ok-path.ensures)
