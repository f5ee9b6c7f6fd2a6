use Rattle.std.proofs.Common.{subst}
use Rattle.std.specs.Prelude.{IfOk}
use Rattle.pv_paths.specs.Paths.{AreTops, Joined}
use Rattle.pv_paths.proofs.Tops.{tops_ok}
use Rattle.pv_paths.proofs.forest.Forest.tops.Goals as goal

pub returns : goal.returns
returns c =
    subst (λ (j : Joined). IfOk c.tops_before.result (λ tops. AreTops j c.args.before c.args.nodes tops.items)) c.self.view_is
    (tops_ok c.self.inside.links.items c.deref.result.now c.self.inside.ends.items c.args.before c.args.nodes (λ tops. tops.items) c.tops_before.result c.self.invariant.forest c.deref.ensures.value c.tops_before.ensures)
