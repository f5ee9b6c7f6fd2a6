use Rattle.std.proofs.Common.{◌++◌, [], ◌∷◌, List, ℕ, ap, ◌∙◌}
use Rattle.pv_loops.proofs.Rows.{set_row, row_at}
use Rattle.pv_loops.proofs.lists.Lists.push.Goals as goal

pub returns : goal.returns
returns c = set_row _ _ c.args.n c.push.new.self _ c.self.view_is (c.in_ok-push.ensures.items ∙ ap (λ (l : List ℕ). l ++ c.args.x ∷ []) (row_at _ _ c.args.n c.index_mut.result.now c.self.view_is c.requires c.index_mut.ensures.value))
