use Rattle.std.proofs.Common.{◌++◌, [], ◌∷◌, List, ℕ, ap, ◌∙◌}
use Rattle.pv_alike.proofs.Rows.{set_row, row_at}
use Rattle.pv_alike.proofs.waiting.Waiting.put.Goals as goal

pub returns : goal.returns
returns c = set_row _ _ c.args.k c.push.new.self _ c.self.view_is (c.in_ok-push.ensures.items ∙ ap (λ (l : List ℕ). l ++ c.args.n ∷ []) (row_at _ _ c.args.k c.index_mut.result.now c.self.view_is c.requires c.index_mut.ensures.value))
