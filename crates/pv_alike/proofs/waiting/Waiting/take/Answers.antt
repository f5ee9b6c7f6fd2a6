use Rattle.std.proofs.Common.{ap, ◌∙◌}
use Rattle.pv_alike.proofs.Rows.{set_row}
use Rattle.pv_alike.proofs.waiting.Waiting.take.Goals as goal

pub returns-clause-left : goal.returns-clause-left
returns-clause-left c = set_row _ _ c.args.k c.replace.new.dest _ c.self.view_is (ap (λ v. v.items) c.replace.ensures.after ∙ c.new.ensures.items)
