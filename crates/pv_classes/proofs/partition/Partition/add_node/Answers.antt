use Rattle.std.proofs.Common.{◌≡◌, ℕ, List, ap, ◌∙◌, subst}
use Rattle.std.proofs.lemmas.Result.{on_ok_weaker}
use Rattle.pv_classes.specs.Partition.{Parts, parts_of, HasOneMore}
use Rattle.pv_classes.proofs.Parts.{on_err_two}
use Rattle.pv_classes.proofs.partition.Partition.add_node.Goals as goal

pub returns-clause-ok : goal.returns-clause-ok
returns-clause-ok c =
    on_ok_weaker c.push_node.result (λ h. subst (λ (p : Parts). HasOneMore p (parts_of c.push_node.new.labels.items c.push_node.new.least.items)) c.self.view_is h) c.push_node.ensures.more

pub returns-clause-err : goal.returns-clause-err
returns-clause-err c =
    on_err_two c.push_node.result
    (λ (e : c.push_node.new.labels.items ≡ c.self.inside.labels.items) (f : c.push_node.new.least.items ≡ c.self.inside.least.items).
    ap (λ (xs : List ℕ). parts_of xs c.push_node.new.least.items) e ∙ ap (λ (xs : List ℕ). parts_of c.self.inside.labels.items xs) f ∙ c.self.view_is)
    c.push_node.ensures.labels c.push_node.ensures.least
