use Rattle.std.proofs.Common.{ℕ, [], get_or, ◌∙◌, ap}
use Rattle.pv_classes.specs.declared.congruence.Known.{Known}
use Rattle.pv_classes.specs.Calls.{Classes}
use Rattle.pv_classes.proofs.classes.Classes.nodes_with.Goals as goal

pub returns : goal.returns
returns c = λ nodes h.
    c.get.ensures ∙ ap (λ (v : Known). get_or v.by_number c.from.result []) c.deref.ensures
    ∙ ap (λ (n : ℕ). get_or c.self.inside.congruence.known.value.by_number n []) c.from.ensures
    ∙ ap (λ (x : Classes). get_or x.index.by_number c.args.number []) c.self.view_is
    ∙ h.index.numbered c.args.number
