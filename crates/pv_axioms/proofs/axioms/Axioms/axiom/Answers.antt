use Rattle.std.proofs.Common.{ap, ◌∙◌}
use Rattle.std.specs.List.{find}
use Rattle.pv_axioms.proofs.Finding.{found}
use Rattle.pv_axioms.proofs.axioms.Axioms.axiom.Goals as goal

pub returns : goal.returns
returns c =
    found _ _ _ _ c.self.invariant c.args.number _ _ _ _ _ _ _ (c.entry-scalar.ensures ∙ ap (find _) c.deref.ensures.value) (c.entry-loops.ensures ∙ ap (find _) c.deref-2.ensures.value)
    (c.entry-heap.ensures ∙ ap (find _) c.deref-3.ensures.value) (c.entry-choices.ensures ∙ ap (find _) c.deref-4.ensures.value) c.or.ensures c.or-2.ensures c.or-3.ensures
