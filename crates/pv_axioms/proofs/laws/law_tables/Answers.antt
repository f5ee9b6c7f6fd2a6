use Rattle.std.specs.Prelude.{List, ◌++◌}
use Rattle.std.proofs.Common.{sym, ap, ◌∙◌, append_assoc}
use Rattle.std.proofs.lemmas.List.{append-nil}
use Rattle.pv_pattern.specs.Patterns.{Axiom}
use Rattle.pv_scalar.specs.Table.{scalar_axioms}
use Rattle.pv_loopax.specs.Table.{loop_axioms}
use Rattle.pv_heapax.specs.Table.{heap_axioms}
use Rattle.pv_choiceax.specs.Table.{choice_axioms}
use Rattle.pv_axioms.proofs.laws.law_tables.Goals as goal

pub returns : goal.returns
returns c =
    ap (λ (last : List Axiom). scalar_axioms ++ (loop_axioms ++ (heap_axioms ++ last))) (append-nil choice_axioms)
    ∙ sym (append_assoc scalar_axioms (loop_axioms ++ heap_axioms) choice_axioms ∙ ap (λ (later : List Axiom). scalar_axioms ++ later) (append_assoc loop_axioms heap_axioms choice_axioms))
