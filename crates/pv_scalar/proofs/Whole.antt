-- The law of each entry of the table.
use Rattle.std.specs.Prelude.{List, [], ◌∷◌, ◌++◌}
use Rattle.pv_value.specs.Operations.{int, long}
use Rattle.pv_pattern.specs.Patterns.{Axiom}
use Rattle.pv_pattern.specs.Laws.{Laws}
use Rattle.pv_scalar.specs.Table.{twins, ints, refs, longs, int_folds, long_folds, choices, tokens, scalar_axioms}
use Rattle.pv_scalar.proofs.Twins.{twin_laws, int_laws, long_laws, int_fold_laws, long_fold_laws}
use Rattle.pv_scalar.proofs.Choices.{ref_laws, choice_laws, token_laws}

laws_append : (a b : List Axiom) → Laws a → Laws b → Laws (a ++ b)
laws_append [] b p q = q
laws_append (r ∷ a) b p q = (p.0, laws_append a b p.1 q)

pub all_laws : Laws scalar_axioms
all_laws =
    laws_append (twins int) (ints ++ (refs ++ (int_folds ++ (twins long ++ (longs ++ (long_folds ++ (choices ++ tokens))))))) (twin_laws int)
    (laws_append ints (refs ++ (int_folds ++ (twins long ++ (longs ++ (long_folds ++ (choices ++ tokens)))))) int_laws
    (laws_append refs (int_folds ++ (twins long ++ (longs ++ (long_folds ++ (choices ++ tokens))))) ref_laws
    (laws_append int_folds (twins long ++ (longs ++ (long_folds ++ (choices ++ tokens)))) int_fold_laws
    (laws_append (twins long) (longs ++ (long_folds ++ (choices ++ tokens))) (twin_laws long)
    (laws_append longs (long_folds ++ (choices ++ tokens)) long_laws
    (laws_append long_folds (choices ++ tokens) long_fold_laws
    (laws_append choices tokens choice_laws
    token_laws)))))))
