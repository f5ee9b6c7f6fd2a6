-- The law of each entry of the table.
use Rattle.std.specs.Prelude.{List, [], ◌∷◌, ◌++◌}
use Rattle.pv_value.specs.declared.operation.ScalarOp.TheVariants.{Iadd, Isub, Imul, Idiv, Irem, Ishl, Ishr, Iushr, Iand, Ior, Ixor, Ieq, Ilt, Ineg, I2b, I2c, I2s, I2l, Ladd, Lsub, Lmul, Ldiv, Lrem, Lshl, Lshr, Lushr, Land, Lor, Lxor, Leq, Lcmp, Lneg, L2i}
use Rattle.pv_pattern.specs.Patterns.{Axiom}
use Rattle.pv_pattern.specs.Laws.{Laws}
use Rattle.pv_choiceax.specs.Table.{counts_and_faults, int_pairs, int_singles, long_pairs, long_singles, reads, nested_choices, bounds, truths, low_halves, narrowings, chosen_truths, choice_axioms}
use Rattle.pv_choiceax.proofs.Lifted.{count_and_fault_laws, pair_laws, single_laws, read_laws}
use Rattle.pv_choiceax.proofs.Nested.{nested_laws, chosen_laws}
use Rattle.pv_choiceax.proofs.Numbers.{bound_laws, truth_laws, half_laws, narrowing_laws}

laws_append : (a b : List Axiom) → Laws a → Laws b → Laws (a ++ b)
laws_append [] b p q = q
laws_append (r ∷ a) b p q = (p.0, laws_append a b p.1 q)

pub all_laws : Laws choice_axioms
all_laws =
    laws_append counts_and_faults (int_pairs ++ (int_singles ++ (long_pairs ++ (long_singles ++ (reads ++ (nested_choices ++ (bounds ++ (truths ++ (low_halves ++ (narrowings ++ (chosen_truths))))))))))) count_and_fault_laws (
    laws_append int_pairs (int_singles ++ (long_pairs ++ (long_singles ++ (reads ++ (nested_choices ++ (bounds ++ (truths ++ (low_halves ++ (narrowings ++ (chosen_truths)))))))))) (pair_laws 3300 (Iadd ∷ Isub ∷ Imul ∷ Idiv ∷ Irem ∷ Ishl ∷ Ishr ∷ Iushr ∷ Iand ∷ Ior ∷ Ixor ∷ Ieq ∷ Ilt ∷ [])) (
    laws_append int_singles (long_pairs ++ (long_singles ++ (reads ++ (nested_choices ++ (bounds ++ (truths ++ (low_halves ++ (narrowings ++ (chosen_truths))))))))) (single_laws 3430 (Ineg ∷ I2b ∷ I2c ∷ I2s ∷ I2l ∷ [])) (
    laws_append long_pairs (long_singles ++ (reads ++ (nested_choices ++ (bounds ++ (truths ++ (low_halves ++ (narrowings ++ (chosen_truths)))))))) (pair_laws 3500 (Ladd ∷ Lsub ∷ Lmul ∷ Ldiv ∷ Lrem ∷ Lshl ∷ Lshr ∷ Lushr ∷ Land ∷ Lor ∷ Lxor ∷ Leq ∷ Lcmp ∷ [])) (
    laws_append long_singles (reads ++ (nested_choices ++ (bounds ++ (truths ++ (low_halves ++ (narrowings ++ (chosen_truths))))))) (single_laws 3630 (Lneg ∷ L2i ∷ [])) (
    laws_append reads (nested_choices ++ (bounds ++ (truths ++ (low_halves ++ (narrowings ++ (chosen_truths)))))) read_laws (
    laws_append nested_choices (bounds ++ (truths ++ (low_halves ++ (narrowings ++ (chosen_truths))))) nested_laws (
    laws_append bounds (truths ++ (low_halves ++ (narrowings ++ (chosen_truths)))) bound_laws (
    laws_append truths (low_halves ++ (narrowings ++ (chosen_truths))) truth_laws (
    laws_append low_halves (narrowings ++ (chosen_truths)) half_laws (
    laws_append narrowings (chosen_truths) narrowing_laws (
    chosen_laws)))))))))))
