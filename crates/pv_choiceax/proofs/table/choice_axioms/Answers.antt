use Rattle.std.proofs.Common.{List, [], ◌++◌, map, ap, ◌∙◌}
use Rattle.pv_pattern.specs.Patterns.{Axiom}
use Rattle.pv_pattern.specs.Seen.{axiom_seen}
use Rattle.pv_choiceax.specs.Table.{counts_and_faults, int_pairs, int_singles, long_pairs, long_singles, reads, nested_choices, bounds, truths, low_halves, narrowings, chosen_truths}
use Rattle.pv_choiceax.proofs.Joined.{joined}
use Rattle.pv_choiceax.proofs.table.choice_axioms.Goals as goal

pub returns : goal.returns
returns c =
    let all : List Axiom = map axiom_seen c.add_axioms-12.new.axioms.items in
    let from11 = joined (map axiom_seen c.add_axioms-10.new.axioms.items) (map axiom_seen c.add_axioms-11.new.axioms.items) all narrowings (chosen_truths) c.in_ok-add_axioms-11.ensures c.in_ok-add_axioms-12.ensures in
    let from10 = joined (map axiom_seen c.add_axioms-9.new.axioms.items) (map axiom_seen c.add_axioms-10.new.axioms.items) all low_halves (narrowings ++ (chosen_truths)) c.in_ok-add_axioms-10.ensures from11 in
    let from9 = joined (map axiom_seen c.add_axioms-8.new.axioms.items) (map axiom_seen c.add_axioms-9.new.axioms.items) all truths (low_halves ++ (narrowings ++ (chosen_truths))) c.in_ok-add_axioms-9.ensures from10 in
    let from8 = joined (map axiom_seen c.add_axioms-7.new.axioms.items) (map axiom_seen c.add_axioms-8.new.axioms.items) all bounds (truths ++ (low_halves ++ (narrowings ++ (chosen_truths)))) c.in_ok-add_axioms-8.ensures from9 in
    let from7 = joined (map axiom_seen c.add_axioms-6.new.axioms.items) (map axiom_seen c.add_axioms-7.new.axioms.items) all nested_choices (bounds ++ (truths ++ (low_halves ++ (narrowings ++ (chosen_truths))))) c.in_ok-add_axioms-7.ensures from8 in
    let from6 = joined (map axiom_seen c.add_axioms-5.new.axioms.items) (map axiom_seen c.add_axioms-6.new.axioms.items) all reads (nested_choices ++ (bounds ++ (truths ++ (low_halves ++ (narrowings ++ (chosen_truths)))))) c.in_ok-add_axioms-6.ensures from7 in
    let from5 = joined (map axiom_seen c.add_axioms-4.new.axioms.items) (map axiom_seen c.add_axioms-5.new.axioms.items) all long_singles (reads ++ (nested_choices ++ (bounds ++ (truths ++ (low_halves ++ (narrowings ++ (chosen_truths))))))) c.in_ok-add_axioms-5.ensures from6 in
    let from4 = joined (map axiom_seen c.add_axioms-3.new.axioms.items) (map axiom_seen c.add_axioms-4.new.axioms.items) all long_pairs (long_singles ++ (reads ++ (nested_choices ++ (bounds ++ (truths ++ (low_halves ++ (narrowings ++ (chosen_truths)))))))) c.in_ok-add_axioms-4.ensures from5 in
    let from3 = joined (map axiom_seen c.add_axioms-2.new.axioms.items) (map axiom_seen c.add_axioms-3.new.axioms.items) all int_singles (long_pairs ++ (long_singles ++ (reads ++ (nested_choices ++ (bounds ++ (truths ++ (low_halves ++ (narrowings ++ (chosen_truths))))))))) c.in_ok-add_axioms-3.ensures from4 in
    let from2 = joined (map axiom_seen c.add_axioms.new.axioms.items) (map axiom_seen c.add_axioms-2.new.axioms.items) all int_pairs (int_singles ++ (long_pairs ++ (long_singles ++ (reads ++ (nested_choices ++ (bounds ++ (truths ++ (low_halves ++ (narrowings ++ (chosen_truths)))))))))) c.in_ok-add_axioms-2.ensures from3 in
    joined [] (map axiom_seen c.add_axioms.new.axioms.items) all counts_and_faults (int_pairs ++ (int_singles ++ (long_pairs ++ (long_singles ++ (reads ++ (nested_choices ++ (bounds ++ (truths ++ (low_halves ++ (narrowings ++ (chosen_truths))))))))))) (c.in_ok-add_axioms.ensures ∙ ap (λ (a : List Axiom). a ++ counts_and_faults) (ap (map axiom_seen) c.new-axioms.ensures.items)) from2
