use Rattle.std.proofs.Common.{List, [], ◌++◌, map, ap, ◌∙◌}
use Rattle.pv_value.specs.Operations.{int, long}
use Rattle.pv_pattern.specs.Patterns.{Axiom}
use Rattle.pv_pattern.specs.Seen.{axiom_seen}
use Rattle.pv_scalar.specs.Table.{twins, ints, refs, int_folds, longs, long_folds, choices, tokens}
use Rattle.pv_scalar.proofs.Joined.{joined}
use Rattle.pv_scalar.proofs.table.scalar_axioms.Goals as goal

pub returns : goal.returns
returns c =
    let all : List Axiom = map axiom_seen c.add_axioms-7.new.axioms.items in
    let from8 = joined (map axiom_seen c.add_axioms-5.new.axioms.items) (map axiom_seen c.add_axioms-6.new.axioms.items) all (choices) (tokens) c.in_ok-add_axioms-6.ensures c.in_ok-add_axioms-7.ensures in
    let from7 = joined (map axiom_seen c.add_axioms-4.new.axioms.items) (map axiom_seen c.add_axioms-5.new.axioms.items) all (long_folds) (choices ++ (tokens)) c.in_ok-add_axioms-5.ensures from8 in
    let from6 = joined (map axiom_seen c.add_long_twins.new.axioms.items) (map axiom_seen c.add_axioms-4.new.axioms.items) all (longs) (long_folds ++ (choices ++ (tokens))) c.in_ok-add_axioms-4.ensures from7 in
    let from5 = joined (map axiom_seen c.add_axioms-3.new.axioms.items) (map axiom_seen c.add_long_twins.new.axioms.items) all (twins long) (longs ++ (long_folds ++ (choices ++ (tokens)))) c.in_ok-add_long_twins.ensures from6 in
    let from4 = joined (map axiom_seen c.add_axioms-2.new.axioms.items) (map axiom_seen c.add_axioms-3.new.axioms.items) all (int_folds) (twins long ++ (longs ++ (long_folds ++ (choices ++ (tokens))))) c.in_ok-add_axioms-3.ensures from5 in
    let from3 = joined (map axiom_seen c.add_axioms.new.axioms.items) (map axiom_seen c.add_axioms-2.new.axioms.items) all (refs) (int_folds ++ (twins long ++ (longs ++ (long_folds ++ (choices ++ (tokens)))))) c.in_ok-add_axioms-2.ensures from4 in
    let from2 = joined (map axiom_seen c.add_int_twins.new.axioms.items) (map axiom_seen c.add_axioms.new.axioms.items) all (ints) (refs ++ (int_folds ++ (twins long ++ (longs ++ (long_folds ++ (choices ++ (tokens))))))) c.in_ok-add_axioms.ensures from3 in
    joined [] (map axiom_seen c.add_int_twins.new.axioms.items) all (twins int) (ints ++ (refs ++ (int_folds ++ (twins long ++ (longs ++ (long_folds ++ (choices ++ (tokens)))))))) (c.in_ok-add_int_twins.ensures ∙ ap (λ (a : List Axiom). a ++ twins int) (ap (map axiom_seen) c.new-axioms.ensures.items)) from2
