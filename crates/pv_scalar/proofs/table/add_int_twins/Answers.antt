use Rattle.std.proofs.Common.{List, ◌++◌, map}
use Rattle.pv_value.specs.Operations.{int}
use Rattle.pv_pattern.specs.Patterns.{Axiom}
use Rattle.pv_pattern.specs.Seen.{axiom_seen}
use Rattle.pv_scalar.specs.Table.{sums, products, ands, ors, xors, quotients, shifts}
use Rattle.pv_scalar.proofs.Joined.{joined}
use Rattle.pv_scalar.proofs.table.add_int_twins.Goals as goal

pub returns : goal.returns
returns c =
    let all : List Axiom = map axiom_seen c.add_axioms-7.new.axioms.items in
    let from6 = joined (map axiom_seen c.add_axioms-5.new.axioms.items) (map axiom_seen c.add_axioms-6.new.axioms.items) all (quotients int) (shifts int) c.in_ok-add_axioms-6.ensures c.in_ok-add_axioms-7.ensures in
    let from5 = joined (map axiom_seen c.add_axioms-4.new.axioms.items) (map axiom_seen c.add_axioms-5.new.axioms.items) all (xors int) (quotients int ++ (shifts int)) c.in_ok-add_axioms-5.ensures from6 in
    let from4 = joined (map axiom_seen c.add_axioms-3.new.axioms.items) (map axiom_seen c.add_axioms-4.new.axioms.items) all (ors int) (xors int ++ (quotients int ++ (shifts int))) c.in_ok-add_axioms-4.ensures from5 in
    let from3 = joined (map axiom_seen c.add_axioms-2.new.axioms.items) (map axiom_seen c.add_axioms-3.new.axioms.items) all (ands int) (ors int ++ (xors int ++ (quotients int ++ (shifts int)))) c.in_ok-add_axioms-3.ensures from4 in
    let from2 = joined (map axiom_seen c.add_axioms.new.axioms.items) (map axiom_seen c.add_axioms-2.new.axioms.items) all (products int) (ands int ++ (ors int ++ (xors int ++ (quotients int ++ (shifts int))))) c.in_ok-add_axioms-2.ensures from3 in
    joined (map axiom_seen c.args.axioms.now.items) (map axiom_seen c.add_axioms.new.axioms.items) all (sums int) (products int ++ (ands int ++ (ors int ++ (xors int ++ (quotients int ++ (shifts int)))))) c.in_ok-add_axioms.ensures from2
