use Rattle.std.proofs.Common.{◌≡◌, map, ap, sym, ◌∙◌, subst}
use Rattle.pv_pattern.specs.Seen.{axiom_seen}
use Rattle.pv_axioms.specs.Entries.{NumbersOnce, core_axioms}
use Rattle.pv_axioms.proofs.Cited.{core_are}
use Rattle.pv_closings.proofs.Cited.{induct_congruence}
use Rattle.pv_match.specs.Reading.{AreReadable}
use Rattle.cases_search.proofs.Known.{core_readable}
use Rattle.cases_search.proofs.joined.matches_over.Goals as goal

pub matches-requires-clause-congruence : goal.matches-requires-clause-congruence
matches-requires-clause-congruence g c κs within = induct_congruence c.args.graph.now c.join_pairs.new.classes c.induct.new.c c.in_ok-induct.field-0 c.in_ok-induct.ensures

pub matches-requires-clause-readable : goal.matches-requires-clause-readable
matches-requires-clause-readable g c κs within =
    let same : map axiom_seen c.deref-2.result.now ≡ core_axioms = ap (map axiom_seen) c.deref-2.ensures.value ∙ c.in_ok-table.ensures in
    subst AreReadable (sym same) core_readable

pub matches-requires-clause-once : goal.matches-requires-clause-once
matches-requires-clause-once g c κs within =
    let same : map axiom_seen c.deref-2.result.now ≡ core_axioms = ap (map axiom_seen) c.deref-2.ensures.value ∙ c.in_ok-table.ensures in
    subst NumbersOnce (sym same) core_are.once
