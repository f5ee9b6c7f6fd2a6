use Rattle.std.proofs.Common.{◌≡◌, map, ap, sym, ◌∙◌, subst}
use Rattle.pv_pattern.specs.Seen.{axiom_seen}
use Rattle.pv_scalar.specs.Table.{scalar_axioms}
use Rattle.pv_axioms.specs.Entries.{NumbersOnce}
use Rattle.pv_match.specs.Reading.{AreReadable}
use Rattle.cases_search.proofs.Known.{scalar_once, scalar_readable}
use Rattle.cases_search.proofs.searching.rematched.Goals as goal

pub rematched_by-requires-clause-readable : goal.rematched_by-requires-clause-readable
rematched_by-requires-clause-readable g c κs within =
    let same : map axiom_seen c.deref.result.now ≡ scalar_axioms = ap (map axiom_seen) c.deref.ensures.value ∙ c.in_ok-table.ensures in
    subst AreReadable (sym same) scalar_readable

pub rematched_by-requires-clause-once : goal.rematched_by-requires-clause-once
rematched_by-requires-clause-once g c κs within =
    let same : map axiom_seen c.deref.result.now ≡ scalar_axioms = ap (map axiom_seen) c.deref.ensures.value ∙ c.in_ok-table.ensures in
    subst NumbersOnce (sym same) scalar_once
