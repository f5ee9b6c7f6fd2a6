use Rattle.std.proofs.Common.{◌≡◌, map, ap, sym, ◌∙◌, subst}
use Rattle.pv_pattern.specs.Seen.{axiom_seen}
use Rattle.pv_axioms.specs.Entries.{AreAxioms, core_axioms}
use Rattle.pv_axioms.proofs.Cited.{core_are}
use Rattle.cases_search.proofs.searching.searched.Goals as goal

pub begin-requires-clause-table : goal.begin-requires-clause-table
begin-requires-clause-table g c =
    let same : map axiom_seen c.deref.result.now ≡ core_axioms = ap (map axiom_seen) c.deref.ensures.value ∙ c.in_ok-table.ensures in
    subst AreAxioms (sym same) core_are
