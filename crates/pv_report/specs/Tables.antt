-- The axioms of searches, which are made when they are needed.
use Rattle.std.specs.Prelude.{◌≡◌, Some, map}
use Rattle.std.specs.Global.{Vec}
use Rattle.pv_pattern.specs.declared.pattern.Axiom.{Axiom}
use Rattle.pv_pattern.specs.Seen.{axiom_seen}
pub use Rattle.pv_certify.specs.Searched.{axioms_in}
use Rattle.pv_report.specs.Options.{AxiomSet}
use Rattle.pv_report.specs.declared.verdict.Table.{Table}

-- the axioms of this set are made
abbrev pub HasMade : AxiomSet → Table → Type 0
HasMade set t = (v : Vec Axiom) × (t.made ≡ Some v) × (map axiom_seen v.items ≡ axioms_in set)

-- .. or none are
abbrev pub IsTableOf : AxiomSet → Table → Type 0
IsTableOf set t = (v : Vec Axiom) → t.made ≡ Some v → map axiom_seen v.items ≡ axioms_in set
