use Rattle.std.proofs.Common.{refl}
use Rattle.pv_axioms.specs.Entries.{axioms}
use Rattle.pv_match.proofs.Readable.{tested}
use Rattle.pv_match.proofs.laws.law_table.Goals as goal

pub returns : goal.returns
returns c = tested axioms refl
