-- What a search found, for the layer above: it is said as in pv_prove and pv_rounds; and of its steps as in pv_trim.
pub use Rattle.pv_prove.specs.declared.outcome.Limits.{Limits}
pub use Rattle.pv_prove.specs.declared.outcome.Outcome.{Outcome}
pub use Rattle.pv_prove.specs.declared.outcome.Outcome.TheVariants.{Met, Budget, Apart, Rounds}
pub use Rattle.pv_prove.specs.declared.table.AxiomSet.{AxiomSet}
pub use Rattle.pv_prove.specs.declared.table.AxiomSet.TheVariants.{Core, All}
pub use Rattle.pv_prove.specs.Finding.{axioms_in, question, verdict_of, IsShown, MetAreSame}
pub use Rattle.pv_prove.specs.Looking.{IsLeastGraph}
pub use Rattle.pv_trim.specs.Citing.{IsLean}
