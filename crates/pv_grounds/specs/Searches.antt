-- The searches of which the laws here speak, for the layer above: they are those of pv_rounds.
pub use Rattle.pv_rounds.specs.declared.search.Search.{Search}
pub use Rattle.pv_rounds.specs.declared.search.Looked.{Looked}
pub use Rattle.pv_rounds.specs.declared.search.Looked.TheVariants.{Over, Saturated, Open}
pub use Rattle.pv_rounds.specs.Searching.{axioms_of, IsSearch, IsLeastGraph, Begins, IsBegun, IsOver, IsSaturatedNow, Looks, MakesRound, GoesOn}
