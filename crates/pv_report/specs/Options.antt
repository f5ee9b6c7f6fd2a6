-- By which axioms, within which limits and in which graphs a search is to find roots equal.
pub use Rattle.pv_certify.specs.Searched.{Limits, AxiomSet, Core, All}
use Rattle.pv_report.specs.declared.verdict.Detail.{Detail}
use Rattle.pv_report.specs.declared.verdict.Detail.TheVariants as detail
use Rattle.pv_report.specs.declared.verdict.Graphs.{Graphs}
use Rattle.pv_report.specs.declared.verdict.Graphs.TheVariants.{Least}

pub record Options : Type 0 where
  pub limits : Limits
  pub graphs : Graphs

-- a search in the least graph alone
abbrev pub in_least : Limits → Options
in_least limits = record { limits = limits; graphs = Least }

-- the options by what is wanted: steps are over the least graph
abbrev pub options_of : Limits → Detail → Options
options_of limits (detail.Verdict graphs) = record { limits = limits; graphs = graphs }
options_of limits detail.Steps = in_least limits
