use Rattle.pv_terms.proofs.Reading.{standing_reads, growth_stands}
use Rattle.pv_terms.proofs.laws.law_stand.Goals as goal

pub returns : goal.returns
returns c = record { reads = standing_reads; grows = growth_stands }
