use Rattle.pv_denote.proofs.laws.law_value.Goals as goal
use Rattle.pv_denote.proofs.GraphLaws.{more_fuel, once}

pub returns : goal.returns
returns c = record { more = more_fuel; once = once }
