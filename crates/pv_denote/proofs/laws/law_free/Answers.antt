use Rattle.pv_denote.proofs.laws.law_free.Goals as goal
use Rattle.pv_denote.proofs.GraphLaws.{free_law, closed_law, spine_law}

pub returns : goal.returns
returns c = record { free = free_law; closed = closed_law; spine = spine_law }
