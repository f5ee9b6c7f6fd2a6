use Rattle.pv_graph.specs.Graphs.{form_at}
use Rattle.pv_denote.proofs.laws.law_count.Goals as goal
use Rattle.pv_denote.proofs.Counting.{count_low}

pub returns : goal.returns
returns c = λ g w x fuel n i k e. count_low (form_at g.nodes) w x fuel n i k e
