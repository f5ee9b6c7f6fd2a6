use Rattle.pv_terms.proofs.Freed.{free_reads}
use Rattle.pv_terms.proofs.laws.law_free.Goals as goal

pub returns : goal.returns
returns c = free_reads
