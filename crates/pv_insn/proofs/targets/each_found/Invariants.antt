use Rattle.pv_insn.proofs.Each.{EachSoFar}
use Rattle.pv_insn.proofs.targets.each_found.Given as goal

abbrev pub invariant-loop-lead : goal.invariant-loop-lead
invariant-loop-lead g l = EachSoFar (g.L.Lead.found l.places l.at) l.leads l.lead-index l.items.items
