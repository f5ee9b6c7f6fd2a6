use Rattle.std.proofs.Common.{sym, subst}
use Rattle.pv_graph.specs.Graphs.{IsWellMade}
use Rattle.pv_graph.proofs.Cited.{empty_made, sealed_made}
use Rattle.cases_methods.proofs.roots.sealed_root.Goals as goal

pub convert-requires-clause-made : goal.convert-requires-clause-made
convert-requires-clause-made c = subst IsWellMade (sym c.new-graph.ensures) empty_made

pub returns-in-Ok-clause-made : goal.returns-in-Ok-clause-made
returns-in-Ok-clause-made c = sealed_made c.convert.new.g c.seal.new.self (c.in-Ok.ensures.enlarges.made (subst IsWellMade (sym c.new-graph.ensures) empty_made)) c.if-not-seal.ensures.sealed
