use Rattle.std.proofs.Common.{ap}
use Rattle.pv_graph.specs.Graphs.{Graph}
use Rattle.pv_graph.proofs.Cited.{sealed_made}
use Rattle.pv_report.proofs.SameRoots.{answer_kept, sealed_within}
use Rattle.pv_report.proofs.verdict.sealed_least.Goals as goal

pub unreachable-requires : goal.unreachable-requires
unreachable-requires c = c.if-not-seal.ensures.no c.requires.whole.finished

pub least-requires-clause-made : goal.least-requires-clause-made
least-requires-clause-made c = sealed_made c.args.g c.seal.new.self c.requires.whole.made c.if-not-seal.ensures.sealed

pub least-requires-clause-sealed : goal.least-requires-clause-sealed
least-requires-clause-sealed c = ap (λ (g : Graph). g.is_open) c.if-not-seal.ensures.sealed.sealed

pub least-requires-clause-first : goal.least-requires-clause-first
least-requires-clause-first c = sealed_within c.args.g c.seal.new.self c.args.one c.if-not-seal.ensures.sealed c.requires.one

pub least-requires-clause-second : goal.least-requires-clause-second
least-requires-clause-second c = sealed_within c.args.g c.seal.new.self c.args.two c.if-not-seal.ensures.sealed c.requires.two

pub returns : goal.returns
returns c = answer_kept c.args.g c.seal.new.self c.args.one c.args.two c.least.result c.if-not-seal.ensures.sealed c.least.ensures.least
