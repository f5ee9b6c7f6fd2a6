use Rattle.std.proofs.Common.{length, arith}
use Rattle.pv_check.proofs.Finding.{inside_low}
use Rattle.pv_check.proofs.seen.Seen.inside.Goals as goal

pub returns-clause-low : goal.returns-clause-low
returns-clause-low c = inside_low c.args.self.now.steps.now c.args.self.now.innermost.now c.args.self.now.opened.now c.args.self.now.kept (length c.args.self.now.steps.now) (omega arith)
