use Rattle.std.proofs.Common.{length, ◌-◌, arith}
use Rattle.std.proofs.Math.ListN.{get_or}
use Rattle.std.proofs.lemmas.Option.{slice_get-get_or}
use Rattle.pv_check.proofs.Finding.{inside_low}
use Rattle.pv_check.proofs.Concluding.{last_is}
use Rattle.pv_check.proofs.seen.Seen.last_states.Goals as goal

pub states-requires : goal.states-requires
states-requires c = inside_low c.args.self.now.steps.now c.args.self.now.innermost.now c.args.self.now.opened.now c.args.self.now.kept (length c.args.self.now.steps.now - 1) (omega arith)

pub returns : goal.returns
returns c =
    let some = c.if-n-eq0.false in
    let section = c.args.self.now.steps.now in
    last_is section c.args.self.now.innermost.now c.args.self.now.opened.now c.args.self.now.kept c.requires (length section - 1) (omega (arith, some)) (get_or section (length section - 1) c.index-self-n.result)
    (slice_get-get_or section (length section - 1) c.index-self-n.result (omega (arith, some))) c.states.result c.args.a c.args.b c.states.ensures
