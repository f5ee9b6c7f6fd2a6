use Rattle.std.proofs.Common.{length, ap, ◌∙◌, w32, to_z, of_z}
use Rattle.pv_frame.proofs.Words.{to_z-of_z, cases_from}
use Rattle.pv_frame.proofs.ActingLaws.{cases_start, cases_on, cases_done, key_is}
use Rattle.pv_frame.proofs.acting.cases_from.Goals as goal

pub loop-i-init : goal.loop-i-init
loop-i-init c = rw c.new-cases.ensures.items (cases_start (to_z w32 (of_z w32 c.args.low)) c.args.targets.now)

pub loop-i-preserved : goal.loop-i-preserved
loop-i-preserved c =
    let is = key_is c.args.low c.from.result c.loop-i.i (length c.args.targets.now) c.ranges.low c.requires c.loop-i-test.true c.from.ensures in
    cases_on (to_z w32 (of_z w32 c.args.low)) c.args.targets.now c.loop-i.i 0 _ c.loop-i.cases.items c.push.new.self.items c.in_ok-push.ensures.items c.loop-i-test.true is c.loop-i.invariant

pub returns : goal.returns
returns c =
    let low_is = to_z-of_z w32 c.args.low c.ranges.low in
    c.into.ensures ∙ cases_done (to_z w32 (of_z w32 c.args.low)) c.args.targets.now c.loop-i.i c.loop-i.cases.items c.loop-i-test.false c.loop-i.invariant ∙ ap (λ n. cases_from n c.args.targets.now) low_is
