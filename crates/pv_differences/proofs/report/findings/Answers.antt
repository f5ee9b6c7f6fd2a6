use Rattle.std.proofs.Common.{◌<◌, length}
use Rattle.pv_report.proofs.Cited.{slice_at, zip_next}
use Rattle.pv_differences.specs.Findings.{IsFinding}
use Rattle.pv_differences.proofs.report.findings.Goals as goal

pub loop-place-preserved : goal.loop-place-preserved
loop-place-preserved c =
    let pair = c.args.pair.now in
    let k = c.loop-place.place in
    let lt : k < length pair.first.methods = rw c.as_slice-place-end.ensures at c.loop-place-test.true in
    let here = slice_at pair.first.methods k lt in
    rw c.in_ok-push.ensures.items (zip_next (IsFinding c.args.limits pair.first pair.second) pair.first.methods k c.loop-place.findings.items here.0 c.in_ok-finding.finding here.1 c.loop-place.invariant (c.in_ok-finding.ensures here.0 here.1))
