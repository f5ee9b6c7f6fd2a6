use Rattle.std.proofs.Common.{◌≡◌, ◌<◌, Some, length, sym, arith}
use Rattle.std.specs.Prelude.{slice_get}
use Rattle.pv_report.proofs.Cited.{here_again, lines_at}
use Rattle.pv_differences.specs.Lines.{line_of}
use Rattle.pv_differences.proofs.report.lines.Goals as goal

pub loop-k-preserved : goal.loop-k-preserved
loop-k-preserved c =
    let x = c.index-methods-k.result in
    let y = c.index-findings-k.result in
    let lt : c.loop-k.k < length c.args.findings.now = omega (arith, c.loop-k-test.true, c.requires) in
    let one : slice_get c.args.methods.now c.loop-k.k ≡ Some x = here_again c.args.methods.now c.loop-k.k x c.loop-k-test.true c.index-methods-k.is in
    let next = lines_at line_of c.args.methods.now c.args.findings.now c.loop-k.k x y one lt in
    rw (c.in_ok-push_line.ensures, c.loop-k.invariant) (sym (rw (← c.index-findings-k.is) at next))
