use Rattle.std.proofs.Common.{◌≡◌, ◌<◌, Some, length, sym, arith}
use Rattle.std.specs.Prelude.{slice_get}
use Rattle.pv_report.proofs.Cited.{here_again, lines_at}
use Rattle.pv_sections.specs.Lines.{section_line}
use Rattle.pv_sections.proofs.report.lines.Goals as goal

pub loop-k-preserved : goal.loop-k-preserved
loop-k-preserved c =
    let x = c.index-sections-k.result in
    let lt : c.loop-k.k < length c.args.findings.now = omega (arith, c.loop-k-test.true, c.requires) in
    let one : slice_get c.args.sections.now c.loop-k.k ≡ Some x = here_again c.args.sections.now c.loop-k.k x c.loop-k-test.true c.index-sections-k.is in
    rw (c.in_ok-push_section.ensures, c.loop-k.invariant) (sym (lines_at section_line c.args.sections.now c.args.findings.now c.loop-k.k x _ one lt))
