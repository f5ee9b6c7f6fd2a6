use Rattle.std.proofs.Common.{◌≡◌, [], ◌∷◌, ◌++◌, Some, None, sym, ap, ◌∙◌}
use Rattle.std.specs.Prelude.{find, option_copied}
use Rattle.pv_report.specs.Lines.{line_text}
use Rattle.pv_report.proofs.Cited.{here_again}
use Rattle.pv_links.specs.Findings.{is_like}
use Rattle.pv_links.specs.Lines.{link_line}
use Rattle.pv_links.specs.Made.{lemmas_by}
use Rattle.pv_links.proofs.Reported.{said_next, said_none}
use Rattle.pv_links.proofs.report.said_by.Goals as goal
use Rattle.pv_links.proofs.report.said_by.Goals.{in-Some+in_ok-finding+in_ok-push_link+in_ok-push, in_default}

pub loop-section-preserved : goal.loop-section-preserved
loop-section-preserved g c =
    let k = c.args.classes.now in
    let sections = c.args.sections.now in
    let others = c.args.others.now in
    let i = c.loop-section.section-index in
    let s = c.section-item.result in
    let at = here_again sections i s c.loop-section-test.true c.section-item.is in
    elim c.match-like_in.branch [
      | in-Some+in_ok-finding+in_ok-push_link+in_ok-push w ↦
          let like : find (is_like s) others ≡ Some w.in-Some.other.now = sym c.like_in.ensures ∙ ap option_copied w.in-Some.is in
          let more : c.match-like_in.findings.items ≡ c.loop-section.findings.items ++ w.in_ok-finding.finding ∷ [] = rw w.findings-is w.in_ok-push.ensures.items in
          let longer : c.match-like_in.text.items ≡ c.loop-section.text.items ++ line_text (link_line (s, w.in-Some.other.now) w.in_ok-finding.finding) = rw w.text-is w.in_ok-push_link.ensures in
          said_next (lemmas_by c.args.rules.now) k.first k.middle k.last sections others i s w.in-Some.other.now c.loop-section.findings.items c.match-like_in.findings.items w.in_ok-finding.finding c.loop-section.text.items c.match-like_in.text.items at like c.loop-section.invariant w.in_ok-finding.ensures more longer
      | in_default w ↦
          let none : find (is_like s) others ≡ None = sym c.like_in.ensures ∙ ap option_copied w.in_default.is in
          rw (w.findings-is, w.text-is) (said_none (lemmas_by c.args.rules.now) k.first k.middle k.last sections others i s c.loop-section.findings.items c.loop-section.text.items at none c.loop-section.invariant)
    ]
