-- What is said of two files that were fetched.
use Rattle.std.proofs.Common.{◌≡◌, ℕ, List, Ok, Err, sym, subst}
use Rattle.std.specs.List.{AllZip, flat_map}
use Rattle.pv_report.specs.declared.pair.Fetched.{Fetched}
use Rattle.pv_report.specs.declared.pair.Pair.{Pair}
use Rattle.pv_report.specs.declared.pair.BadClass.{BadClass}
use Rattle.pv_report.specs.declared.status.Status.{Status}
use Rattle.pv_report.specs.declared.status.Status.TheVariants as status
use Rattle.pv_report.specs.Judging.{ReadsPair}
use Rattle.pv_report.specs.Lines.{bad_class, line_text}
use Rattle.pv_report.specs.Listed.{lines_by}
use Rattle.pv_report.proofs.Cited.{bad_pair}
use Rattle.pv_differences.specs.declared.finding.Finding.{Finding}
use Rattle.pv_differences.specs.declared.finding.RunLimits.{RunLimits}
use Rattle.pv_differences.specs.Findings.{IsFinding}
use Rattle.pv_differences.specs.Lines.{line_of}
use Rattle.pv_differences.specs.Reading.{RefutesFetched}
use Rattle.pv_differences.specs.Refuted.{IsReport, IsStatusOf, Refuted}

-- one of the files has no reading
pub bad_file : (limits : RunLimits) (first second : Fetched) (bad : BadClass) (text : List ℕ) (s : Status) → ReadsPair first second (Err bad) → text ≡ bad_class bad.side bad.fault → s ≡ status.BadClass → RefutesFetched limits first second text s
bad_file limits first second bad text s read e is a b p q = subst (λ (x : Status). Refuted limits a b text x) (sym is) (bad_pair a b bad.side bad.fault text (read a b p q) e)

refuted_by : (limits : RunLimits) (a b text : List ℕ) (findings : List Finding) (s : Status) → IsReport limits a b findings text → IsStatusOf findings s → Refuted limits a b text s
refuted_by limits a b text findings status.AllEquivalent r is = (findings, r, is)
refuted_by limits a b text findings status.Others r is = (findings, r, is)
refuted_by limits a b text findings _ r is = absurd is

-- both have one, and this is found of the methods
pub refutes : (limits : RunLimits) (first second : Fetched) (pair : Pair) (findings : List Finding) (text : List ℕ) (s : Status) → ReadsPair first second (Ok pair) → AllZip (IsFinding limits pair.first pair.second) pair.first.methods findings
    → text ≡ flat_map line_text (lines_by line_of pair.first.methods findings) → IsStatusOf findings s → RefutesFetched limits first second text s
refutes limits first second pair findings text s read each e is a b p q =
    let both = read a b p q in
    refuted_by limits a b text findings s (record { first = pair.first; second = pair.second; first_is = both.0; second_is = both.1; lines = record { each = each; text_is = e } }) is
