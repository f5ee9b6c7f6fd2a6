-- Methods of which `differs` is said end with different outcomes, and don't have the same meaning.
use Rattle.std.proofs.Common.{◌≡◌, ℕ, suc, ◌<◌, List, [], ◌∷◌, sym, subst}
use Rattle.std.specs.List.{AllByRecursion, Contains}
use Rattle.pv_base.specs.Stored.{AreBytes}
use Rattle.pv_pool.proofs.Cited.{IsBytes}
use Rattle.pv_value.specs.declared.outcome.Input.{Input}
use Rattle.pv_value.specs.Inputs.{Fits}
use Rattle.pv_value.specs.Worlds.{IsWorld}
use Rattle.pv_class.specs.declared.file.ClassFile.{ClassFile}
use Rattle.pv_class.specs.declared.file.Method.{Method}
use Rattle.pv_class.specs.ClassFiles.{IsClass}
use Rattle.pv_class.proofs.Cited.{HasBytes, class_bytes}
use Rattle.pv_machine.specs.Machine.{IsProgram}
use Rattle.pv_machine.specs.SameMeaning.{HaveSameMeaning}
use Rattle.pv_refute.specs.Tries.{try_world}
use Rattle.pv_refute.specs.Differences.{EndApart}
use Rattle.pv_refute.specs.Laws.{ApartInMeaning, TriesFit, TriesShow}
use Rattle.pv_report.specs.declared.verdict.Verdict.TheVariants.{Equivalent}
use Rattle.pv_report.specs.Partners.{IsPartner}
use Rattle.pv_report.specs.Verdicts.{IsVerdict}
use Rattle.pv_report.proofs.Cited.{all_at, by_index, least_meaning}
use Rattle.pv_differences.specs.declared.finding.RunLimits.{RunLimits}
use Rattle.pv_differences.specs.Findings.{CanRun, trial}
use Rattle.pv_differences.proofs.FindingOnce.{partner_once}
use Rattle.pv_differences.specs.Laws.{IsSaidToDiffer, DifferencesShow, NeverBoth}

-- the code of a method of a class file holds bytes
has_bytes : (bytes : List ℕ) (file : ClassFile) (m : Method) → AreBytes bytes → IsClass bytes file → Contains file.methods m → HasBytes m
has_bytes bytes file m fits is among = all_at HasBytes file.methods m (class_bytes bytes file (by_index bytes fits) is) among

bytes_all : (bytes : List ℕ) → IsBytes bytes → AllByRecursion (λ b. b < 256) bytes
bytes_all [] h = tt
bytes_all (b ∷ bytes) h = (h 0, bytes_all bytes (λ i. h (suc i)))

program_is : (file : ClassFile) (m : Method) (a : CanRun file m) → IsProgram file m a.program
program_is file m a = record { of_method = a.accepted.of_method; typed = a.accepted.typed }

pub differences_show : IsWorld try_world → TriesFit → TriesShow → ApartInMeaning → DifferencesShow
differences_show world fit show apart limits first second m input h =
    let p = h.finding.0 in
    let partner = h.finding.1 in
    let r = h.finding.2.0 in
    let found = h.finding.2.3 in
    let d = r.one.program.desc in
    let end = subst (EndApart first m second p try_world) (sym found.1) (show (trial limits r.one.program r.two.program) h.number found.0.differ first m second p (program_is first m r.one) (program_is second p r.two)) in
    let fits = subst (Fits d) (sym found.1) (fit d h.number r.one.accepted.of_method.floatless) in
    let bytes = has_bytes h.second_bytes second p h.second_are h.second_is partner.among in
    (p, partner, end, apart first m second p (λ code has. bytes_all code.bytes (bytes code has)) d r.one.accepted.of_method.desc try_world world input fits end)

-- `equivalent` would say that they have
pub never_both : DifferencesShow → NeverBoth
never_both show limits first second m input h options (q, partner, (l, least, (found, same))) =
    let shown = show limits first second m input h in
    let one = partner_once m second.methods q shown.0 h.second_is.describes.distinct partner shown.1 in
    let first_bytes = has_bytes h.first_bytes first m h.first_are h.first_is h.among in
    let second_bytes = has_bytes h.second_bytes second q h.second_are h.second_is partner.among in
    let equal = least_meaning first m second q l least same partner.like.desc first_bytes second_bytes in
    shown.3 (subst (HaveSameMeaning first m second) one equal.same)
