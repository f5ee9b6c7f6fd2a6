-- Laws of the report on differences.
use Rattle.std.specs.Prelude.{◌≡◌, ℕ, List}
use Rattle.std.specs.List.{Contains}
use Rattle.pv_base.specs.Stored.{AreBytes}
use Rattle.pv_value.specs.declared.outcome.Input.{Input}
use Rattle.pv_class.specs.declared.file.ClassFile.{ClassFile}
use Rattle.pv_class.specs.declared.file.Method.{Method}
use Rattle.pv_class.specs.ClassFiles.{IsClass}
use Rattle.pv_machine.specs.SameMeaning.{HaveSameMeaning}
use Rattle.pv_report.specs.Options.{Options}
use Rattle.pv_refute.specs.Tries.{try_world}
use Rattle.pv_refute.specs.Differences.{EndApart}
use Rattle.pv_report.specs.declared.status.Status.{Status}
use Rattle.pv_report.specs.declared.verdict.Verdict.TheVariants.{Equivalent}
use Rattle.pv_report.specs.Partners.{IsPartner}
use Rattle.pv_report.specs.Verdicts.{IsVerdict}
use Rattle.pv_differences.specs.declared.finding.Finding.TheVariants.{Differs}
use Rattle.pv_differences.specs.declared.finding.RunLimits.{RunLimits}
use Rattle.pv_differences.specs.Findings.{IsFinding}
use Rattle.pv_differences.specs.Refuted.{Refuted}

-- `differs` is said of a method of the first of two class files, with this input
pub record IsSaidToDiffer (limits : RunLimits) (first second : ClassFile) (m : Method) (input : Input) : Type 0 where
  pub first_bytes : List ℕ
  pub second_bytes : List ℕ
  pub first_are : AreBytes first_bytes
  pub second_are : AreBytes second_bytes
  pub first_is : IsClass first_bytes first
  pub second_is : IsClass second_bytes second
  pub among : Contains first.methods m
  pub number : ℕ
  pub finding : IsFinding limits first second m (Differs number input)

-- then it and its partner end with different outcomes in the world of the tries on that input, and don't have the same meaning
abbrev pub DifferencesShow : Type 0
DifferencesShow =
    (limits : RunLimits) (first second : ClassFile) (m : Method) (input : Input) → IsSaidToDiffer limits first second m input →
    (p : Method) × IsPartner m second.methods p × EndApart first m second p try_world input × (HaveSameMeaning first m second p → ⊥)

-- .. and no report says `equivalent` of it, with whatever options
abbrev pub NeverBoth : Type 0
NeverBoth = (limits : RunLimits) (first second : ClassFile) (m : Method) (input : Input) → IsSaidToDiffer limits first second m input → (options : Options) → IsVerdict options first second m Equivalent → ⊥

-- of the bytes of two files one text is said, with one status
abbrev pub RefutedOnce : Type 0
RefutedOnce = (limits : RunLimits) (a b t u : List ℕ) (r s : Status) → AreBytes a → AreBytes b → Refuted limits a b t r → Refuted limits a b u s → (t ≡ u) × (r ≡ s)
