-- What is found of some methods of the first class, and how pieces of that are put together.
use Rattle.std.specs.Prelude.{◌≡◌, ◌<◌, ℕ, List, Result, IfOk, length, slice_index_or}
use Rattle.std.specs.List.{AllZip}
use Rattle.pv_class.specs.declared.file.Method.{Method}
use Rattle.pv_report.specs.declared.judged.Judgements.{Judgements}
use Rattle.pv_report.specs.declared.pair.Pair.{Pair}
use Rattle.pv_report.specs.declared.verdict.Means.{Means}
use Rattle.pv_report.specs.declared.verdict.Detail.TheVariants as detail
use Rattle.pv_report.specs.Options.{options_of}
use Rattle.pv_report.specs.Shown.{IsSectionOf, equivalent_of}
use Rattle.pv_report.specs.Verdicts.{IsVerdict}

-- the verdict on each of these methods, and, where steps are wanted, a section of each that is equivalent, in their order
pub record AreJudged (means : Means) (pair : Pair) (methods : List Method) (found : Judgements) : Type 0 where
  pub verdicts : AllZip (IsVerdict (options_of means.limits means.detail) pair.first pair.second) methods found.verdicts.items
  pub sections : means.detail ≡ detail.Steps → AllZip (IsSectionOf pair.first pair.second) (equivalent_of methods found.verdicts.items) found.sections.items

-- each part that isn't out of memory is what is found of the methods of its number
abbrev pub AreParts : {E : Type 0} → Means → Pair → (ℕ → List Method) → List (Result Judgements E) → Type 0
AreParts means pair methods parts = (k : ℕ) (d : _) → k < length parts → IfOk (slice_index_or parts k d) (AreJudged means pair (methods k))
