-- The lines of a report on differences: words, with a blank between two of them.
use Rattle.std.specs.Prelude.{ℕ, List, [], ◌∷◌, map, codes, decimal}
use Rattle.std.specs.Fmt.{signed_decimal}
use Rattle.pv_value.specs.declared.number.Num.{Num}
use Rattle.pv_value.specs.declared.number.Num.TheVariants.{Int, Long, Ref}
use Rattle.pv_class.specs.declared.file.Method.{Method}
use Rattle.pv_report.specs.declared.verdict.Verdict.TheVariants as verdict
use Rattle.pv_report.specs.Lines.{method_line, side_word, verdict_words}
use Rattle.pv_differences.specs.declared.finding.Finding.{Finding}
use Rattle.pv_differences.specs.declared.finding.Finding.TheVariants.{Missing, NoCode, Refused, Calls, Differs, Tried}

-- an argument: a number in decimal, a reference after an @
abbrev pub argument_word : Num → List ℕ
argument_word (Int n) = signed_decimal n
argument_word (Long n) = signed_decimal n
argument_word (Ref r) = 64 ∷ decimal r

abbrev pub finding_words : Finding → List (List ℕ)
finding_words Missing = verdict_words verdict.Missing
finding_words (NoCode s) = verdict_words (verdict.NoCode s)
finding_words (Refused s cause) = verdict_words (verdict.Refused s cause)
finding_words (Calls s) = codes "calls" ∷ side_word s ∷ []
finding_words (Differs t input) = codes "differs" ∷ codes "try" ∷ decimal t ∷ codes "args" ∷ map argument_word input.args
finding_words (Tried n) = codes "tried" ∷ decimal n ∷ []

-- what is said of a method, without the line feed
abbrev pub line_of : Method → Finding → List ℕ
line_of m f = method_line m.name m.desc (finding_words f)
