-- The words of the lines on differences: no line feed is in them, and no line ends with ` equivalent`.
use Rattle.std.proofs.Common.{◌≡◌, ℕ, ℤ, pos, negsuc, suc, true, List, [], ◌∷◌, ◌++◌, inl, inr, refl, arith}
use Rattle.std.specs.Prelude.{codes, decimal, map}
use Rattle.std.specs.Fmt.{signed_decimal}
use Rattle.std.specs.List.{AllByRecursion}
use Rattle.pv_value.specs.declared.number.Num.{Num}
use Rattle.pv_value.specs.declared.number.Num.TheVariants.{Int, Long, Ref}
use Rattle.pv_class.specs.declared.file.Method.{Method}
use Rattle.pv_report.specs.declared.verdict.Verdict.{Verdict}
use Rattle.pv_report.specs.declared.verdict.Verdict.TheVariants as verdict
use Rattle.pv_report.specs.Lines.{verdict_words}
use Rattle.pv_report.proofs.Cited.{AreOther, IsOther, Lacks, known, method_other, number_other, other_parts, side_other, verdict_other, whole_method}
use Rattle.pv_differences.specs.declared.finding.Finding.{Finding}
use Rattle.pv_differences.specs.declared.finding.Finding.TheVariants as finding
use Rattle.pv_differences.specs.Lines.{argument_word, finding_words, line_of}

-- a number after a byte that is neither a blank, nor a line feed, nor the first of `equivalent`
marked : (b n : ℕ) → (b ≡ 32 → ⊥) → (b ≡ 10 → ⊥) → (b ≡ 101 → ⊥) → IsOther (b ∷ decimal n)
marked b n blank feed first = record {
  part = record { blank = (blank, (number_other n).part.blank); feed = (feed, (number_other n).part.feed) };
  other = λ e. let same : b ≡ 101 = cc e in first same;
}

negative : (n : ℕ) → IsOther (45 ∷ decimal n)
negative n = marked 45 n (λ e. omega (arith, e)) (λ e. omega (arith, e)) (λ e. omega (arith, e))

argument_other : (n : Num) → IsOther (argument_word n)
argument_other (Int (pos n)) = number_other n
argument_other (Int (negsuc n)) = negative (suc n)
argument_other (Long (pos n)) = number_other n
argument_other (Long (negsuc n)) = negative (suc n)
argument_other (Ref r) = marked 64 r (λ e. omega (arith, e)) (λ e. omega (arith, e)) (λ e. omega (arith, e))

arguments_other : (args : List Num) → AllByRecursion IsOther (map argument_word args)
arguments_other [] = tt
arguments_other (n ∷ args) = (argument_other n, arguments_other args)

pub finding_other : (f : Finding) → AreOther (finding_words f)
finding_other finding.Missing = (known (codes "missing") refl, tt)
finding_other (finding.NoCode s) = (known (codes "nocode") refl, (side_other s, tt))
finding_other (finding.Refused s cause) =
    elim (verdict_other (verdict.Refused s cause)) [
      | inl e ↦ absurd (cc e)
      | inr all ↦ all
    ]
finding_other (finding.Calls s) = (known (codes "calls") refl, (side_other s, tt))
finding_other (finding.Differs t input) = (known (codes "differs") refl, (known (codes "try") refl, (number_other t, (known (codes "args") refl, arguments_other input.args))))
finding_other (finding.Tried n) = (known (codes "tried") refl, (number_other n, tt))

pub whole_finding : (m : Method) (f : Finding) → Lacks 10 (line_of m f)
whole_finding m f = whole_method m.name m.desc (finding_words f) (other_parts (finding_words f) (finding_other f))

pub no_equivalent : (m : Method) (f : Finding) (front : List ℕ) → line_of m f ≡ front ++ codes " equivalent" → ⊥
no_equivalent m f front e = method_other m.name m.desc (finding_words f) front (finding_other f) e
