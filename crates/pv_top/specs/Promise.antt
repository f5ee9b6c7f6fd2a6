-- The promise: a line that says `equivalent` is true.
use Rattle.std.specs.Prelude.{◌≡◌, ◌⊎◌, ℕ, List, [], ◌∷◌, ◌++◌, Option, Some, None, codes}
use Rattle.std.specs.List.{Contains, AllByRecursion}
use Rattle.std.specs.FinMap.{get}
use Rattle.pv_base.specs.Stored.{Stored}
use Rattle.pv_class.specs.declared.file.Method.{Method}
use Rattle.pv_class.specs.declared.file.ClassFile.{ClassFile}
use Rattle.pv_class.specs.ClassFiles.{IsClass}
use Rattle.pv_machine.specs.SameMeaning.{AreEquivalentMethods}
use Rattle.pv_report.specs.declared.verdict.Verdict.TheVariants.{Equivalent}
use Rattle.pv_report.specs.Partners.{IsPartner}
use Rattle.pv_report.specs.Lines.{line_of}

-- the store, where what it holds is known, has these bytes under the name
abbrev pub Holds : Option Stored → List ℕ → List ℕ → Type 0
Holds None name bytes = Unit {0}
Holds (Some m) name bytes = get m name ≡ Some bytes

abbrev pub EndsLine : List ℕ → Type 0
EndsLine text = (text ≡ []) ⊎ ((line : List ℕ) × (text ≡ line ++ 10 ∷ []))

-- a whole line of a text, without its line feed
pub record IsLineOf (text line : List ℕ) : Type 0 where
  pub before : List ℕ
  pub after : List ℕ
  pub spelled : text ≡ before ++ (line ++ 10 ∷ after)
  pub starts : EndsLine before
  pub whole : AllByRecursion (λ b. b ≡ 10 → ⊥) line

abbrev pub EndsWith : List ℕ → List ℕ → Type 0
EndsWith line end = (front : List ℕ) × (line ≡ front ++ end)

-- the line says of a method of the first file that it is equivalent to its partner in the second, and so they are: each has a program, and the two have the same meaning
pub record HaveOneMeaning (held : Option Stored) (a b line : List ℕ) : Type 0 where
  pub first : List ℕ
  pub second : List ℕ
  pub first_held : Holds held a first
  pub second_held : Holds held b second
  pub first_file : ClassFile
  pub second_file : ClassFile
  pub first_is : IsClass first first_file
  pub second_is : IsClass second second_file
  pub method : Method
  pub among : Contains first_file.methods method
  pub partner : Method
  pub partner_is : IsPartner method second_file.methods partner
  pub says : line ≡ line_of method Equivalent
  pub equivalent : AreEquivalentMethods first_file method second_file partner

-- so it is for each whole line that says `equivalent` among the bytes that the sink took in this call
abbrev pub EachEquivalent : Option Stored → List ℕ → List ℕ → Option (List ℕ) → Option (List ℕ) → Type 0
EachEquivalent held a b old new = (before taken line : List ℕ) → old ≡ Some before → new ≡ Some (before ++ taken) → IsLineOf taken line → EndsWith line (codes " equivalent") → HaveOneMeaning held a b line
