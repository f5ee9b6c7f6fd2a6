-- Formats: which values have a spelling, what that is, and how it is read. Each says that both ways agree.
use Rattle.std.specs.Prelude.{◌≡◌, List, ◌++◌, Option, Some}
use Rattle.std.specs.List.{AllByRecursion}

-- A value that is a whole text. What is spelled is read, and nothing else is; and each spelling is a proper text.
pub record Format {T : Type 0} (Proper : T → Type 0) (A : Type 0) : Type 1 where
  pub fits : A → Type 0
  pub spells : A → T
  pub reads : T → Option A
  pub again : (a : A) → fits a → reads (spells a) ≡ Some a
  pub back : (text : T) (a : A) → reads text ≡ Some a → fits a × (text ≡ spells a)
  pub proper : (a : A) → fits a → Proper (spells a)

-- A value at the front of a text of symbols. What is spelled is read, whatever comes after it, and nothing else is.
pub record Front {S : Type 0} (Proper : S → Type 0) (A : Type 0) : Type 1 where
  pub fits : A → Type 0
  pub spells : A → List S
  pub takes : List S → Option (A × List S)
  pub again : (a : A) (rest : List S) → fits a → takes (spells a ++ rest) ≡ Some (a, rest)
  pub back : (text : List S) (a : A) (rest : List S) → takes text ≡ Some (a, rest) → fits a × (text ≡ spells a ++ rest)
  pub proper : (a : A) → fits a → AllByRecursion Proper (spells a)
