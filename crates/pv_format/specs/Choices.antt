-- Values of several cases: the first symbol names the case, and the words of what the case holds come after it.
use Rattle.std.specs.Prelude.{List}
use Rattle.std.specs.Option.{option_map}
use Rattle.std.specs.List.{AllByRecursion}
use Rattle.pv_format.specs.Formats.{Format, Front}
use Rattle.pv_format.specs.Reading.{made, by_case}
use Rattle.pv_format.specs.Cases.{AreCases}
use Rattle.pv_format.specs.ChoiceLaws

-- a case: what it holds, the value that is made of that, and its words
pub record Case (Words : Type 0 → Type 1) (A : Type 0) : Type 1 where
  pub Held : Type 0
  pub make : Held → A
  pub words : Words Held

-- one of several cases, at the front
abbrev pub choice : {S H A : Type 0} {P : S → Type 0} (key : Format P H) (cases : H → Case (Front P) A) (fits : A → Type 0) (spells : A → List S)
    → AreCases key.fits key.spells (λ h. (cases h).Held) (λ h. (cases h).make) (λ h. (cases h).words.fits) (λ h. (cases h).words.spells) fits spells → Front P A
choice key cases fits spells are = record {
  fits = fits;
  spells = spells;
  takes = by_case key.reads (λ h. made (cases h).make (cases h).words.takes);
  again = ChoiceLaws.choice_again key (λ h. (cases h).Held) (λ h. (cases h).make) (λ h. (cases h).words) fits spells are;
  back = ChoiceLaws.choice_back key (λ h. (cases h).Held) (λ h. (cases h).make) (λ h. (cases h).words) fits spells are;
  proper = ChoiceLaws.choice_proper key (λ h. (cases h).Held) (λ h. (cases h).make) (λ h. (cases h).words.fits) (λ h. (cases h).words.spells) (λ h. (cases h).words.proper) fits spells are;
}

-- one of several cases, up to the end
abbrev pub whole_choice : {S H A : Type 0} {P : S → Type 0} (key : Format P H) (cases : H → Case (Format (AllByRecursion P)) A) (fits : A → Type 0) (spells : A → List S)
    → AreCases key.fits key.spells (λ h. (cases h).Held) (λ h. (cases h).make) (λ h. (cases h).words.fits) (λ h. (cases h).words.spells) fits spells → Format (AllByRecursion P) A
whole_choice key cases fits spells are = record {
  fits = fits;
  spells = spells;
  reads = by_case key.reads (λ h text. option_map (cases h).make ((cases h).words.reads text));
  again = ChoiceLaws.whole_choice_again key (λ h. (cases h).Held) (λ h. (cases h).make) (λ h. (cases h).words) fits spells are;
  back = ChoiceLaws.whole_choice_back key (λ h. (cases h).Held) (λ h. (cases h).make) (λ h. (cases h).words) fits spells are;
  proper = ChoiceLaws.choice_proper key (λ h. (cases h).Held) (λ h. (cases h).make) (λ h. (cases h).words.fits) (λ h. (cases h).words.spells) (λ h. (cases h).words.proper) fits spells are;
}
