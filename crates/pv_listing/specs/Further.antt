-- Further formats made of formats: values that pass a test, values of a larger type, cases of which not each name is one, lists of pairs.
use Rattle.std.specs.Prelude.{List, [], ◌∷◌}
use Rattle.std.specs.Option.{option_map, option_and_then}
use Rattle.std.specs.List.{flat_map, AllByRecursion}
use Rattle.pv_format.specs.Formats.{Format}
use Rattle.pv_format.specs.Grammars.{Test}
use Rattle.pv_format.specs.Reading.{by_case}
use Rattle.pv_format.specs.Choices.{Case}
use Rattle.pv_listing.specs.Cases.{AreCases, ArePart, passes, read_twos}
use Rattle.pv_listing.specs.FurtherLaws

-- the spellings of those values that pass a test
abbrev pub passing : {T A : Type 0} {P : T → Type 0} (test : A → Test) → Format P A → Format P A
passing test w = record {
  fits = λ a. w.fits a × (test a).Holds;
  spells = w.spells;
  reads = λ text. option_and_then (passes test) (w.reads text);
  again = FurtherLaws.passing_again test w;
  back = FurtherLaws.passing_back test w;
  proper = λ a fits. w.proper a fits.0;
}

-- the values of a larger type that are made of these
abbrev pub part : {T X A : Type 0} {P : T → Type 0} (make : X → A) (w : Format P X) (fits : A → Type 0) (spells : A → T) → ArePart make w.fits w.spells fits spells → Format P A
part make w fits spells are = record {
  fits = fits;
  spells = spells;
  reads = λ text. option_map make (w.reads text);
  again = FurtherLaws.part_again make w fits spells are;
  back = FurtherLaws.part_back make w fits spells are;
  proper = FurtherLaws.part_proper make w fits spells are;
}

-- one of several cases, where the first symbol is the name of one
abbrev pub keyed : {S H A : Type 0} {P : S → Type 0} (key : Format P H) (cases : H → Case (Format (AllByRecursion P)) A) (fits : A → Type 0) (spells : A → List S)
    → AreCases key.fits key.spells (λ h. (cases h).Held) (λ h. (cases h).make) (λ h. (cases h).words.fits) (λ h. (cases h).words.spells) fits spells → Format (AllByRecursion P) A
keyed key cases fits spells are = record {
  fits = fits;
  spells = spells;
  reads = by_case key.reads (λ h text. option_map (cases h).make ((cases h).words.reads text));
  again = FurtherLaws.keyed_again key (λ h. (cases h).Held) (λ h. (cases h).make) (λ h. (cases h).words) fits spells are;
  back = FurtherLaws.keyed_back key (λ h. (cases h).Held) (λ h. (cases h).make) (λ h. (cases h).words) fits spells are;
  proper = FurtherLaws.keyed_proper key (λ h. (cases h).Held) (λ h. (cases h).make) (λ h. (cases h).words) fits spells are;
}

-- a list, of which two symbols each are one pair
abbrev pub each_two : {T A B : Type 0} {P : T → Type 0} → Format P A → Format P B → Format (AllByRecursion P) (List (A × B))
each_two f g = record {
  fits = AllByRecursion (λ p. f.fits p.0 × g.fits p.1);
  spells = flat_map (λ p. f.spells p.0 ∷ g.spells p.1 ∷ []);
  reads = read_twos f.reads g.reads;
  again = FurtherLaws.twos_again f g;
  back = FurtherLaws.twos_back f g;
  proper = FurtherLaws.twos_proper f g;
}
