-- Words of a command with one option, `--rounds`, and two arguments, and of one that has the flag `--counted` too; and that words give
-- one thing at most.
use Rattle.std.specs.Prelude.{◌≡◌, Bool, true, false, List, [], ◌∷◌, Option, Some, None, codes}
use Rattle.pv_words.specs.Words.{AreNames, Command, Give, Text}

abbrev pub rounds_of_two : Command
rounds_of_two = record {
  flags = [];
  names = codes "rounds" ∷ [];
  count = 2;
}

abbrev pub GiveNothing : Command → List Text → Type 0
GiveNothing c words = (flags : List Bool) (options : List (Option Text)) (arguments : List Text) → Give c words flags options arguments → ⊥

abbrev pub three_of_two : List (Option Text)
three_of_two = Some (codes "3") ∷ []

abbrev pub two_names : List Text
two_names = codes "A" ∷ codes "B" ∷ []

-- `--rounds 3 A B`
abbrev pub TakesValueApart : Type 0
TakesValueApart = Give rounds_of_two (codes "--rounds" ∷ codes "3" ∷ two_names) [] three_of_two two_names

-- `A --rounds=3 B`
abbrev pub TakesValueJoined : Type 0
TakesValueJoined = Give rounds_of_two (codes "A" ∷ codes "--rounds=3" ∷ codes "B" ∷ []) [] three_of_two two_names

-- `-- -a --`
abbrev pub EndsOptions : Type 0
EndsOptions = Give rounds_of_two (codes "--" ∷ codes "-a" ∷ codes "--" ∷ []) [] (None ∷ []) (codes "-a" ∷ codes "--" ∷ [])

-- `--rounds -1 A B`
abbrev pub RefusesDash : Type 0
RefusesDash = GiveNothing rounds_of_two (codes "--rounds" ∷ codes "-1" ∷ two_names)

-- `--rounds -- A B`
abbrev pub RefusesEnd : Type 0
RefusesEnd = GiveNothing rounds_of_two (codes "--rounds" ∷ codes "--" ∷ two_names)

-- `--rounds 3 A B --rounds=4`
abbrev pub RefusesTwice : Type 0
RefusesTwice = GiveNothing rounds_of_two (codes "--rounds" ∷ codes "3" ∷ codes "A" ∷ codes "B" ∷ codes "--rounds=4" ∷ [])

-- `--help`, and `--round 3 A B`
abbrev pub RefusesUnknown : Type 0
RefusesUnknown = GiveNothing rounds_of_two (codes "--help" ∷ []) × GiveNothing rounds_of_two (codes "--round" ∷ codes "3" ∷ two_names)

abbrev pub counted_of_two : Command
counted_of_two = record {
  flags = codes "counted" ∷ [];
  names = codes "rounds" ∷ [];
  count = 2;
}

-- `--counted A B`, and `A --counted B`
abbrev pub TakesFlag : Type 0
TakesFlag = Give counted_of_two (codes "--counted" ∷ two_names) (true ∷ []) (None ∷ []) two_names
    × Give counted_of_two (codes "A" ∷ codes "--counted" ∷ codes "B" ∷ []) (true ∷ []) (None ∷ []) two_names

-- `-- --counted B`
abbrev pub EndsFlags : Type 0
EndsFlags = Give counted_of_two (codes "--" ∷ codes "--counted" ∷ codes "B" ∷ []) (false ∷ []) (None ∷ []) (codes "--counted" ∷ codes "B" ∷ [])

-- `--counted=1 A B`
abbrev pub RefusesFlagValue : Type 0
RefusesFlagValue = GiveNothing counted_of_two (codes "--counted=1" ∷ two_names)

-- `--counted --counted A B`
abbrev pub RefusesFlagTwice : Type 0
RefusesFlagTwice = GiveNothing counted_of_two (codes "--counted" ∷ codes "--counted" ∷ two_names)

-- `--rounds --counted A B`
abbrev pub RefusesFlagAsValue : Type 0
RefusesFlagAsValue = GiveNothing counted_of_two (codes "--rounds" ∷ codes "--counted" ∷ two_names)

-- what words give is one
abbrev pub IsOne : Type 0
IsOne = (c : Command) → AreNames c → (words : List Text) (bs ds : List Bool) (os ps : List (Option Text)) (xs ys : List Text) → Give c words bs os xs → Give c words ds ps ys → (bs ≡ ds) × (os ≡ ps) × (xs ≡ ys)
