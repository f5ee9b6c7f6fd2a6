-- Words, and lines of words.
use Rattle.std.specs.Prelude.{◌≡◌, ◌≢◌, ℕ, Bool, true, false, nat_lt, List, [], ◌∷◌}
use Rattle.std.specs.List.{flat_map, AllByRecursion, list_all}
use Rattle.pv_format.specs.Formats.{Format, Front}
use Rattle.pv_format.specs.Splits.{is_feed}

-- no byte up to the blank
abbrev pub is_word : List ℕ → Bool
is_word word = list_all (λ b. nat_lt 32 b) word

abbrev pub IsWord : List ℕ → Type 0
IsWord word = is_word word ≡ true

abbrev pub AreWords : List (List ℕ) → Type 0
AreWords words = AllByRecursion IsWord words

abbrev pub AreSomeWords : List (List ℕ) → Type 0
AreSomeWords words = (words ≢ []) × AreWords words

-- no line feed
abbrev pub NoFeed : List ℕ → Type 0
NoFeed line = AllByRecursion (λ b. is_feed b ≡ false) line

-- one word
abbrev pub Token : Type 0 → Type 1
Token A = Format IsWord A

-- words at the front of a line
abbrev pub Phrase : Type 0 → Type 1
Phrase A = Front IsWord A

-- all words of a line
abbrev pub Sentence : Type 0 → Type 1
Sentence A = Format AreWords A

-- words, each after a blank
abbrev pub spaced : List (List ℕ) → List ℕ
spaced words = flat_map (λ word. 32 ∷ word) words
