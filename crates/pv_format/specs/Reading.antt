-- How the parts of a text are read one after the other.
use Rattle.std.specs.Prelude.{◌≡◌, ℕ, Bool, true, ◌&&◌, if◌then◌else◌, List, [], ◌∷◌, find, Option, Some, None}
use Rattle.std.specs.Str.{bytes_eq}
use Rattle.std.specs.Option.{option_map, option_and_then}

-- one symbol, and the rest of the text
abbrev pub take_one : {S A : Type 0} → (S → Option A) → List S → Option (A × List S)
take_one reads [] = None
take_one reads (s ∷ text) = option_map (λ a. (a, text)) (reads s)

-- one after the other, and the rest of the text
abbrev pub take_pair : {S A B : Type 0} → (List S → Option (A × List S)) → (List S → Option (B × List S)) → List S → Option ((A × B) × List S)
take_pair first second text = option_and_then (λ a. option_map (λ b. ((a.0, b.0), b.1)) (second a.1)) (first text)

-- one, and then the rest of the text
abbrev pub read_follow : {S A B : Type 0} → (List S → Option (A × List S)) → (List S → Option B) → List S → Option (A × B)
read_follow first second text = option_and_then (λ a. option_map (λ b. (a.0, b)) (second a.1)) (first text)

-- nothing comes after it
abbrev pub at_end : {S A : Type 0} → A × List S → Option A
at_end (a, []) = Some a
at_end (a, s ∷ rest) = None

-- a list, of which each symbol is one member
abbrev pub read_each : {S A : Type 0} → (S → Option A) → List S → Option (List A)
read_each read [] = Some []
read_each read (s ∷ text) = option_and_then (λ a. option_map (λ more. a ∷ more) (read_each read text)) (read s)

-- a list, of which two symbols each are one member
abbrev pub read_pairs : {S A : Type 0} → (S → Option A) → List S → Option (List (A × A))
read_pairs read [] = Some []
read_pairs read (s ∷ []) = None
read_pairs read (s ∷ t ∷ text) = option_and_then (λ a. option_and_then (λ b. option_map (λ more. (a, b) ∷ more) (read_pairs read text)) (read t)) (read s)

-- a list that has a member
abbrev pub some_of : {A : Type 0} → List A → Option (List A)
some_of [] = None
some_of (a ∷ list) = Some (a ∷ list)

-- what is made of what stands at the front
abbrev pub made : {S X A : Type 0} → (X → A) → (List S → Option (X × List S)) → List S → Option (A × List S)
made make takes text = option_map (λ p. (make p.0, p.1)) (takes text)

-- what the first symbol says how to read
abbrev pub by_case : {S H B : Type 0} → (S → Option H) → (H → List S → Option B) → List S → Option B
by_case key case text = option_and_then (λ p. case p.0 p.1) (take_one key text)

-- what a text means, where that passes the test and is spelled so
abbrev pub read_canonical : {A : Type 0} → (A → Bool) → (A → List ℕ) → (List ℕ → A) → List ℕ → Option A
read_canonical test spells means text = if test (means text) && bytes_eq (spells (means text)) text then Some (means text) else None

pub record IsCanonical {A : Type 0} (P : List ℕ → Type 0) (fits : A → Type 0) (test : A → Bool) (spells : A → List ℕ) (means : List ℕ → A) : Type 0 where
  pub passes : (a : A) → fits a → test a ≡ true
  pub passed : (a : A) → test a ≡ true → fits a
  pub meant : (a : A) → fits a → means (spells a) ≡ a
  pub proper : (a : A) → fits a → P (spells a)

-- the member of a list that has this name
abbrev pub find_named : {A : Type 0} → (A → List ℕ) → List A → List ℕ → Option A
find_named name all word = find (λ a. bytes_eq (name a) word) all

-- what stands for one value, and for another
abbrev pub read_both : {S T A B : Type 0} → (S → Option A) → (T → Option B) → S × T → Option (A × B)
read_both first second p = option_and_then (λ a. option_map (λ b. (a, b)) (second p.1)) (first p.0)

-- nothing to say beside that a text is this one
abbrev pub read_constant : List ℕ → List ℕ → Option (Unit {0})
read_constant text t = if bytes_eq t text then Some tt else None
