-- When cases are those of a type, and how further formats read.
use Rattle.std.specs.Prelude.{◌≡◌, List, [], ◌∷◌, Option, Some, None, if◌then◌else◌}
use Rattle.std.specs.Option.{option_map, option_and_then}
use Rattle.pv_format.specs.Grammars.{Test}
use Rattle.pv_format.specs.Reading.{read_both}

-- a value that passes a test
abbrev pub passes : {A : Type 0} → (A → Test) → A → Option A
passes test a = if (test a).tells then Some a else None

-- a list, of which two symbols each are one pair
abbrev pub read_twos : {S A B : Type 0} → (S → Option A) → (S → Option B) → List S → Option (List (A × B))
read_twos first second [] = Some []
read_twos first second (s ∷ []) = None
read_twos first second (s ∷ t ∷ text) = option_and_then (λ p. option_map (λ more. p ∷ more) (read_twos first second text)) (read_both first second (s, t))

-- the values of a larger type that fit are made of those of a smaller one
pub record ArePart {T X A : Type 0} (make : X → A) (holds : X → Type 0) (words : X → T) (fits : A → Type 0) (spells : A → T) : Type 0 where
  pub each : (a : A) → fits a → (x : X) × (make x ≡ a) × holds x
  pub spelled : (x : X) → spells (make x) ≡ words x
  pub fitted : (x : X) → holds x → fits (make x)

-- Each value is that of one case. It is spelled by the name of the case and the words of what the case holds, and it has a spelling where both have one.
pub record AreCases {S H A : Type 0} (named : H → Type 0) (name : H → S) (Held : H → Type 0) (make : (h : H) → Held h → A) (holds : (h : H) → Held h → Type 0) (words : (h : H) → Held h → List S) (fits : A → Type 0) (spells : A → List S) : Type 0 where
  pub each : (a : A) → (h : H) × (x : Held h) × (make h x ≡ a)
  pub spelled : (h : H) (x : Held h) → spells (make h x) ≡ name h ∷ words h x
  pub fitting : (h : H) (x : Held h) → fits (make h x) → named h × holds h x
  pub fitted : (h : H) (x : Held h) → named h → holds h x → fits (make h x)
