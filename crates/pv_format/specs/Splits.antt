-- Texts cut at a separator: a line at its blanks, a text at its line feeds.
use Rattle.std.specs.Prelude.{◌≡◌, ◌≢◌, ◌==◌, ℕ, Bool, true, false, List, [], ◌∷◌, ◌++◌, Option, Some, None, if◌then◌else◌}
use Rattle.std.specs.Option.{option_map}
use Rattle.std.specs.List.{AllByRecursion, flat_map}

-- parts, with a symbol between two of them
abbrev pub join : {S : Type 0} → S → List (List S) → List S
join s [] = []
join s (part ∷ []) = part
join s (part ∷ next ∷ parts) = part ++ s ∷ join s (next ∷ parts)

-- a symbol that stands between parts, and its test
pub record Separator (S : Type 0) : Type 0 where
  pub symbol : S
  pub is : S → Bool
  pub here : is symbol ≡ true
  pub only : (s : S) → is s ≡ true → s ≡ symbol

-- at least one part, and the separator stands in none
pub record AreParts {S : Type 0} (sep : Separator S) (parts : List (List S)) : Type 0 where
  pub some : parts ≢ []
  pub apart : AllByRecursion (λ part. AllByRecursion (λ s. sep.is s ≡ false) part) parts

-- what stands before the first separator, and after it
abbrev pub cut : {S : Type 0} → (S → Bool) → List S → Option (List S × List S)
cut is [] = None
cut is (s ∷ text) = if is s then Some ([], text) else option_map (λ p. (s ∷ p.0, p.1)) (cut is text)

-- lines, each of which ends with a line feed
abbrev pub text_of : List (List ℕ) → List ℕ
text_of lines = flat_map (λ line. line ++ 10 ∷ []) lines

abbrev pub is_blank : ℕ → Bool
is_blank b = b == 32

abbrev pub is_feed : ℕ → Bool
is_feed b = b == 10

-- what stands before the last byte, if that is a line feed
abbrev pub body_of : List ℕ → Option (List ℕ)
body_of [] = None
body_of (b ∷ []) = if b == 10 then Some [] else None
body_of (b ∷ c ∷ text) = option_map (λ body. b ∷ body) (body_of (c ∷ text))
