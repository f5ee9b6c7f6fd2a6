-- When cases are those of a type.
use Rattle.std.specs.Prelude.{◌≡◌, List, ◌∷◌}

-- Each value is that of one case. It is spelled by the name of the case and the words of what the case holds, and it has a spelling where these have one.
pub record AreCases {S H A : Type 0} (named : H → Type 0) (name : H → S) (Held : H → Type 0) (make : (h : H) → Held h → A) (holds : (h : H) → Held h → Type 0) (words : (h : H) → Held h → List S) (fits : A → Type 0) (spells : A → List S) : Type 0 where
  pub each : (a : A) → (h : H) × (x : Held h) × (make h x ≡ a)
  pub known : (h : H) → named h
  pub spelled : (h : H) (x : Held h) → spells (make h x) ≡ name h ∷ words h x
  pub fitting : (h : H) (x : Held h) → fits (make h x) → holds h x
  pub fitted : (h : H) (x : Held h) → holds h x → fits (make h x)
