-- What a reader of descriptors tells.
use Rattle.std.proofs.Common.{◌≡◌, ◌↔◌, Bool, true, false, Option, Some, None, is_some, refl, sym}
use Rattle.std.specs.Prelude.{MatchOption}

-- a test that tells whether there is one tells whether it is found
pub tells_found : {A : Type 0} (b : Bool) (P : A → Type 0) (o : Option A) → (b ≡ true) ↔ ((a : A) × P a) → MatchOption o ((a : A) → P a → ⊥) (λ a. P a) → is_some o ≡ b
tells_found b P (Some a) law h = sym (law.1 (a, h))
tells_found true P None law h = let a = law.0 refl in absurd (h a.0 a.1)
tells_found false P None law h = refl
