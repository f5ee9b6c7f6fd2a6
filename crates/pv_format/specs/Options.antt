-- What an option was made of.
use Rattle.std.proofs.Common.{◌≡◌, Bool, true, false, cond, Option, Some, None, refl, ◌⊎◌, inl, inr}
use Rattle.std.specs.Option.{option_map, option_and_then}

pub some_is : {X : Type 0} (o : Option X) (a b : X) → o ≡ Some a → o ≡ Some b → a ≡ b
some_is o a b p q = cc

pub mapped : {X A : Type 0} (o : Option X) (f : X → A) (a : A) → option_map f o ≡ Some a → (x : X) × (o ≡ Some x) × (f x ≡ a)
mapped None f a e = absurd (cc)
mapped (Some x) f a e = (x, refl, cc)

pub found : {A B : Type 0} (o : Option A) (f : A → Option B) (b : B) → option_and_then f o ≡ Some b → (a : A) × (o ≡ Some a) × (f a ≡ Some b)
found None f b e = absurd (cc)
found (Some a) f b e = (a, refl, e)

-- which way a choice went
pub chosen : {X : Type 0} (b : Bool) (x y : Option X) (z : X) → cond b x y ≡ Some z → ((b ≡ true) × (x ≡ Some z)) ⊎ ((b ≡ false) × (y ≡ Some z))
chosen true x y z e = inl (refl, e)
chosen false x y z e = inr (refl, e)

pub passed : {X : Type 0} (b : Bool) (x : Option X) (z : X) → cond b x None ≡ Some z → (b ≡ true) × (x ≡ Some z)
passed true x z e = (refl, e)
passed false x z e = absurd (cc)
