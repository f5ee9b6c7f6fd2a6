-- Options that have a value.
use Rattle.std.proofs.Common.{◌≡◌, Option, Some, None, refl}
use Rattle.pv_runs.proofs.Words.{option_map, ◌>>=◌, some_of}

-- from where the value comes
pub mapped : {A B : Type 0} (f : A → B) (o : Option A) (b : B) → option_map f o ≡ Some b → (a : A) × (o ≡ Some a) × (f a ≡ b)
mapped f None b e = absurd (cc)
mapped f (Some a) b e = (a, refl, some_of (f a) b e)

pub bound : {A B : Type 0} (o : Option A) (k : A → Option B) (b : B) → (o >>= k) ≡ Some b → (a : A) × (o ≡ Some a) × (k a ≡ Some b)
bound None k b e = absurd (cc)
bound (Some a) k b e = (a, refl, e)
