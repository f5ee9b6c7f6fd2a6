-- The place of a method of a class, by its name and its descriptor. No two methods of a class have both in common (JVMS 4.6).
use Rattle.std.specs.Prelude.{◌≡◌, ℕ, List, Option, Some, None, slice_get}
use Rattle.pv_class.specs.declared.file.Method.{Method}

-- the method at this place has this name and this descriptor
abbrev pub IsNamedAt : List Method → List ℕ → List ℕ → ℕ → Type 0
IsNamedAt methods name desc place = (m : Method) × (slice_get methods place ≡ Some m) × (m.name ≡ name) × (m.desc ≡ desc)

-- the place of the method with this name and this descriptor, None where there is none
abbrev pub IsPlaceOf : List Method → List ℕ → List ℕ → Option ℕ → Type 0
IsPlaceOf methods name desc (Some place) = IsNamedAt methods name desc place
IsPlaceOf methods name desc None = (place : ℕ) → IsNamedAt methods name desc place → ⊥
