-- A value of the result's type.
use Rattle.std.proofs.Common.{◌≡◌, ◌≢◌, Option, Some, None, refl, []}
use Rattle.pv_build.proofs.Words.{JType, R, sort_over, Over, NoExp, none_of, default_of, default_sort}
use Rattle.pv_value.specs.declared.descriptor.JType.TheVariants as jtype

pub none_is : (r : Option JType) → none_of r ≡ Over (default_of r) NoExp
none_is None = refl
none_is (Some jtype.Z) = refl
none_is (Some jtype.B) = refl
none_is (Some jtype.C) = refl
none_is (Some jtype.S) = refl
none_is (Some jtype.I) = refl
none_is (Some jtype.J) = refl
none_is (Some jtype.F) = refl
none_is (Some jtype.D) = refl
none_is (Some jtype.A) = refl

pub default_has : (r : Option JType) → sort_over (default_of r) [] ≡ Some (default_sort r)
default_has None = refl
default_has (Some jtype.Z) = refl
default_has (Some jtype.B) = refl
default_has (Some jtype.C) = refl
default_has (Some jtype.S) = refl
default_has (Some jtype.I) = refl
default_has (Some jtype.J) = refl
default_has (Some jtype.F) = refl
default_has (Some jtype.D) = refl
default_has (Some jtype.A) = refl

pub default_value : (r : Option JType) → default_sort r ≢ R
default_value None e = absurd (cc)
default_value (Some jtype.Z) e = absurd (cc)
default_value (Some jtype.B) e = absurd (cc)
default_value (Some jtype.C) e = absurd (cc)
default_value (Some jtype.S) e = absurd (cc)
default_value (Some jtype.I) e = absurd (cc)
default_value (Some jtype.J) e = absurd (cc)
default_value (Some jtype.F) e = absurd (cc)
default_value (Some jtype.D) e = absurd (cc)
default_value (Some jtype.A) e = absurd (cc)
