-- Tests of what items must pass.
use Rattle.std.specs.Prelude.{ℕ, zero, suc, Bool, true, false, List, [], ◌∷◌, length, Option, Some, None, ◌==◌, ◌&&◌, ◌||◌, if◌then◌else◌}
use Rattle.std.specs.Str.{bytes_eq}
use Rattle.pv_value.specs.declared.descriptor.JType.{JType}
use Rattle.pv_value.specs.Reading.{field_at}
use Rattle.pv_pool.specs.declared.entry.Entry.{Entry}
use Rattle.pv_pool.specs.declared.entry.Entry.TheVariants as entry
use Rattle.pv_class.specs.declared.signature.Signature.{Signature}

abbrev pub is_class : Option Entry → Bool
is_class (Some (entry.Class name)) = true
is_class e = false

-- a field type after which nothing stands
abbrev pub is_whole : Option (JType × List ℕ) → Bool
is_whole (Some (t, [])) = true
is_whole found = false

abbrev pub is_field_type : List ℕ → Bool
is_field_type text = is_whole (field_at text)

abbrev pub after_first : (List ℕ → Option (List ℕ)) → Option (JType × List ℕ) → Option (List ℕ)
after_first others (Some (t, rest)) = others rest
after_first others None = None

-- the bytes after fewer than n parameters and a )
unfoldable pub after_params : ℕ → List ℕ → Option (List ℕ)
after_params zero text = None
after_params (suc n) [] = None
after_params (suc n) (b ∷ rest) = if b == 41 then Some rest else after_first (after_params n) (field_at (b ∷ rest))

abbrev pub is_result : Option (List ℕ) → Bool
is_result (Some text) = bytes_eq text (86 ∷ []) || is_field_type text
is_result None = false

abbrev pub is_method_type : List ℕ → Bool
is_method_type [] = false
is_method_type (b ∷ body) = (b == 40) && is_result (after_params (length body) body)

abbrev pub alike : Signature → Signature → Bool
alike s t = bytes_eq s.name t.name && bytes_eq s.desc t.desc
