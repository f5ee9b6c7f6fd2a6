-- Operands by their sorts; private to this crate.
use Rattle.std.specs.Prelude.{Bool, true, false, ◌&&◌, List, [], ◌∷◌}
use Rattle.pv_value.specs.declared.number.Num.{Num}
use Rattle.pv_frame.specs.declared.sort.Sort.{Sort}
use Rattle.pv_frame.specs.Stacks.{fits}
use Rattle.pv_frame.specs.Effects.{sort_of}

-- numbers of these sorts lie on a stack, the first on top
abbrev pub lie_on : List Sort → List Num → Bool
lie_on [] stack = true
lie_on (s ∷ sorts) [] = false
lie_on (s ∷ sorts) (n ∷ stack) = fits (sort_of n) s && lie_on sorts stack
