-- What the actions of a program say of themselves, as those of a method's program do.
use Rattle.std.specs.Prelude.{◌≡◌, ℕ, [], ◌∷◌, Some, FitsSigned}
use Rattle.std.specs.Int.{w32}
use Rattle.pv_value.specs.declared.number.Num.TheVariants as num
use Rattle.pv_value.specs.declared.descriptor.Descriptor.{Descriptor}
use Rattle.pv_value.specs.Descriptors.{IsMethodType}
use Rattle.pv_value.specs.Receivers.{with_receiver}
use Rattle.pv_value.specs.Operations as operation
use Rattle.pv_value.specs.Spelled.{field_type}
use Rattle.pv_frame.specs.declared.action.Action.{Action}
use Rattle.pv_frame.specs.declared.action.Action.TheVariants as act
use Rattle.pv_frame.specs.declared.program.Program.{Program}
use Rattle.pv_frame.specs.Effects.{sorts_of_result, sorts_given}
use Rattle.pv_frame.specs.Programs.{IsAt}
use Rattle.pv_frame.specs.Actions.{IsFloatless}

-- what an action of a program says of itself: no int is pushed that is out of range, and no reference but null; a division has two operands
-- of the word of its value; a field is typed by its descriptor, and is neither a float nor a double; and a callee is typed by its descriptor,
-- where a receiver is the first parameter
abbrev pub IsClean : Action → Type 0
IsClean (act.Push (num.Int n)) = FitsSigned w32 n
IsClean (act.Push (num.Ref r)) = r ≡ 0
IsClean (act.Divide o) = operation.takes o ≡ operation.gives o ∷ operation.gives o ∷ []
IsClean (act.GetStatic t f) = IsFloatless t × (field_type f.desc ≡ Some t)
IsClean (act.PutStatic t f) = IsFloatless t × (field_type f.desc ≡ Some t)
IsClean (act.GetField t f) = IsFloatless t × (field_type f.desc ≡ Some t)
IsClean (act.PutField t f) = IsFloatless t × (field_type f.desc ≡ Some t)
IsClean (act.Call d f) = IsMethodType f.desc d
IsClean (act.CallOn d f) = IsMethodType f.desc d × ((e : Descriptor) × (d ≡ with_receiver e))
IsClean a = Unit {0}

-- a return gives a value of the sort of the method's result
abbrev pub EndsWell : Program → Action → Type 0
EndsWell p (act.Give t) = sorts_given t ≡ sorts_of_result p.desc.result
EndsWell p a = Unit {0}

-- each action of a program says so
abbrev pub IsCleanProgram : Program → Type 0
IsCleanProgram p = (k : ℕ) (a : Action) → IsAt p k a → IsClean a
