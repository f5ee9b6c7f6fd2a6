-- Facts of a world about types: what a type test and a reference store find (JVMS 6.5, instanceof, checkcast, aastore). They are entries of the table of calls,
-- under symbols that no class file has: each has the byte 0xFF in a name, which isn't modified UTF-8 (JVMS 4.4.7).
use Rattle.std.specs.Prelude.{◌≡◌, ℕ, List, [], ◌∷◌, ℤ, pos, codes, Bool, not, false, Option, Some}
use Rattle.std.specs.Ordering.{int_eq}
use Rattle.std.specs.FinMap.{FinMap, insert}
use Rattle.pv_value.specs.Descriptors.{IsMethodType}
use Rattle.pv_value.specs.Order.{loc_cmp}
use Rattle.pv_value.specs.Worlds.{reply}
use Rattle.pv_value.specs.declared.descriptor.Descriptor.{Descriptor}
use Rattle.pv_value.specs.declared.descriptor.JType.TheVariants.{Z}
use Rattle.pv_value.specs.declared.name.Sym.{Sym}
use Rattle.pv_value.specs.declared.number.Num.{Num}
use Rattle.pv_value.specs.declared.number.Num.TheVariants.{Int, Ref}
use Rattle.pv_value.specs.declared.outcome.Outcome.{Outcome}
use Rattle.pv_value.specs.declared.outcome.Outcome.TheVariants.{Returned}
use Rattle.pv_value.specs.declared.receiver.TheConstants.{MARK}
use Rattle.pv_value.specs.declared.world.CallKey.{CallKey}
use Rattle.pv_value.specs.declared.world.World.{World}

-- a name that no class file has
abbrev pub marked : List ℕ → List ℕ
marked word = MARK ∷ word

-- ---- under which symbols facts stand

-- that an object is of a class
abbrev pub is_sym : List ℕ → Sym
is_sym class = record { class = class; name = marked (codes "is"); desc = codes "(Ljava/lang/Object;)Z" }

-- that a reference fits an array
abbrev pub fits_sym : Sym
fits_sym = record { class = marked (codes "array"); name = marked (codes "fits"); desc = codes "(Ljava/lang/Object;Ljava/lang/Object;)Z" }

-- ---- what is thrown where a fact doesn't hold: the objects of two literals, whose texts no literal of a class file has

abbrev pub cast_text : List ℕ
cast_text = marked (codes "cast")

abbrev pub store_text : List ℕ
store_text = marked (codes "store")

-- ---- facts

-- a reply tells a fact by an int other than 0
abbrev pub tells : Option Outcome → Bool
tells (Some (Returned (Some (Int n)) h)) = not (int_eq n (pos 0))
tells _ = false

-- the call of this symbol with these references, at the heap with which the method starts
abbrev pub asked : Sym → FinMap loc_cmp ℤ → List Num → CallKey
asked s start args = record { sym = s; heap = start; args = args }

-- the object o is of the class
abbrev pub is : World → FinMap loc_cmp ℤ → List ℕ → ℕ → Bool
is w start class o = tells (reply w (is_sym class) start (Ref o ∷ []))

-- the reference v may be stored in the array a
abbrev pub fits : World → FinMap loc_cmp ℤ → ℕ → ℕ → Bool
fits w start a v = tells (reply w fits_sym start (Ref a ∷ Ref v ∷ []))

-- ---- telling a fact: the call returns 1 and leaves the heap, and all else is as it was

abbrev pub told : World → CallKey → World
told w key = record w { calls = insert w.calls key (Returned (Some (Int (pos 1))) key.heap) }

abbrev pub is_key : FinMap loc_cmp ℤ → List ℕ → ℕ → CallKey
is_key start class o = asked (is_sym class) start (Ref o ∷ [])

abbrev pub fits_key : FinMap loc_cmp ℤ → ℕ → ℕ → CallKey
fits_key start a v = asked fits_sym start (Ref a ∷ Ref v ∷ [])

-- a symbol of facts: its descriptor gives a boolean
abbrev pub IsTold : Sym → Type 0
IsTold s = (d : Descriptor) × IsMethodType s.desc d × (d.result ≡ Some Z)
