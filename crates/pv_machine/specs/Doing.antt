-- What actions do, by their effects; private to this crate.
use Rattle.std.specs.Prelude.{◌≡◌, ◌<◌, ℕ, ℤ, pos, List, [], ◌∷◌, length, drop, Option, Some, None, option_map, slice_set}
use Rattle.pv_pool.specs.Readers.{◌>>=◌}
use Rattle.pv_value.specs.declared.number.Num.{Num}
use Rattle.pv_value.specs.declared.number.Num.TheVariants as num
use Rattle.pv_value.specs.declared.heap.Heap.{Heap}
use Rattle.pv_value.specs.declared.world.World.{World}
use Rattle.pv_value.specs.declared.outcome.Outcome.TheVariants.{Returned}
use Rattle.pv_frame.specs.declared.action.Action.{Action}
use Rattle.pv_frame.specs.declared.action.Action.TheVariants as act
use Rattle.pv_frame.specs.declared.sort.Sort.{Sort}
use Rattle.pv_frame.specs.declared.program.Program.{Program}
use Rattle.pv_value.specs.Numbers.{IsNum}
use Rattle.pv_machine.specs.declared.effect.Effect.{Effect}
use Rattle.pv_machine.specs.declared.effect.Effect.TheVariants as effect
use Rattle.pv_machine.specs.InMemory.{StateInMemory}
use Rattle.pv_machine.specs.Machine.{State, Now, ended, next, pushes, goes, throws, stored, keeps, done}

-- where an effect leads
abbrev pub led : State → Effect → Option Now
led s effect.Next = Some (next s)
led s (effect.Push n) = Some (pushes s n)
led s (effect.Store k n) = option_map next (stored s k n)
led s (effect.Replace k n) = Some (next (record s { locals = slice_set s.locals k (Some n) }))
led s (effect.Write t at n) = keeps s t at n
led s (effect.Go target) = Some (goes s target)
led s (effect.Throw f) = Some (throws s f)
led s (effect.Return n) = Some (ended (Returned n s.heap))

-- a push has no room on the operand stack, or a write has no memory
abbrev pub Lacks : StateInMemory → ℕ → Effect → Type 0
Lacks s taken (effect.Push n) = s.room < length (n ∷ drop taken s.state.stack)
Lacks s taken (effect.Write t at n) = Unit {0}
Lacks s taken _ = ⊥

-- it writes nothing into the heap
abbrev pub KeepsHeap : Effect → Type 0
KeepsHeap (effect.Write t at n) = ⊥
KeepsHeap _ = Unit {0}

-- from each state an effect leads where it should
abbrev pub Leads : (State → Option Now) → Option Effect → Type 0
Leads done e = (s : State) → done s ≡ (e >>= led s)

-- the number of an int or a long, in the range of its sort
abbrev pub IsNumber : Num → ℤ → Type 0
IsNumber (num.Int n) v = (v ≡ n) × IsNum (num.Int n)
IsNumber (num.Long n) v = (v ≡ n) × IsNum (num.Long n)
IsNumber (num.Ref r) v = v ≡ pos 0

-- ---- groups of actions

-- of fields and arrays
abbrev pub IsAccess : Action → Type 0
IsAccess (act.GetStatic t f) = Unit {0}
IsAccess (act.PutStatic t f) = Unit {0}
IsAccess (act.GetField t f) = Unit {0}
IsAccess (act.PutField t f) = Unit {0}
IsAccess (act.LoadElement k) = Unit {0}
IsAccess (act.StoreElement k) = Unit {0}
IsAccess act.Length = Unit {0}
IsAccess _ = ⊥

-- that ask what the world tells of types
abbrev pub AsksTypes : Action → Type 0
AsksTypes act.StoreRef = Unit {0}
AsksTypes (act.Cast class) = Unit {0}
AsksTypes (act.InstanceOf class) = Unit {0}
AsksTypes _ = ⊥

-- the others with operands; neither a move nor a call
abbrev pub IsPlain : Action → Type 0
IsPlain act.Nop = Unit {0}
IsPlain (act.Push n) = Unit {0}
IsPlain (act.Literal text) = Unit {0}
IsPlain (act.Load t k) = Unit {0}
IsPlain (act.Store t k) = Unit {0}
IsPlain (act.Increase k by) = Unit {0}
IsPlain (act.Scalar op) = Unit {0}
IsPlain (act.Divide op) = Unit {0}
IsPlain (act.Branch t target) = Unit {0}
IsPlain (act.Jump target) = Unit {0}
IsPlain (act.Switch default cases) = Unit {0}
IsPlain (act.Give t) = Unit {0}
IsPlain act.Throw = Unit {0}
IsPlain _ = ⊥

-- in a state, an action with its operands does what an effect says
abbrev pub Does : Program → World → State → Action → List Num → Option Effect → Type 0
Does p w s a nums e = done p w s a nums ≡ (e >>= led s)

-- in each state
abbrev pub Accesses : World → Action → List Num → Option Effect → Type 0
Accesses w a nums e = (p : Program) (s : State) → Does p w s a nums e

-- in each state with this heap
abbrev pub Reads : World → Heap → Action → List Num → Option Effect → Type 0
Reads w heap a nums e =
    (p : Program) (at : ℕ) (stack : List Num) (locals : List (Option Num)) (heap0 : Heap) → Does p w (record { at = at; stack = stack; locals = locals; heap = heap; heap0 = heap0 }) a nums e

-- in each state of a method that started with this heap
abbrev pub Asks : World → Heap → Action → List Num → Option Effect → Type 0
Asks w heap0 a nums e =
    (p : Program) (at : ℕ) (stack : List Num) (locals : List (Option Num)) (heap : Heap) → Does p w (record { at = at; stack = stack; locals = locals; heap = heap; heap0 = heap0 }) a nums e

-- in each state with these locals
abbrev pub Acts : Program → World → List (Option Num) → Action → List Num → Option Effect → Type 0
Acts p w locals a nums e =
    (at : ℕ) (stack : List Num) (heap heap0 : Heap) → Does p w (record { at = at; stack = stack; locals = locals; heap = heap; heap0 = heap0 }) a nums e

-- ---- operands

-- an array and an index
abbrev pub element_of : List Num → Option (ℕ × ℤ)
element_of (num.Ref r ∷ num.Int i ∷ []) = Some (r, i)
element_of _ = None

-- an array, an index and a number
abbrev pub element_and_number_of : List Num → Option (ℕ × ℤ × Num)
element_and_number_of (num.Ref r ∷ num.Int i ∷ n ∷ []) = Some (r, i, n)
element_and_number_of _ = None

-- an array, an index and a reference
abbrev pub element_and_ref_of : List Num → Option (ℕ × ℤ × ℕ)
element_and_ref_of (num.Ref r ∷ num.Int i ∷ num.Ref v ∷ []) = Some (r, i, v)
element_and_ref_of _ = None
