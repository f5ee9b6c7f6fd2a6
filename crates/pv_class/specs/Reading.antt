-- What the readers of a class file answer.
use Rattle.std.specs.Prelude.{◌≡◌, ℕ, ◌-◌, Bool, true, List, [], ◌∷◌, ◌++◌}
use Rattle.pv_pool.specs.declared.entry.Entry.{Entry}
use Rattle.pv_pool.specs.declared.fault.PoolFault.{PoolFault}
use Rattle.pv_pool.specs.declared.fault.PoolFault.TheVariants as pool
use Rattle.pv_class.specs.declared.fault.PoolWord.TheVariants as word
use Rattle.pv_class.specs.declared.fault.ClassFault.{ClassFault}
use Rattle.pv_class.specs.declared.fault.ClassFault.TheVariants as fault
use Rattle.pv_class.specs.declared.fault.Failure.{Failure}
use Rattle.pv_format.specs.declared.stopped.Stopped.{Stopped}
use Rattle.pv_format.specs.declared.stopped.Stopped.TheVariants.{Failed, Memory}
use Rattle.pv_class.specs.declared.signature.Signature.{Signature}
use Rattle.pv_class.specs.Checks.{new}
use Rattle.pv_class.specs.declared.room.Room.{Room}
use Rattle.pv_class.specs.declared.table.Entries.{Entries}
use Rattle.pv_class.specs.declared.table.Entries.TheVariants.{Attributes, Handlers, Interfaces}
use Rattle.pv_class.specs.Grammars.{Grammar}
use Rattle.pv_class.specs.ClassGrammar.{skipped, handler, interface}
use Rattle.pv_class.specs.ClassFaults.{fault_at}

-- an entry of a table that is only tested
abbrev pub entry_of : Entries → List Entry → Room → Grammar (Unit {0})
entry_of Attributes pool room = skipped room pool
entry_of Handlers pool room = handler room
entry_of Interfaces pool room = interface room pool

-- a signature is added at the end where it is new
abbrev pub Puts : List Signature → List Signature → Signature → Bool → Type 0
Puts old after s is_new = (is_new ≡ (new old s).tells) × (is_new ≡ true → after ≡ old ++ s ∷ [])

-- the fault of a file of this length
abbrev pub fault_in : ℕ → Stopped Failure → ClassFault
fault_in len (Failed e) = fault_at e.cause (len - e.left)
fault_in len Memory = fault.Memory

abbrev pub of_pool : PoolFault → ClassFault
of_pool (pool.Truncated at) = fault.Truncated at
of_pool (pool.Tag at) = fault.Pool word.Tag at
of_pool (pool.Utf8 at) = fault.Pool word.Utf8 at
of_pool (pool.Reference at) = fault.Pool word.Reference at
of_pool pool.Memory = fault.Memory
