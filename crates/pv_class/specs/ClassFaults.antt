-- The fault of a file that is no class file: that of the first item that fails.
use Rattle.std.specs.Prelude.{◌≡◌, ℕ, ◌-◌, ◌≤◌, ◌<◌, List, length, drop}
use Rattle.pv_pool.specs.declared.entry.Entry.{Entry}
use Rattle.pv_pool.specs.declared.fault.PoolFault.{PoolFault}
use Rattle.pv_pool.specs.declared.fault.PoolFault.TheVariants as pool
use Rattle.pv_pool.specs.Pools.{IsPoolAt}
use Rattle.pv_pool.specs.Faults.{HasFault}
use Rattle.pv_class.specs.declared.class.TheConstants.{LONGEST_FILE}
use Rattle.pv_class.specs.declared.fault.Cause.{Cause}
use Rattle.pv_class.specs.declared.fault.Cause.TheVariants as cause
use Rattle.pv_class.specs.declared.fault.PoolWord.TheVariants as word
use Rattle.pv_class.specs.declared.fault.ClassFault.{ClassFault}
use Rattle.pv_class.specs.declared.fault.ClassFault.TheVariants as fault
use Rattle.pv_class.specs.declared.fault.Failure.{Failure}
use Rattle.pv_format.specs.Grammars.{Takes, Stops}
use Rattle.pv_class.specs.ClassGrammar.{head, tail}

-- the fault of an item that fails at a place
abbrev pub fault_at : Cause → ℕ → ClassFault
fault_at cause.Truncated at = fault.Truncated at
fault_at cause.Magic at = fault.Magic at
fault_at cause.Version at = fault.Version at
fault_at cause.Reference at = fault.Pool word.Reference at
fault_at cause.Descriptor at = fault.Descriptor at
fault_at cause.Code at = fault.Code at
fault_at cause.Duplicate at = fault.Duplicate at
fault_at cause.Trailing at = fault.Trailing at

-- a failure as a fault of the file, whose place counts from the front
abbrev pub fault_of : List ℕ → Failure → ClassFault
fault_of file e = fault_at e.cause (length file - e.left)

-- a fault of the constant pool as one of the file
abbrev pub IsOfPool : PoolFault → ClassFault → Type 0
IsOfPool (pool.Truncated at) f = f ≡ fault.Truncated at
IsOfPool (pool.Tag at) f = f ≡ fault.Pool word.Tag at
IsOfPool (pool.Utf8 at) f = f ≡ fault.Pool word.Utf8 at
IsOfPool (pool.Reference at) f = f ≡ fault.Pool word.Reference at
IsOfPool pool.Memory f = ⊥

-- after a head that reads, the pool at offset 8
abbrev pub HasHead : List ℕ → Type 0
HasHead file = (rest : List ℕ) × Takes head file tt rest

-- the first part that fails: the head, the pool, or what stands after it
pub data IsBad (file : List ℕ) (f : ClassFault) : Type 0 where
  too_long : LONGEST_FILE < length file → f ≡ fault.TooLong LONGEST_FILE → IsBad file f
  in_head : length file ≤ LONGEST_FILE → (e : Failure) → Stops head file e → f ≡ fault_of file e → IsBad file f
  in_pool : length file ≤ LONGEST_FILE → HasHead file → (e : PoolFault) → HasFault file 8 e → IsOfPool e f → IsBad file f
  in_tail : length file ≤ LONGEST_FILE → HasHead file → (pool : List Entry) (after : ℕ) → IsPoolAt file 8 pool after → (e : Failure) → Stops (tail pool) (drop after file) e → f ≡ fault_of file e → IsBad file f
