-- A store of files in memory.
use Rattle.std.specs.Prelude.{◌≡◌, ◌==◌, ℕ, ◌+◌, Bool, if◌then◌else◌, nat_le, List, [], ◌∷◌, ◌++◌, length, map, Option, Some, None, Result, Ok, Err}
use Rattle.std.specs.List.{list_any}
use Rattle.std.specs.Global.{Vec}
use Rattle.std.specs.FinMap.{from_entries, get, insert, code}
use Rattle.std.specs.Coded.{Coded, code_by, coded×, coded_ℕ, coded_list}
use Rattle.std.proofs.Common.{refl}
use Rattle.pv_value.specs.Order.{name_cmp}
use Rattle.pv_base.specs.Stored.{Stored}
use Rattle.pv_base.specs.Counts.{count_up}
use Rattle.pv_base.specs.contracts.outside.Asked as asked_row
use Rattle.pv_base.specs.declared.outside.Asked.{Asked}
use Rattle.pv_base.specs.declared.outside.Asked.TheVariants.{Place}
use Rattle.pv_base.specs.declared.outside.FileFault.{FileFault}
use Rattle.pv_base.specs.declared.outside.FileFault.TheVariants as file

-- what is held, the calls so far, the numbers of the calls that are to fail, and the count of failures
pub record MemoryStore : Type 0 where
  pub held : Stored
  pub asked : List Asked
  pub fail : List ℕ
  pub failures : ℕ

-- a store is kept as the tuple of its fields
abbrev pub coded_store : Coded MemoryStore
coded_store =
    code_by (Stored × (List Asked × (List ℕ × ℕ))) (coded× (code (coded_list coded_ℕ) (coded_list coded_ℕ)) (coded× (coded_list (asked_row.the_row).coded) (coded× (coded_list coded_ℕ) coded_ℕ)))
    (λ s. (s.held, (s.asked, (s.fail, s.failures)))) (λ p. record { held = p.0; asked = p.1.0; fail = p.1.1.0; failures = p.1.1.1 }) (λ _. refl)

-- what entries hold: the first of a name counts
abbrev pub stored : List (List ℕ × Vec ℕ) → Stored
stored es = from_entries {R = name_cmp} (map (λ (e : List ℕ × Vec ℕ). (e.0, e.1.items)) es)

-- whether the next call is to fail: its number, counted from 1, is listed
abbrev pub is_to_fail : MemoryStore → Bool
is_to_fail store = list_any (λ n. n == length store.asked + 1) store.fail

-- the bytes under a name, if there are any, up to a limit
abbrev pub short_enough : ℕ → Option (List ℕ) → Result (List ℕ) FileFault
short_enough limit None = Err file.Failed
short_enough limit (Some bytes) = if nat_le (length bytes) limit then Ok bytes else Err file.TooLong

-- what a fetch answers, if memory lasts
abbrev pub fetched : MemoryStore → List ℕ → ℕ → Result (List ℕ) FileFault
fetched store name limit = if is_to_fail store then Err file.Failed else short_enough limit (get store.held name)

-- what a place answers, if memory lasts
abbrev pub placed : MemoryStore → Result (Unit {0}) FileFault
placed store = if is_to_fail store then Err file.Failed else Ok tt

-- this is the answer, or memory ran out
abbrev pub Answers : {X Y : Type 0} → (X → Y) → Result X FileFault → Result Y FileFault → Type 0
Answers view (Ok x) wanted = wanted ≡ Ok (view x)
Answers view (Err file.Memory) wanted = Unit {0}
Answers view (Err e) wanted = wanted ≡ Err e

-- the store with one call more
abbrev pub noted : MemoryStore → Asked → MemoryStore
noted store call = record store { asked = store.asked ++ call ∷ [] }

-- the store after a call that was answered so: out of memory changes nothing, and a failure counts
abbrev pub after_call : {T : Type 0} → MemoryStore → Asked → Result T FileFault → MemoryStore
after_call store call (Err file.Memory) = store
after_call store call (Err file.Failed) = record (noted store call) { failures = count_up store.failures }
after_call store call _ = noted store call

-- the store after a place that was answered so
abbrev pub after_place : MemoryStore → List ℕ → List ℕ → Result (Unit {0}) FileFault → MemoryStore
after_place store name bytes (Ok u) = record (noted store (Place name)) { held = insert store.held name bytes }
after_place store name bytes (Err e) = after_call {T = Unit {0}} store (Place name) (Err e)
