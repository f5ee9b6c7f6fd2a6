-- Operand stacks and states as they stand in memory.
use Rattle.std.specs.Prelude.{ℕ, List, Option, refl}
use Rattle.std.specs.Coded.{Coded, code_by, coded×, coded_ℕ, coded_list, coded_option}
use Rattle.pv_value.specs.declared.number.Num.{Num}
use Rattle.pv_value.specs.declared.heap.Heap.{Heap}
use Rattle.pv_value.specs.contracts.number.Num as num_row
use Rattle.pv_value.specs.contracts.heap.Heap as heap_row
use Rattle.pv_machine.specs.Machine.{State}

-- an operand stack with its top first, and for how many numbers it has memory
pub record StackInMemory : Type 0 where
  pub nums : List Num
  pub room : ℕ

-- a state, for how many numbers its operand stack has memory, and how many the method may have there
pub record StateInMemory : Type 0 where
  pub state : State
  pub room : ℕ
  pub max_stack : ℕ

abbrev pub coded_num : Coded Num
coded_num = (num_row.the_row).coded

-- a state is stored as its parts
abbrev pub coded_state : Coded State
coded_state =
    code_by (ℕ × (List Num × (List (Option Num) × (Heap × Heap))))
    (coded× coded_ℕ (coded× (coded_list coded_num) (coded× (coded_list (coded_option coded_num)) (coded× (heap_row.the_row).coded (heap_row.the_row).coded))))
    (λ s. (s.at, (s.stack, (s.locals, (s.heap, s.heap0))))) (λ p. record { at = p.0; stack = p.1.0; locals = p.1.1.0; heap = p.1.1.1.0; heap0 = p.1.1.1.1 }) (λ _. refl)

abbrev pub coded_state_in_memory : Coded StateInMemory
coded_state_in_memory =
    code_by (State × (ℕ × ℕ)) (coded× coded_state (coded× coded_ℕ coded_ℕ))
    (λ s. (s.state, (s.room, s.max_stack))) (λ p. record { state = p.0; room = p.1.0; max_stack = p.1.1 }) (λ _. refl)
