-- The tests and exits of the last action of a block: what they stand for, and their sorts.
use Rattle.std.proofs.Common.{◌≡◌, ℕ, zero, suc, List, [], ◌∷◌, Some, refl, subst}
use Rattle.pv_block.proofs.Words.{Sort, some_of, no_some, Node, OpSort, F, T, H, Graph, Part, Grows, IsOfSort, unit_part, clear_part, end_slots, throw, give, Held, Ending, Returns, Entry, StandsFor, HoldsFor, op_sort, AreSorted, IsSorted, ending_slot, ExitStands, IsSortedEnding, state_of, ended, faulted, EndsFor, IsSortedState, IsSortedLeaving}
use Rattle.pv_frame.specs.declared.sort.Sort.TheVariants as sort
use Rattle.pv_runs.specs.Held as parts
use Rattle.pv_block.proofs.Standing.{grown, stands_on}

-- ---- where a graph grows

pub sort_on : (old new : Graph) (n : ℕ) (s : OpSort) → Grows old new → IsOfSort old n s → IsOfSort new n s
sort_on old new n s g x = g.extends.sorts n s x

pub ends_on : (at : Entry) (old new : Graph) (e : Ending) (h : parts.Held) → Grows old new → EndsFor at old.nodes e h → EndsFor at new.nodes e h
ends_on at old new e h g x =
    let s = grown old new g in
    record {
      token = stands_on at old.nodes new.nodes e.token h.token s x.token;
      fault = stands_on at old.nodes new.nodes e.fault clear_part s x.fault;
      result_ = stands_on at old.nodes new.nodes e.result unit_part s x.result_;
      heap = stands_on at old.nodes new.nodes e.heap h.heap s x.heap;
    }

pub ending_on : (old new : Graph) (s : Sort) (e : Ending) → Grows old new → IsSortedEnding old s e → IsSortedEnding new s e
ending_on old new s e g x =
    record { token = sort_on old new e.token T g x.token; fault = sort_on old new e.fault F g x.fault; result_is = sort_on old new e.result (op_sort s) g x.result_is; heap = sort_on old new e.heap H g x.heap }

pub cells_on : (old new : Graph) (cells : List _) → Grows old new → AreSorted old cells → AreSorted new cells
cells_on old new [] g h = tt
cells_on old new (c ∷ cells) g h = (sort_on old new c.node (op_sort c.sort) g h.0, cells_on old new cells g h.1)

pub sorted_on : (old new : Graph) (c : Held) → Grows old new → IsSorted old c → IsSorted new c
sorted_on old new c g s = record {
  graph = g.graph;
  stack = cells_on old new c.stack g s.stack;
  locals = cells_on old new c.locals g s.locals;
  heap = sort_on old new c.heap H g s.heap;
  token = sort_on old new c.token T g s.token;
  unit = sort_on old new c.unit T g s.unit;
  clear = sort_on old new c.clear F g s.clear;
  start = sort_on old new c.start T g s.start;
}

-- ---- exits

-- the slots where the method ends
ending_slots : (at : Entry) (nodes : List Node) (e : Ending) (token fault result heap : Part) → StandsFor at nodes e.token token → StandsFor at nodes e.fault fault → StandsFor at nodes e.result result → StandsFor at nodes e.heap heap
    → (s n : ℕ) → ending_slot e s ≡ Some n → StandsFor at nodes n (end_slots token fault result heap s)
ending_slots at nodes e token fault result heap t f r h zero n i = subst (λ (n : ℕ). StandsFor at nodes n token) (some_of _ _ i) t
ending_slots at nodes e token fault result heap t f r h (suc zero) n i = subst (λ (n : ℕ). StandsFor at nodes n fault) (some_of _ _ i) f
ending_slots at nodes e token fault result heap t f r h (suc (suc zero)) n i = subst (λ (n : ℕ). StandsFor at nodes n result) (some_of _ _ i) r
ending_slots at nodes e token fault result heap t f r h (suc (suc (suc zero))) n i = subst (λ (n : ℕ). StandsFor at nodes n heap) (some_of _ _ i) h
ending_slots at nodes e token fault result heap t f r h (suc (suc (suc (suc s)))) n i = no_some n i

pub throw_exit : (at : Entry) (nodes : List Node) (ends : Ending) (h : parts.Held) (fault : ℕ) (p : Part) → EndsFor at nodes ends h → StandsFor at nodes fault p → ExitStands at nodes (faulted ends fault) (throw p h)
throw_exit at nodes ends h fault p x f = record { dest = refl; slots_ = ending_slots at nodes (record ends { fault = fault }) h.token p unit_part h.heap x.token f x.result_ x.heap }

pub give_exit : (at : Entry) (nodes : List Node) (ends : Ending) (h : parts.Held) (value : ℕ) (p : Part) → EndsFor at nodes ends h → StandsFor at nodes value p → ExitStands at nodes (Returns (record ends { result = value })) (give p h)
give_exit at nodes ends h value p x v = record { dest = refl; slots_ = ending_slots at nodes (record ends { result = value }) h.token clear_part p h.heap x.token x.fault v x.heap }

pub ended_for : (at : Entry) (nodes : List Node) (c : Held) (h : parts.Held) → HoldsFor at nodes c h → EndsFor at nodes (ended c) h
ended_for at nodes c h x = record { token = x.token; fault = x.clear; result_ = x.unit; heap = x.heap }

-- ---- sorts of exits

pub state_sorted : (g : Graph) (c : Held) → IsSorted g c → IsSortedState g (state_of c)
state_sorted g c x = record { stack = x.stack; locals = x.locals; heap = x.heap; token = x.token }

pub ended_sorted : (g : Graph) (c : Held) → IsSorted g c → IsSortedEnding g sort.Unknown (ended c)
ended_sorted g c x = record { token = x.token; fault = x.clear; result_is = x.unit; heap = x.heap }

pub faulted_sorted : (g : Graph) (s : Sort) (ends : Ending) (fault : ℕ) → IsSortedEnding g sort.Unknown ends → IsOfSort g fault F → IsSortedLeaving g s (faulted ends fault)
faulted_sorted g s ends fault x f = record { token = x.token; fault = f; result_is = x.result_is; heap = x.heap }
