-- What a loop carries: the slots that its blocks may change.
use Rattle.std.specs.Prelude.{ℕ, zero, suc, ◌-◌, Bool, true, false, ◌||◌, ◌&&◌, not, nat_lt, ◌==◌, if◌then◌else◌, List, [], ◌∷◌, Option, slice_get, unwrap_or, option_map}
use Rattle.std.specs.List.{list_any}
use Rattle.pv_frame.specs.declared.action.Action.{Action}
use Rattle.pv_frame.specs.declared.action.Action.TheVariants as act
use Rattle.pv_frame.specs.declared.program.Program.{Program}
use Rattle.pv_frame.specs.declared.frame.Frame.{Frame}
use Rattle.pv_frame.specs.Stacks.{is_wide}
use Rattle.pv_flow.specs.declared.block.Block.{Block}
use Rattle.pv_loops.specs.declared.forest.Loop.{Loop}
use Rattle.pv_runs.specs.Held.{slots, by_turns, Cell, Held, acted}
use Rattle.pv_runs.specs.Blocks.{held_first}

-- ---- what an action changes

-- the local holds a value of category 2, which takes the next local too
abbrev pub holds_wide : List Cell → ℕ → Bool
holds_wide locals k = unwrap_or (option_map (λ c. is_wide c.sort) (slice_get locals k)) false

-- the action leaves another value in local j, or none: it increases it, or stores there; or it stores a value of category 2 into
-- the local before; or it stores into the local after a value of category 2 that starts in local j, which is lost (JVMS 2.6.1)
abbrev pub writes_local : List Cell → Action → ℕ → Bool
writes_local locals (act.Store s k) j = (j == k) || (is_wide s && (j == suc k)) || (holds_wide locals j && (suc j == k))
writes_local locals (act.Increase k by) j = j == k
writes_local locals a j = false

-- the action leaves another heap
abbrev pub writes_heap : Action → Bool
writes_heap (act.PutStatic t f) = true
writes_heap (act.PutField t f) = true
writes_heap (act.StoreElement k) = true
writes_heap act.StoreRef = true
writes_heap (act.Call d f) = true
writes_heap (act.CallOn d f) = true
writes_heap a = false

-- the action changes the slot, which is the heap or a local
abbrev pub writes : Held → Action → ℕ → Bool
writes h a = slots false false false (writes_heap a) (by_turns (writes_local h.locals a) (λ j. false))

-- ---- what a block changes

-- one of the n actions from place k on changes the slot
abbrev pub writes_along : Program → ℕ → ℕ → Held → ℕ → Bool
writes_along p zero k h s = false
writes_along p (suc n) k h s =
    unwrap_or (option_map (λ a. writes h a s || unwrap_or (option_map (λ g. writes_along p n (suc k) g s) (acted a h)) false) (slice_get p.actions k)) false

abbrev pub block_writes : Program → List (Option Frame) → ℕ → Block → Bool
block_writes p frames s b = unwrap_or (option_map (λ h. writes_along p (suc (b.last - b.first)) b.first h s) (held_first frames b)) false

-- ---- what a loop carries

-- Every loop carries the token and the operand stack. And what isn't at a block has the same value at each exit to a block, so it
-- counts as carried: the fault and the result, and locals that the method doesn't have.
abbrev pub always_carried : Program → ℕ → Bool
always_carried p = slots true true true false (by_turns (λ k. not (nat_lt k p.max_locals)) (λ j. true))

-- the nodes of the loop with this header
abbrev pub members_of : List Loop → ℕ → List ℕ
members_of [] h = []
members_of (l ∷ loops) h = if l.header == h then l.members.items else members_of loops h

-- block n changes the slot
abbrev pub writes_in : Program → List (Option Frame) → List Block → ℕ → ℕ → Bool
writes_in p frames blocks s n = unwrap_or (option_map (block_writes p frames s) (slice_get blocks n)) false

-- the loop with this header carries the slot: always, or since one of its blocks changes it
abbrev pub carries : Program → List (Option Frame) → List Block → List Loop → ℕ → ℕ → Bool
carries p frames blocks loops h s = always_carried p s || list_any (writes_in p frames blocks s) (members_of loops h)
