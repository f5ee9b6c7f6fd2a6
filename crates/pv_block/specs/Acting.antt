-- What an action of a block does to what is held in nodes.
use Rattle.std.specs.Prelude.{◌≡◌, ℕ, List, [], ◌∷◌, Option, Some, None, option_map, if◌then◌else◌}
use Rattle.std.specs.List.{AllZip}
use Rattle.pv_frame.specs.declared.action.Action.{Action}
use Rattle.pv_frame.specs.declared.action.Action.TheVariants as act
use Rattle.pv_frame.specs.declared.action.Move.{Move}
use Rattle.pv_frame.specs.declared.program.Program.{Program}
use Rattle.pv_frame.specs.Stacks.{popped, moved, has_room, set_local}
use Rattle.pv_frame.specs.Effects.{takes}
use Rattle.pv_graph.specs.declared.node.Node.{Node}
use Rattle.pv_runs.specs.Held.{acted_on, acted}
use Rattle.pv_runs.specs.Held as parts
use Rattle.pv_runs.specs.Blocks.{acted_along}
use Rattle.pv_block.specs.declared.held.Cell.{Cell}
use Rattle.pv_block.specs.declared.held.Held.{Held}
use Rattle.pv_block.specs.Cells.{sort_in, empty}
use Rattle.pv_block.specs.Standing.{Entry, CellStands, HoldsFor}

-- the operands of the action, and what is held without them
abbrev pub popped_in : Action → Held → Option (List Cell × Held)
popped_in a c = option_map (λ q. (q.0, record c { stack = q.1 })) (popped sort_in (takes a) c.stack)

abbrev pub shifted : Move → Held → Option Held
shifted m c = option_map (λ stack. record c { stack = stack }) (moved sort_in m c.stack)

-- after an action that moves values alone, or leaves all as it is
abbrev pub rearranged : Action → Held → List Cell → Option Held
rearranged act.Nop c cells = Some c
rearranged (act.Store s k) c (cell ∷ []) = if has_room cell.sort k c.locals then Some (record c { locals = set_local sort_in (empty c.unit) k cell c.locals }) else None
rearranged (act.Move m) c cells = shifted m c
rearranged (act.Branch t target) c cells = Some c
rearranged (act.Jump target) c cells = Some c
rearranged (act.Switch default cases) c cells = Some c
rearranged a c cells = None

-- ---- what an action does

-- whatever is held in parts, with these operands, what is held in nodes after the action stands for what is held in parts after it
abbrev pub ActsOn : Action → List Node → Held → List Cell → List Node → Option Held → Type 0
ActsOn a old before cells new after = (at : Entry) (h g : parts.Held) (operands : List parts.Cell) → HoldsFor at old before h → AllZip (CellStands at old) cells operands → acted_on a h operands ≡ Some g
    → (c : Held) × (after ≡ Some c) × HoldsFor at new c g

-- ---- one action after the other

-- whatever is held in parts, what is held in nodes after an action, which pops its operands, stands for what is held in parts after it
abbrev pub Acts : Action → List Node → Held → List Node → Option Held → Type 0
Acts a old before new after = (at : Entry) (h g : parts.Held) → HoldsFor at old before h → acted a h ≡ Some g → (c : Held) × (after ≡ Some c) × HoldsFor at new c g

-- .. and so after the n actions from place k on
abbrev pub ActsAlong : Program → ℕ → ℕ → List Node → Held → List Node → Option Held → Type 0
ActsAlong p n k old before new after = (at : Entry) (h g : parts.Held) → HoldsFor at old before h → acted_along p n k h ≡ Some g → (c : Held) × (after ≡ Some c) × HoldsFor at new c g
