use Rattle.std.proofs.Common.{List, sym, ap, ◌∙◌}
use Rattle.pv_build.proofs.Words.{Cell, local_node, stack_node, slot_of, Slot, number}
use Rattle.pv_build.proofs.Slotted.{turn_local, turn_stack}
use Rattle.pv_build.proofs.slot.of_state.Goals as goal

pub returns-in-Local : goal.returns-in-Local
returns-in-Local c =
    c.of_local.ensures ∙ ap (λ (cells : List Cell). local_node cells c.in-Local.k) c.as_slice.ensures
    ∙ sym (turn_local (local_node c.args.state.now.locals) (stack_node c.args.state.now.stack) c.in-Local.k) ∙ sym (ap (λ (s : Slot). slot_of c.args.state.now (number s)) c.in-Local.is)

pub returns-in-Place : goal.returns-in-Place
returns-in-Place c =
    c.of_place.ensures ∙ ap (λ (cells : List Cell). stack_node cells c.in-Place.j) c.as_slice-in-Place.ensures
    ∙ sym (turn_stack (local_node c.args.state.now.locals) (stack_node c.args.state.now.stack) c.in-Place.j) ∙ sym (ap (λ (s : Slot). slot_of c.args.state.now (number s)) c.in-Place.is)
