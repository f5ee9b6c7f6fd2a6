use Rattle.std.proofs.Common.{Some, None, ap, sym, ◌∙◌}
use Rattle.pv_machine.proofs.Words.{has_room, sort_of_local, lost_before, set_local_is}
use Rattle.pv_machine.proofs.locals.store.Goals as goal

pub returns : goal.returns
returns c =
    let before = c.args.locals.now.items in
    let sort = ap (λ s. has_room s c.args.place before) (sym c.sort_of.ensures) in
    let room = sort ∙ ap (has_room c.sort_of.result c.args.place) (sym c.deref.ensures.value) ∙ sym c.has_room.ensures ∙ c.if-not-has_room.false in
    let lost = c.lose_long.ensures ∙ ap (λ k. lost_before sort_of_local None k before) c.from.ensures in
    (room, set_local_is sort_of_local None c.args.place (Some c.args.n) before c.lose_long.new.locals.items c.put.new.locals.items room lost c.put.ensures)
